use Rattle.ledger_open.proofs.ErasingLaws.{stands_but_one, stands_with_one}
use Rattle.ledger_open.proofs.laws.a_hidden_content_may_be_zeroed.Goals as goal

pub returns-clause-torn : goal.returns-clause-torn
returns-clause-torn c floor zeros image new h n stands low hidden out = stands_but_one floor zeros image h stands n low hidden new out

pub returns-clause-zeroed : goal.returns-clause-zeroed
returns-clause-zeroed c floor zeros image new h n stands low hidden out zeroed = stands_with_one floor zeros image h stands n low hidden new out zeroed

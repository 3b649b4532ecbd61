use Rattle.ledger_open.proofs.ErasingLaws.{meanwhile, given_there, given_erased, nothing_open}
use Rattle.ledger_open.proofs.FinishLaws.{given_clean}
use Rattle.ledger_open.proofs.laws.a_content_may_be_given_up.Goals as goal

pub returns-clause-meanwhile : goal.returns-clause-meanwhile
returns-clause-meanwhile c image new h n stands is out = meanwhile image h stands n new is (given_there image h stands n is).0 out

pub returns-clause-there : goal.returns-clause-there
returns-clause-there c image h n stands is = given_there image h stands n is

pub returns-clause-erased : goal.returns-clause-erased
returns-clause-erased c image h stands at = (given_erased image h stands at).0

pub returns-clause-other : goal.returns-clause-other
returns-clause-other c = nothing_open

pub returns-clause-clean : goal.returns-clause-clean
returns-clause-clean c = given_clean

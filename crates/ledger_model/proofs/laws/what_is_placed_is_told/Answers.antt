use Rattle.ledger_model.proofs.ToldLaws.{placed_told, told_placed}
use Rattle.ledger_model.proofs.laws.what_is_placed_is_told.Goals as goal

pub returns-clause-told : goal.returns-clause-told
returns-clause-told c = placed_told

pub returns-clause-placed : goal.returns-clause-placed
returns-clause-placed c = told_placed

use Rattle.ledger_model.proofs.OnceLaws.{placed_repeated}
use Rattle.ledger_model.proofs.laws.a_placed_number_is_repeated.Goals as goal

pub returns : goal.returns
returns c = placed_repeated

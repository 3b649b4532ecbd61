use Rattle.ledger_model.proofs.NeedLaws.{missing_same}
use Rattle.ledger_model.proofs.laws.needs_are_a_set.Goals as goal

pub returns : goal.returns
returns c = missing_same

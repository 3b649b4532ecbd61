use Rattle.ledger_model.proofs.BoundLaws.{nearest_lower, nearest_upper}
use Rattle.ledger_model.proofs.laws.the_bounds_are_nearest.Goals as goal

pub returns-clause-lower : goal.returns-clause-lower
returns-clause-lower c = λ h n lawful. nearest_lower h lawful.journals_are n

pub returns-clause-upper : goal.returns-clause-upper
returns-clause-upper c = λ h n lawful. nearest_upper h lawful.journals_are n

use Rattle.batch_committer.proofs.Opening.{held_lawful, held_some}
use Rattle.batch_committer.proofs.laws.a_held_history_is_lawful.Goals as goal

pub returns-clause-lawful : goal.returns-clause-lawful
returns-clause-lawful c = held_lawful

pub returns-clause-some : goal.returns-clause-some
returns-clause-some c = held_some

use Rattle.survivor_set.proofs.Readable.{carried_is_set}
use Rattle.survivor_set.proofs.laws.carried_sets_keep_the_rules.Goals as goal

pub returns : goal.returns
returns c = carried_is_set

use Rattle.survivor_set.proofs.Passing.{carried_set_refused}
use Rattle.survivor_set.proofs.laws.only_purges_refuse_carried_sets.Goals as goal

pub returns : goal.returns
returns c = carried_set_refused

use Rattle.survivor_set.proofs.Passing.{kept_set_refused}
use Rattle.survivor_set.proofs.laws.only_purges_refuse_kept_sets.Goals as goal

pub returns : goal.returns
returns c = kept_set_refused

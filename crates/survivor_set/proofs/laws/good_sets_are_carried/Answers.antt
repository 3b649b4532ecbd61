use Rattle.survivor_set.proofs.Lives.{gives_set}
use Rattle.survivor_set.proofs.laws.good_sets_are_carried.Goals as goal

pub returns : goal.returns
returns c = gives_set

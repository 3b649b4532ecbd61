use Rattle.time_peg.proofs.NearLaws.{nearest_before, nearest_behind}
use Rattle.time_peg.proofs.laws.bounds_are_nearest.Goals as goal

pub returns-clause-before : goal.returns-clause-before
returns-clause-before c = nearest_before

pub returns-clause-behind : goal.returns-clause-behind
returns-clause-behind c = nearest_behind

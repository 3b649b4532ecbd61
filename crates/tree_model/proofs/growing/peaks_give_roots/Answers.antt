use Rattle.std.proofs.Common.{[], ◌∷◌}
use Rattle.tree_model.proofs.RootsFrom.{from_none, from_list, from_whole, from_split_front, from_split_behind}
use Rattle.tree_model.proofs.growing.peaks_give_roots.Goals as goal

pub returns-clause-none : goal.returns-clause-none
returns-clause-none c hash leaves = from_none hash leaves

pub returns-clause-whole : goal.returns-clause-whole
returns-clause-whole c hash h peak = from_whole hash h (peak ∷ [])

pub returns-clause-front : goal.returns-clause-front
returns-clause-front c hash k p peak others leaves s le lt = from_split_front hash k (peak ∷ others) p leaves s le lt

pub returns-clause-behind : goal.returns-clause-behind
returns-clause-behind c hash k p tops leaves s lt = from_split_behind hash k tops p leaves s lt

pub returns-clause-list : goal.returns-clause-list
returns-clause-list c hash digests leaves = from_list hash digests leaves

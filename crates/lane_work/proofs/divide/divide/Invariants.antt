use Rattle.std.proofs.Common.{◌≡◌, ◌<◌, ◌++◌, ℕ, get_or, vec_items, vec_len}
use Rattle.std.specs.Vec.Iter.{into_iter_items}
use Rattle.lane_work.specs.Making.{lines_of}
use Rattle.lane_work.proofs.divide.divide.Given as goal

abbrev pub invariant-loop-said : goal.invariant-loop-said
invariant-loop-said l =
    goal.iterator-loop-said.can_next l.said-iterator
    × goal.iterator-loop-said.is_finite l.said-iterator
    × (vec_len l.lanes ≡ 8)
    × (l.yielded ++ into_iter_items l.said-iterator ≡ vec_items l.fn.window)
    × ((k : ℕ) (d : _) → k < 8 → (get_or (vec_items l.lanes) k d).items ≡ lines_of k l.yielded)

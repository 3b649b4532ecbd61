use Rattle.std.proofs.Common.{◌≡◌, ◌<◌, ℕ, [], get_or, vec_items, vec_len}
use Rattle.lane_work.proofs.divide.empty_lanes.Given as goal

abbrev pub invariant-loop-k : goal.invariant-loop-k
invariant-loop-k l = (vec_len l.lanes ≡ l._k) × ((k : ℕ) (d : _) → k < l._k → (get_or (vec_items l.lanes) k d).items ≡ [])

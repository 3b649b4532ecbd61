use Rattle.std.proofs.Common.{◌≡◌, ◌<◌, ℕ, get_or, vec_items, vec_len}
use Rattle.lane_work.proofs.divide.counts.Given as goal

abbrev pub invariant-loop-lane : goal.invariant-loop-lane
invariant-loop-lane l = (vec_len l.all ≡ l.lane-index) × ((k : ℕ) (d : _) → k < l.lane-index → get_or (vec_items l.all) k 0 ≡ vec_len (get_or l.lanes k d))

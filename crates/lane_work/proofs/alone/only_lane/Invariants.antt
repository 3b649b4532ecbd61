use Rattle.std.proofs.Common.{◌≡◌, ℕ, ◌<◌, get_or}
use Rattle.lane_work.specs.declared.kinds.LaneLine.{LaneLine}
use Rattle.lane_work.proofs.alone.only_lane.Given as goal

abbrev pub invariant-loop-line : goal.invariant-loop-line
invariant-loop-line l = (k : ℕ) (d : LaneLine) → k < l.line-index → (get_or l.lines k d).lane ≡ l.first.lane

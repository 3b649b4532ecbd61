use Rattle.std.proofs.Common.{ℕ, List, ap, ◌∙◌}
use Rattle.script_lines.specs.Grammar.{spoken_line}
use Rattle.lane_work.proofs.kinds.LaneLine.of.Goals as goal

pub invariant_of-result-clause-is_lane : goal.invariant_of-result-clause-is_lane
invariant_of-result-clause-is_lane c = c.lane_of_line-lane.ensures.lane ∙ ap (λ (l : List ℕ). (spoken_line l).0) c.as_slice.ensures

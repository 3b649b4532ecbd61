use Rattle.std.proofs.Common.{◌≡◌, drop}
use Rattle.survivor_set.specs.Outcomes.{survivors_refusal}
use Rattle.survivor_set.proofs.checking.check_survivors.Given as goal

abbrev pub invariant-loop-i : goal.invariant-loop-i
invariant-loop-i l = survivors_refusal l.set l.set.survivors ≡ survivors_refusal l.set (drop l.i l.set.survivors)

use Rattle.std.proofs.Common.{ℕ, ◌<◌}
use Rattle.audit_dump.proofs.Erased.{IsRightAt}
use Rattle.audit_dump.proofs.erasing.Erasures.first_wrong.Given as goal

-- each mark that was looked at is right
abbrev pub invariant-loop-place : goal.invariant-loop-place
invariant-loop-place l = (k : ℕ) → k < l.place → IsRightAt l.self k

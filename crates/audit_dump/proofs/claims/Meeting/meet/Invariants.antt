use Rattle.std.proofs.Common.{◌≡◌, ◌∷◌, ◌++◌, [], ℕ, List, length}
use Rattle.audit_dump.specs.Claims.{ArePartedAt, HaveMet}
use Rattle.audit_dump.specs.declared.claims.Claim.{Claim}
use Rattle.audit_dump.proofs.claims.Meeting.meet.Given as goal

-- some of the claims of the next entry were looked at
abbrev pub invariant-loop-claim : goal.invariant-loop-claim
invariant-loop-claim l = (claims : List Claim) (es : List (List ℕ)) → l.fn.index ≡ length es → HaveMet claims es l.fn.self → ArePartedAt (length es) claims (es ++ l.fn.entry ∷ []) l.self

abbrev pub decreases-loop-claim : goal.decreases-loop-claim
decreases-loop-claim l = length l.self.rest.now

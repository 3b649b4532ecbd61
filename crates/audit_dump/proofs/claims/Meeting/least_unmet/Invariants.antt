use Rattle.std.proofs.Common.{◌++◌, ℕ, List, take}
use Rattle.audit_dump.specs.Claims.{HaveMet, IsLeastUnmet}
use Rattle.audit_dump.specs.declared.claims.Claim.{Claim}
use Rattle.audit_dump.proofs.claims.Meeting.least_unmet.Given as goal

-- the least number among those that were looked at and the first of the others
abbrev pub invariant-loop-claim : goal.invariant-loop-claim
invariant-loop-claim l = (claims : List Claim) (es : List (List ℕ)) (h : HaveMet claims es l.self) → IsLeastUnmet (h.looked ++ take l.claim-index l.self.rest.now) es l.least

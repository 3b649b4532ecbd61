use Rattle.std.proofs.Common.{append-nil, sym, subst, List, ◌++◌}
use Rattle.std.proofs.lemmas.List.{take_all}
use Rattle.audit_dump.specs.Claims.{IsLeastUnmet}
use Rattle.audit_dump.specs.declared.claims.Claim.{Claim}
use Rattle.audit_dump.proofs.Meetings.{left_all, left_more}
use Rattle.audit_dump.proofs.claims.Meeting.least_unmet.Goals as goal

pub loop-claim-init : goal.loop-claim-init
loop-claim-init c = λ claims es h. subst (λ (t : List Claim). IsLeastUnmet t es c.args.self.now.least) (sym (append-nil h.looked)) h.least

pub loop-claim-preserved : goal.loop-claim-preserved
loop-claim-preserved c = λ claims es h. left_more claims es c.args.self.now h c.loop-claim.claim-index _ c.loop-claim.least c.least_with.result c.loop-claim-test.true (c.loop-claim.invariant claims es h) c.least_with.ensures

pub returns : goal.returns
returns c = λ claims es h. let rest = c.args.self.now.rest.now in
    left_all claims es c.args.self.now h c.loop-claim.least
    (subst (λ (t : List Claim). IsLeastUnmet (h.looked ++ t) es c.loop-claim.least) (take_all c.loop-claim.claim-index rest c.loop-claim-test.false) (c.loop-claim.invariant claims es h))

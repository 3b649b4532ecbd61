use Rattle.std.proofs.Common.{◌≡◌, ◌∷◌, ◌++◌, [], length, length-append, arith, subst, sym, ◌∙◌}
use Rattle.audit_dump.specs.Claims.{IsLeastUnmet}
use Rattle.audit_dump.specs.declared.claims.Meeting.{Meeting}
use Rattle.audit_dump.proofs.Meetings.{is_other, is_same, least_met, least_unmet, met_last, parted_more, parted_next, parted_past, unmet_last}
use Rattle.audit_dump.proofs.claims.Meeting.meet.Goals as goal
use Rattle.audit_dump.proofs.claims.Meeting.meet.Goals.{then-ne, else-ne}

pub loop-claim-init : goal.loop-claim-init
loop-claim-init c = λ claims es at h. parted_next claims es c.args.entry.now c.args.self.now h

pub loop-claim-preserved : goal.loop-claim-preserved
loop-claim-preserved c = λ claims es at h.
    let so = c.loop-claim.invariant claims es at h in
    let claim = c.in-Some.claim.now in
    let e = c.args.entry.now in
    let here : claim.index ≡ length es = c.if-claim-index.true ∙ at in
    let old = c.loop-claim.self in
    parted_more (length es) claims (es ++ e ∷ []) old (record { rest = c.in-Some.rest; least = c.if-ne.self.least }) claim so c.in-Some.ensures.cases (omega (arith, here, length-append es (e ∷ [])))
    (elim c.if-ne.branch [
      | then-ne w ↦ subst (λ (m : Meeting). IsLeastUnmet (so.looked ++ claim ∷ []) (es ++ e ∷ []) m.least) (sym w.self-is)
          (least_unmet so.looked (es ++ e ∷ []) old.least claim w.least_with.result so.least (unmet_last es e claim here (is_other claim.entry e c.ne.result c.ne.ensures w.if-ne.true)) w.least_with.ensures)
      | else-ne w ↦ subst (λ (m : Meeting). IsLeastUnmet (so.looked ++ claim ∷ []) (es ++ e ∷ []) m.least) (sym w.self-is)
          (least_met so.looked (es ++ e ∷ []) old.least claim so.least (met_last es e claim here (is_same claim.entry e c.ne.result c.ne.ensures w.if-ne.false)))
    ])

pub returns-else-claim-index : goal.returns-else-claim-index
returns-else-claim-index c = λ claims es at h.
    let so = c.loop-claim.invariant claims es at h in
    let e = c.args.entry.now in
    parted_past (length es) claims (es ++ e ∷ []) c.loop-claim.self c.in-Some.claim.now c.in-Some.rest.now so (length-append es (e ∷ [])) c.in-Some.ensures.cases (λ same. c.if-claim-index.false (same ∙ sym at))

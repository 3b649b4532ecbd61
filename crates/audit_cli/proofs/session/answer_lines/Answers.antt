use Rattle.std.proofs.Common.{◌+◌, ap, ◌∙◌, subst, arith}
use Rattle.std.specs.Io.KnownBytes.{Appends}
use Rattle.ledger_io.proofs.ReadingLaws.{line_smaller, line_counted}
use Rattle.ledger_io.proofs.RunLaws.{ends_by}
use Rattle.audit_cli.specs.Answers.{trust_after}
use Rattle.audit_cli.proofs.SessionLaws.{sofar_none, sofar_more, answers_line}
use Rattle.audit_cli.proofs.EndLaws.{served_done, served_error, served_memory, served_write}
use Rattle.audit_cli.proofs.session.answer_lines.Goals as goal

pub loop-text-init : goal.loop-text-init
loop-text-init g c = sofar_none _ _ c.new-lines.result c.new-heads.result c.new-lines.ensures c.new-heads.ensures

pub returns-in_err-line-clause-ended : goal.returns-in_err-line-clause-ended
returns-in_err-line-clause-ended g c =
    let e = c.in_err-line.ensures in
    ends_by _ c.from_residual.result _ c.from_residual.ensures.1
    (served_error _ g.met.H.TreeHash.of_length _ _ _ c.loop-text.lines _ e.gives.0 c.loop-text.heads c.loop-text.number c.loop-text.invariant e.gives.1 c.in_err-line.field-0.0 e.counts e.gives.2)

-- each line took a byte at least, so their number fits
pub overflow_add-number : goal.overflow_add-number
overflow_add-number g c =
    let e = rw c.in-Some.is at c.in_ok-line.ensures in
    let s = c.loop-text.invariant in
    omega (arith, s.count_is, s.input.few, s.input.total, line_counted _ _ c.loop-text.lines _ e.gives.0 c.in-Some.line e.gives.1 e.gives.2, e.gives.1.total, e.gives.1.bounded)

pub returns-in_err-set_answer-clause-ended : goal.returns-in_err-set_answer-clause-ended
returns-in_err-set_answer-clause-ended g c =
    let e = rw c.in-Some.is at c.in_ok-line.ensures in
    ends_by _ c.from_residual-in_err-set_answer.result _ c.from_residual-in_err-set_answer.ensures.1
    (served_memory _ g.met.H.TreeHash.of_length _ _ _ c.loop-text.lines _ e.gives.0 c.loop-text.heads c.loop-text.number c.loop-text.invariant e.gives.1 c.in-Some.line e.counts e.gives.2)

pub returns-in_err-write_all-clause-ended : goal.returns-in_err-write_all-clause-ended
returns-in_err-write_all-clause-ended g c =
    let e = rw c.in-Some.is at c.in_ok-line.ensures in
    let text = answers_line g.H.TreeHash.of c.loop-text.heads (c.loop-text.number + 1) _ _ _ c.in-Some.line c.as_slice-in-Some.ensures.value c.in_ok-set_answer.ensures.text c.as_slice.ensures in
    let w = c.in_err-write_all.ensures in
    ends_by _ c.from_residual-in_err-write_all.result _ c.from_residual-in_err-write_all.ensures.1
    (served_write _ g.met.H.TreeHash.of_length _ _ _ c.loop-text.lines _ e.gives.0 c.loop-text.heads c.loop-text.number c.loop-text.invariant e.gives.1 c.in-Some.line e.counts e.gives.2 _ _ c.in_err-write_all.field-0.0 text w.taken w.once)

pub loop-text-smaller : goal.loop-text-smaller
loop-text-smaller g c =
    let e = rw c.in-Some.is at c.in_ok-line.ensures in
    line_smaller _ _ c.loop-text.lines _ e.gives.0 c.in-Some.line e.gives.1 e.gives.2

pub loop-text-preserved : goal.loop-text-preserved
loop-text-preserved g c =
    let e = rw c.in-Some.is at c.in_ok-line.ensures in
    let text = answers_line g.H.TreeHash.of c.loop-text.heads (c.loop-text.number + 1) _ _ _ c.in-Some.line c.as_slice-in-Some.ensures.value c.in_ok-set_answer.ensures.text c.as_slice.ensures in
    let w = c.in_ok-write_all.ensures in
    sofar_more _ _ _ _ _ c.loop-text.lines _ e.gives.0 c.in-Some.line c.loop-text.heads _ c.loop-text.number c.loop-text.invariant e.gives.1 e.counts e.gives.2
    (subst (Appends _ _) text w.ok) w.once
    (c.in_ok-set_answer.ensures.heads ∙ ap (λ line. trust_after g.H.TreeHash.of c.loop-text.heads line) c.as_slice.ensures)

pub returns-clause-done : goal.returns-clause-done
returns-clause-done g c =
    let e = rw c.in_default.is at c.in_ok-line.ensures in
    served_done _ g.met.H.TreeHash.of_length _ _ _ c.loop-text.lines _ e.gives.0 c.loop-text.heads c.loop-text.number c.loop-text.invariant e.gives.1 e.counts e.gives.2

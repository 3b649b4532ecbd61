use Rattle.std.proofs.Common.{◌∙◌, sym, ap, subst, length, Ok}
use Rattle.ledger_bytes.specs.Fields.{left_from, digest_at}
use Rattle.ledger_io.specs.Windows.{Seen}
use Rattle.audit_dump.specs.Fronts.{ReadsOn}
use Rattle.audit_dump.proofs.Fronts.{digest_of, field_taken, field_broken}
use Rattle.audit_dump.proofs.front.take_digest.Goals as goal

pub returns-in-Ok : goal.returns-in-Ok
returns-in-Ok g c =
    let state = g.S.Source.state in
    let y = c.fill.new.self in
    let seen = c.in_ok-fill.ensures.seen in
    let here = ap (λ t. left_from (length t) t) c.as_slice.ensures in
    subst (λ (z : Seen). ReadsOn digest_at (state c.args.source.now) (state c.fill.new.source) c.args.window.now z (Ok c.in-Ok.digest)) (sym c.consume.ensures)
    (field_taken 32 digest_of (state c.args.source.now) (state c.fill.new.source) c.args.window.now y seen.0 seen.1 c.in-Ok.digest c.take_digest-taken.new.self c.in_ok-fill.ensures.enough.0
    (ap digest_at (sym here ∙ sym c.new.ensures) ∙ c.in-Ok.ensures))

pub returns-in-Err : goal.returns-in-Err
returns-in-Err g c =
    let state = g.S.Source.state in
    let y = c.fill.new.self in
    let seen = c.in_ok-fill.ensures.seen in
    let here = ap (λ t. left_from (length t) t) c.as_slice.ensures in
    field_broken 32 digest_of (state c.args.source.now) (state c.fill.new.source) c.args.window.now y seen.0 seen.1 c.in-Err.field-0 c.end_of.result c.in_ok-fill.ensures.enough.0 c.in_ok-fill.ensures.enough.1
    (ap digest_at (sym here ∙ sym c.new.ensures) ∙ c.in-Err.ensures.0) c.end_of.ensures.bad c.end_of.ensures.place

use Rattle.std.specs.Int.{w64, from_be_bytes}
use Rattle.std.proofs.Common.{◌∙◌, sym, ap, subst, length, Ok}
use Rattle.ledger_bytes.specs.Fields.{left_from, number_at}
use Rattle.ledger_io.specs.Windows.{Seen}
use Rattle.audit_dump.specs.Fronts.{ReadsOn}
use Rattle.audit_dump.proofs.Fronts.{field_taken, field_broken}
use Rattle.audit_dump.proofs.front.take_number.Goals as goal

pub returns-in-Ok : goal.returns-in-Ok
returns-in-Ok g c =
    let state = g.S.Source.state in
    let y = c.fill.new.self in
    let seen = c.in_ok-fill.ensures.seen in
    let here = ap (λ t. left_from (length t) t) c.as_slice.ensures in
    subst (λ (z : Seen). ReadsOn (number_at w64) (state c.args.source.now) (state c.fill.new.source) c.args.window.now z (Ok c.in-Ok.number)) (sym c.consume.ensures)
    (field_taken 8 (from_be_bytes w64) (state c.args.source.now) (state c.fill.new.source) c.args.window.now y seen.0 seen.1 c.in-Ok.number c.take_u64-taken.new.self c.in_ok-fill.ensures.enough.0
    (ap (number_at w64) (sym here ∙ sym c.new.ensures) ∙ c.in-Ok.ensures))

pub returns-in-Err : goal.returns-in-Err
returns-in-Err g c =
    let state = g.S.Source.state in
    let y = c.fill.new.self in
    let seen = c.in_ok-fill.ensures.seen in
    let here = ap (λ t. left_from (length t) t) c.as_slice.ensures in
    field_broken 8 (from_be_bytes w64) (state c.args.source.now) (state c.fill.new.source) c.args.window.now y seen.0 seen.1 c.in-Err.field-0 c.end_of.result c.in_ok-fill.ensures.enough.0 c.in_ok-fill.ensures.enough.1
    (ap (number_at w64) (sym here ∙ sym c.new.ensures) ∙ c.in-Err.ensures.0) c.end_of.ensures.bad c.end_of.ensures.place

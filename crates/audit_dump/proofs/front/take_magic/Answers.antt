use Rattle.std.proofs.Common.{◌∙◌, sym, ap, subst, arith, length, Ok}
use Rattle.ledger_io.specs.Windows.{Seen}
use Rattle.dump_model.specs.Dumps.{magic}
use Rattle.audit_dump.specs.Breaks.{begins_as}
use Rattle.audit_dump.specs.Fronts.{ReadsOn, begin_at}
use Rattle.audit_dump.proofs.Fronts.{magic_wrong, magic_short, magic_taken}
use Rattle.audit_dump.proofs.front.take_magic.Goals as goal

pub returns-then-not-begins_as_dump : goal.returns-then-not-begins_as_dump
returns-then-not-begins_as_dump g c =
    let state = g.S.Source.state in
    let y = c.fill.new.self in
    let seen = c.in_ok-fill.ensures.seen in
    let wrong = ap (begins_as magic) (sym c.as_slice.ensures) ∙ sym c.begins_as_dump.ensures ∙ c.if-not-begins_as_dump.true in
    magic_wrong (state c.args.source.now) (state c.fill.new.source) c.args.window.now y seen.0 seen.1 c.in_ok-fill.ensures.enough.0 c.in_ok-fill.ensures.enough.1 wrong

pub returns-then-as_slice-lt8 : goal.returns-then-as_slice-lt8
returns-then-as_slice-lt8 g c =
    let state = g.S.Source.state in
    let y = c.fill.new.self in
    let seen = c.in_ok-fill.ensures.seen in
    let right = ap (begins_as magic) (sym c.as_slice.ensures) ∙ sym c.begins_as_dump.ensures ∙ c.if-not-begins_as_dump.false in
    magic_short (state c.args.source.now) (state c.fill.new.source) c.args.window.now y seen.0 seen.1 c.in_ok-fill.ensures.enough.0 c.in_ok-fill.ensures.enough.1 right
    (omega (arith, c.if-as_slice-lt8.true, ap length c.as_slice-2.ensures)) c.end_of.result c.end_of.ensures.bad c.end_of.ensures.place

pub returns : goal.returns
returns g c =
    let state = g.S.Source.state in
    let y = c.fill.new.self in
    let seen = c.in_ok-fill.ensures.seen in
    let right = ap (begins_as magic) (sym c.as_slice.ensures) ∙ sym c.begins_as_dump.ensures ∙ c.if-not-begins_as_dump.false in
    subst (λ (z : Seen). ReadsOn begin_at (state c.args.source.now) (state c.fill.new.source) c.args.window.now z (Ok tt)) (sym c.consume.ensures)
    (magic_taken (state c.args.source.now) (state c.fill.new.source) c.args.window.now y seen.0 seen.1 c.in_ok-fill.ensures.enough.0 right (omega (arith, c.if-as_slice-lt8.false, ap length c.as_slice-2.ensures)))

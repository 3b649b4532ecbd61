use Rattle.std.proofs.Common.{rules, ◌∙◌, sym, ap, subst, arith, take, length, Ok, Err, Some}
use Rattle.ledger_io.specs.Windows.{Seen}
use Rattle.pseudo_genesis.specs.Reading.{base_of}
use Rattle.audit_dump.specs.Fronts.{Decodes, ReadsOn, base_behind}
use Rattle.audit_dump.proofs.Fronts.{base_taken, base_broken, base_short}
use Rattle.audit_dump.proofs.front.short_base.Goals as goal

pub returns-then-as_slice-len-clause-reads : goal.returns-then-as_slice-len-clause-reads
returns-then-as_slice-len-clause-reads g c =
    let state = g.S.Source.state in
    let seen = c.in_ok-fill.ensures.seen in
    base_short c.args.len (state c.args.source.now) (state c.fill.new.source) c.args.window.now c.fill.new.self seen.0 seen.1 c.in_ok-fill.ensures.enough.0 c.in_ok-fill.ensures.enough.1
    (omega (arith, c.if-as_slice-len.true, ap length c.as_slice.ensures)) c.end_of.result c.end_of.ensures.bad c.end_of.ensures.place

pub returns-clause-reads : goal.returns-clause-reads
returns-clause-reads g c =
    let state = g.S.Source.state in
    let seen = c.in_ok-fill.ensures.seen in
    subst (λ (z : Seen). ReadsOn (base_behind c.args.len) (state c.args.source.now) (state c.fill.new.source) c.args.window.now z (Ok (Some c.in_ok-base.base))) (sym c.consume.ensures)
    (base_taken c.args.len (state c.args.source.now) (state c.fill.new.source) c.args.window.now c.fill.new.self seen.0 seen.1 c.in_ok-fill.ensures.enough.0 c.requires
    (omega (arith, c.if-as_slice-len.false, ap length c.as_slice.ensures)) c.in_ok-base.base (ap (λ t. base_of (take c.args.len t)) (sym c.as_slice-2.ensures) ∙ c.in_ok-base.ensures.decodes))

pub returns-in_err-base-clause-reads : goal.returns-in_err-base-clause-reads
returns-in_err-base-clause-reads g c =
    let state = g.S.Source.state in
    let seen = c.in_ok-fill.ensures.seen in
    let stopped =
    base_broken c.args.len (state c.args.source.now) (state c.fill.new.source) c.args.window.now c.fill.new.self seen.0 seen.1 c.in_ok-fill.ensures.enough.0 c.requires
    (omega (arith, c.if-as_slice-len.false, ap length c.as_slice.ensures)) c.in_err-base.field-0.0
    (subst (λ t. Decodes (base_of (take c.args.len t)) (Err c.in_err-base.field-0.0)) c.as_slice-2.ensures c.in_err-base.ensures.decodes) in
    search (stopped, rules)

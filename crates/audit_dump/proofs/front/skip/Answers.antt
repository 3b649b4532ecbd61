use Rattle.std.proofs.Common.{rules, ◌-◌, ap, arith, length, subst, sym}
use Rattle.ledger_io.specs.Windows.{Seen}
use Rattle.audit_dump.proofs.Skips.{HasSkipped, skip_ends, skip_fails, skip_short, skipped_more, skipped_none}
use Rattle.audit_dump.proofs.front.skip.Goals as goal

pub loop-left-init : goal.loop-left-init
loop-left-init g c = skipped_none c.args.len (g.S.Source.state c.args.source.now) c.args.window.now

pub loop-left-preserved : goal.loop-left-preserved
loop-left-preserved g c =
    let state = g.S.Source.state in
    let seen = c.in_ok-fill.ensures.seen in
    let k = c.min-count.result in
    subst (λ (z : Seen). HasSkipped c.args.len (c.loop-left.left - k) (state c.args.source.now) (state c.fill.new.source) c.args.window.now z) (sym c.consume.ensures)
    (skipped_more c.args.len c.loop-left.left (state c.args.source.now) (state c.loop-left.source) (state c.fill.new.source) c.args.window.now c.loop-left.window c.fill.new.self seen.0 c.loop-left.invariant seen.1 k
    (omega (arith, c.min-count.ensures)) (omega (arith, c.min-count.ensures, ap length c.as_slice.ensures)) c.in_ok-fill.ensures.enough.0)

pub returns-in_err-fill : goal.returns-in_err-fill
returns-in_err-fill g c =
    let state = g.S.Source.state in
    let seen = c.in_err-fill.ensures.seen in
    let failed =
    skip_fails c.args.len c.loop-left.left (state c.args.source.now) (state c.loop-left.source) (state c.fill.new.source) c.args.window.now c.loop-left.window c.fill.new.self seen.0 c.loop-left.invariant seen.1
    1 c.in_err-fill.field-0.0 c.in_err-fill.ensures.enough in
    search (failed, rules)

pub returns-then-held-eq0 : goal.returns-then-held-eq0
returns-then-held-eq0 g c =
    let state = g.S.Source.state in
    let seen = c.in_ok-fill.ensures.seen in
    skip_short c.args.len c.loop-left.left (state c.args.source.now) (state c.loop-left.source) (state c.fill.new.source) c.args.window.now c.loop-left.window c.fill.new.self seen.0 c.loop-left.invariant seen.1
    c.loop-left-test.true c.in_ok-fill.ensures.enough.0 c.in_ok-fill.ensures.enough.1 (omega (arith, c.if-held-eq0.true, ap length c.as_slice.ensures)) c.end_of.result c.end_of.ensures.bad c.end_of.ensures.place

pub returns : goal.returns
returns g c =
    let state = g.S.Source.state in
    skip_ends c.args.len c.loop-left.left (state c.args.source.now) (state c.loop-left.source) c.args.window.now c.loop-left.window c.loop-left.invariant (omega (arith, c.loop-left-test.false))

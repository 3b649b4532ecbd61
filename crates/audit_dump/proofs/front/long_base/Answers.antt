use Rattle.std.proofs.Common.{rules, ap, arith, length, subst, take, Err}
use Rattle.pseudo_genesis.specs.Reading.{base_of}
use Rattle.audit_dump.specs.Fronts.{Decodes}
use Rattle.audit_dump.specs.declared.front.Stop.TheVariants.{Broken, Failed}
use Rattle.audit_dump.proofs.Skips.{long_breaks, long_fails, long_stops}
use Rattle.audit_dump.proofs.front.long_base.Goals as goal

pub returns-in_err-skip-in-Broken-clause-reads : goal.returns-in_err-skip-in-Broken-clause-reads
returns-in_err-skip-in-Broken-clause-reads g c =
    let state = g.S.Source.state in
    let seen = c.in_ok-fill.ensures.seen in
    let stopped =
    long_stops c.args.len (state c.args.source.now) (state c.fill.new.source) c.args.window.now c.fill.new.self seen.0 seen.1 c.in_ok-fill.ensures.enough.0 (state c.skip.new.source) c.skip.new.window
    c.in_err-skip-in-Broken.field-0.0 c.in_err-skip-in-Broken.ensures in
    search (stopped, rules)

pub returns-in_ok-skip-in-Broken-clause-reads : goal.returns-in_ok-skip-in-Broken-clause-reads
returns-in_ok-skip-in-Broken-clause-reads g c =
    let state = g.S.Source.state in
    let seen = c.in_ok-fill.ensures.seen in
    long_breaks c.args.len (state c.args.source.now) (state c.fill.new.source) c.args.window.now c.fill.new.self seen.0 seen.1 c.in_ok-fill.ensures.enough.0 c.args.enough c.requires.far c.requires.within
    (omega (arith, c.if-as_slice-enough.false, ap length c.as_slice.ensures)) c.in-Broken.broken
    (subst (λ t. Decodes (base_of (take c.args.enough t)) (Err (Broken c.in-Broken.broken))) c.as_slice-2.ensures c.in-Broken.ensures) (state c.skip.new.source) c.skip.new.window c.in_ok-skip-in-Broken.ensures

pub returns-in-Failed-clause-reads : goal.returns-in-Failed-clause-reads
returns-in-Failed-clause-reads g c =
    let state = g.S.Source.state in
    let seen = c.in_ok-fill.ensures.seen in
    long_fails c.args.len (state c.args.source.now) (state c.fill.new.source) c.args.window.now c.fill.new.self seen.0 seen.1 c.in_ok-fill.ensures.enough.0 c.args.enough c.requires.far c.requires.within
    (omega (arith, c.if-as_slice-enough.false, ap length c.as_slice.ensures)) c.in-Failed.e
    (subst (λ t. Decodes (base_of (take c.args.enough t)) (Err (Failed c.in-Failed.e))) c.as_slice-2.ensures c.in-Failed.ensures)

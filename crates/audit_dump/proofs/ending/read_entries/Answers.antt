use Rattle.std.proofs.Common.{refl, true, arith, ℕ, List, ◌++◌, ◌∷◌, [], length-append, subst, sym}
use Rattle.audit_dump.specs.Tails.{HasStoppedInEntries, HasTaken}
use Rattle.audit_dump.proofs.Pieces.{entries_few, entry_stops, err_then, kept_none, memory_wanted, taken_none, taken_then, texts_more, widths_more}
use Rattle.audit_dump.proofs.ending.read_entries.Goals as goal

pub loop-index-init : goal.loop-index-init
loop-index-init g c =
    let e = c.new.ensures in ([], refl, record { taken = taken_none (g.S.Source.state c.args.source.now) c.args.window.now; widths = tt; kept = kept_none (record { tree = c.new.result; last = 0; never_falls = true }) e.stands e.size e.floor refl refl }, λ claims before. before)

pub returns-in_err-entry-clause-stopped : goal.returns-in_err-entry-clause-stopped
returns-in_err-entry-clause-stopped g c =
    let state = g.S.Source.state in
    let so = c.loop-index.invariant in
    err_then c.from_residual.result c.in_err-entry.field-0.0 (HasStoppedInEntries c.args.count (state c.args.source.now) (state c.read_bytes.new.source) c.args.window.now c.read_bytes.new.window) c.from_residual.ensures
    (entry_stops (state c.args.source.now) (state c.loop-index.source) (state c.read_bytes.new.source) c.args.window.now c.loop-index.window c.read_bytes.new.window so.0 c.args.count c.in_err-entry.field-0.0 so.2.taken so.2.widths (omega (arith, so.1, c.loop-index-test.true)) c.in_err-entry.ensures.stopped)

pub keep_entry-requires-clause-small : goal.keep_entry-requires-clause-small
keep_entry-requires-clause-small g c =
    let state = g.S.Source.state in
    let so = c.loop-index.invariant in
    let few = entries_few (state c.args.source.now) (state c.loop-index.source) (state c.read_bytes.new.source) c.args.window.now c.loop-index.window c.read_bytes.new.window so.0 c.in_ok-entry.entry so.2.taken so.2.widths c.in_ok-entry.ensures.taken c.requires.fits c.in_ok-entry.ensures.bounded in
    omega (arith, so.2.kept.size, few)

pub loop-index-preserved : goal.loop-index-preserved
loop-index-preserved g c =
    let state = g.S.Source.state in
    let so = c.loop-index.invariant in
    let e = c.in_ok-entry.entry in (
      so.0 ++ e ∷ [],
      omega (arith, so.1, length-append so.0 (e ∷ [])),
      record {
        taken = subst (λ (t : List ℕ). HasTaken (state c.args.source.now) (state c.read_bytes.new.source) c.args.window.now c.read_bytes.new.window t) (sym (texts_more so.0 e))
            (taken_then (state c.args.source.now) (state c.loop-index.source) (state c.read_bytes.new.source) c.args.window.now c.loop-index.window c.read_bytes.new.window _ e so.2.taken c.in_ok-entry.ensures.taken);
        widths = widths_more so.0 e so.2.widths c.in_ok-entry.ensures.width;
        kept = c.in-Ok.ensures so.0 so.2.kept;
      },
      λ claims before. c.meet.ensures claims so.0 (sym so.1) (so.3 claims before),
    )

pub returns-in-Err-clause-stopped : goal.returns-in-Err-clause-stopped
returns-in-Err-clause-stopped g c =
    let state = g.S.Source.state in
    let so = c.loop-index.invariant in
    memory_wanted (state c.args.source.now) (state c.read_bytes.new.source) c.args.window.now c.read_bytes.new.window _ 72
    (taken_then (state c.args.source.now) (state c.loop-index.source) (state c.read_bytes.new.source) c.args.window.now c.loop-index.window c.read_bytes.new.window _ c.in_ok-entry.entry so.2.taken c.in_ok-entry.ensures.taken)

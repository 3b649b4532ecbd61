use Rattle.std.proofs.Common.{ℕ, ◌++◌, [], ◌∙◌, ap, sym, refl, arith}
use Rattle.std.specs.Int.{w64, from_be_bytes}
use Rattle.std.specs.Prelude.{map}
use Rattle.sha2.specs.Sha256.{sha256}
use Rattle.tree_model.specs.Tree.{leaf}
use Rattle.audit_dump.specs.Tails.{StopsOver, texts_of}
use Rattle.audit_dump.proofs.Parts.{tail_from}
use Rattle.audit_dump.proofs.Pieces.{end_stops, ended5, entries_stop, err_then, head_of, no_count2, no_end5, no_entry4, no_notary4, no_root, no_size, over_here, piece_stops, taken_none, taken_on, taken_read, taken_then}
use Rattle.audit_dump.proofs.ending.read_ending.Goals as goal

pub returns-in_err-size-clause-stopped : goal.returns-in_err-size-clause-stopped
returns-in_err-size-clause-stopped g c =
    let state = g.S.Source.state in
    err_then c.from_residual.result c.in_err-size.field-0.0 (StopsOver c.args.claims.now (state c.args.source.now) (state c.read_number.new.source) c.args.window.now c.read_number.new.window) c.from_residual.ensures
    (piece_stops c.args.claims.now (state c.args.source.now) (state c.args.source.now) (state c.read_number.new.source) c.args.window.now c.args.window.now c.read_number.new.window [] 8 c.in_err-size.field-0.0 (taken_none (state c.args.source.now) c.args.window.now) (λ whole rest few. no_size whole rest few) c.in_err-size.ensures.stopped)

pub returns-in_err-root-clause-stopped : goal.returns-in_err-root-clause-stopped
returns-in_err-root-clause-stopped g c =
    let state = g.S.Source.state in
    let s = c.in_ok-size.ensures.taken in
    let b1 = s.3 in
    err_then c.from_residual-in_err-root.result c.in_err-root.field-0.0 (StopsOver c.args.claims.now (state c.args.source.now) (state c.read_digest.new.source) c.args.window.now c.read_digest.new.window) c.from_residual-in_err-root.ensures
    (piece_stops c.args.claims.now (state c.args.source.now) (state c.read_number.new.source) (state c.read_digest.new.source) c.args.window.now c.read_number.new.window c.read_digest.new.window s.0 32 c.in_err-root.field-0.0 b1 (λ whole rest few. no_root whole s.0 s.1 rest few) c.in_err-root.ensures.stopped)

pub returns-in_err-count-clause-stopped : goal.returns-in_err-count-clause-stopped
returns-in_err-count-clause-stopped g c =
    let state = g.S.Source.state in
    let s = c.in_ok-size.ensures.taken in
    let b1 = s.3 in
    let r = c.in_ok-root.root in
    let b2 = taken_then (state c.args.source.now) (state c.read_number.new.source) (state c.read_digest.new.source) c.args.window.now c.read_number.new.window c.read_digest.new.window s.0 r.0 b1 c.in_ok-root.ensures.taken in
    err_then c.from_residual-in_err-count.result c.in_err-count.field-0.0 (StopsOver c.args.claims.now (state c.args.source.now) (state c.read_number-2.new.source) c.args.window.now c.read_number-2.new.window) c.from_residual-in_err-count.ensures
    (piece_stops c.args.claims.now (state c.args.source.now) (state c.read_digest.new.source) (state c.read_number-2.new.source) c.args.window.now c.read_digest.new.window c.read_number-2.new.window (s.0 ++ r.0) 8 c.in_err-count.field-0.0 b2 (λ whole rest few. no_count2 s.0 r s.1 c.in_ok-root.ensures.width whole rest few) c.in_err-count.ensures.stopped)

pub returns-in_err-entries-clause-stopped : goal.returns-in_err-entries-clause-stopped
returns-in_err-entries-clause-stopped g c =
    let state = g.S.Source.state in
    let s = c.in_ok-size.ensures.taken in
    let b1 = s.3 in
    let r = c.in_ok-root.root in
    let b2 = taken_then (state c.args.source.now) (state c.read_number.new.source) (state c.read_digest.new.source) c.args.window.now c.read_number.new.window c.read_digest.new.window s.0 r.0 b1 c.in_ok-root.ensures.taken in
    let n = c.in_ok-count.ensures.taken in
    let b3 = taken_then (state c.args.source.now) (state c.read_digest.new.source) (state c.read_number-2.new.source) c.args.window.now c.read_digest.new.window c.read_number-2.new.window (s.0 ++ r.0) n.0 b2 n.3 in
    err_then c.from_residual-in_err-entries.result c.in_err-entries.field-0.0 (StopsOver c.args.claims.now (state c.args.source.now) (state c.read_entries.new.source) c.args.window.now c.read_entries.new.window) c.from_residual-in_err-entries.ensures
    (entries_stop c.args.claims.now (state c.args.source.now) (state c.read_number-2.new.source) (state c.read_entries.new.source) c.args.window.now c.read_number-2.new.window c.read_entries.new.window ((s.0 ++ r.0) ++ n.0) c.in_ok-count.count c.in_err-entries.field-0.0 b3 (λ es widths fewer whole rest few. no_entry4 s.0 r s.1 c.in_ok-root.ensures.width whole n.0 n.1 es widths rest (omega (arith, n.2, fewer)) few) c.in_err-entries.ensures.stopped)

pub returns-in_err-notary_root-clause-stopped : goal.returns-in_err-notary_root-clause-stopped
returns-in_err-notary_root-clause-stopped g c =
    let state = g.S.Source.state in
    let s = c.in_ok-size.ensures.taken in
    let b1 = s.3 in
    let r = c.in_ok-root.root in
    let b2 = taken_then (state c.args.source.now) (state c.read_number.new.source) (state c.read_digest.new.source) c.args.window.now c.read_number.new.window c.read_digest.new.window s.0 r.0 b1 c.in_ok-root.ensures.taken in
    let n = c.in_ok-count.ensures.taken in
    let b3 = taken_then (state c.args.source.now) (state c.read_digest.new.source) (state c.read_number-2.new.source) c.args.window.now c.read_digest.new.window c.read_number-2.new.window (s.0 ++ r.0) n.0 b2 n.3 in
    let e = c.in_ok-entries.ensures.taken in
    let b4 = taken_then (state c.args.source.now) (state c.read_number-2.new.source) (state c.read_entries.new.source) c.args.window.now c.read_number-2.new.window c.read_entries.new.window ((s.0 ++ r.0) ++ n.0) (texts_of e.0) b3 e.2.taken in
    err_then c.from_residual-in_err-notary_root.result c.in_err-notary_root.field-0.0 (StopsOver c.args.claims.now (state c.args.source.now) (state c.read_digest-2.new.source) c.args.window.now c.read_digest-2.new.window) c.from_residual-in_err-notary_root.ensures
    (piece_stops c.args.claims.now (state c.args.source.now) (state c.read_entries.new.source) (state c.read_digest-2.new.source) c.args.window.now c.read_entries.new.window c.read_digest-2.new.window (((s.0 ++ r.0) ++ n.0) ++ texts_of e.0) 32 c.in_err-notary_root.field-0.0 b4 (λ whole rest few. no_notary4 s.0 r s.1 c.in_ok-root.ensures.width whole n.0 n.1 e.0 e.2.widths (e.1 ∙ n.2) rest few) c.in_err-notary_root.ensures.stopped)

pub returns-in_err-read_end-clause-stopped : goal.returns-in_err-read_end-clause-stopped
returns-in_err-read_end-clause-stopped g c =
    let state = g.S.Source.state in
    let s = c.in_ok-size.ensures.taken in
    let b1 = s.3 in
    let r = c.in_ok-root.root in
    let b2 = taken_then (state c.args.source.now) (state c.read_number.new.source) (state c.read_digest.new.source) c.args.window.now c.read_number.new.window c.read_digest.new.window s.0 r.0 b1 c.in_ok-root.ensures.taken in
    let n = c.in_ok-count.ensures.taken in
    let b3 = taken_then (state c.args.source.now) (state c.read_digest.new.source) (state c.read_number-2.new.source) c.args.window.now c.read_digest.new.window c.read_number-2.new.window (s.0 ++ r.0) n.0 b2 n.3 in
    let e = c.in_ok-entries.ensures.taken in
    let b4 = taken_then (state c.args.source.now) (state c.read_number-2.new.source) (state c.read_entries.new.source) c.args.window.now c.read_number-2.new.window c.read_entries.new.window ((s.0 ++ r.0) ++ n.0) (texts_of e.0) b3 e.2.taken in
    let d = c.in_ok-notary_root.notary_root in
    let b5 = taken_then (state c.args.source.now) (state c.read_entries.new.source) (state c.read_digest-2.new.source) c.args.window.now c.read_entries.new.window c.read_digest-2.new.window (((s.0 ++ r.0) ++ n.0) ++ texts_of e.0) d.0 b4 c.in_ok-notary_root.ensures.taken in
    err_then c.from_residual-in_err-read_end.result c.in_err-read_end.field-0.0 (StopsOver c.args.claims.now (state c.args.source.now) (state c.read_end.new.source) c.args.window.now c.read_end.new.window) c.from_residual-in_err-read_end.ensures
    (end_stops c.args.claims.now (state c.args.source.now) (state c.read_digest-2.new.source) (state c.read_end.new.source) c.args.window.now c.read_digest-2.new.window c.read_end.new.window ((((s.0 ++ r.0) ++ n.0) ++ texts_of e.0) ++ d.0) c.in_err-read_end.field-0.0 b5 (λ whole rest some. no_end5 s.0 r s.1 c.in_ok-root.ensures.width whole n.0 n.1 e.0 e.2.widths (e.1 ∙ n.2) d c.in_ok-notary_root.ensures.width rest some) c.in_err-read_end.ensures.stopped)

pub returns-clause-over : goal.returns-clause-over
returns-clause-over g c =
    let state = g.S.Source.state in
    let s = c.in_ok-size.ensures.taken in
    let b1 = s.3 in
    let r = c.in_ok-root.root in
    let b2 = taken_then (state c.args.source.now) (state c.read_number.new.source) (state c.read_digest.new.source) c.args.window.now c.read_number.new.window c.read_digest.new.window s.0 r.0 b1 c.in_ok-root.ensures.taken in
    let n = c.in_ok-count.ensures.taken in
    let b3 = taken_then (state c.args.source.now) (state c.read_digest.new.source) (state c.read_number-2.new.source) c.args.window.now c.read_digest.new.window c.read_number-2.new.window (s.0 ++ r.0) n.0 b2 n.3 in
    let e = c.in_ok-entries.ensures.taken in
    let b4 = taken_then (state c.args.source.now) (state c.read_number-2.new.source) (state c.read_entries.new.source) c.args.window.now c.read_number-2.new.window c.read_entries.new.window ((s.0 ++ r.0) ++ n.0) (texts_of e.0) b3 e.2.taken in
    let d = c.in_ok-notary_root.notary_root in
    let b5 = taken_then (state c.args.source.now) (state c.read_entries.new.source) (state c.read_digest-2.new.source) c.args.window.now c.read_entries.new.window c.read_digest-2.new.window (((s.0 ++ r.0) ++ n.0) ++ texts_of e.0) d.0 b4 c.in_ok-notary_root.ensures.taken in
    let all = taken_on (state c.args.source.now) (state c.read_digest-2.new.source) (state c.read_end.new.source) c.args.window.now c.read_digest-2.new.window c.read_end.new.window ((((s.0 ++ r.0) ++ n.0) ++ texts_of e.0) ++ d.0) b5 c.in_ok-read_end.ensures.taken in
    λ within.
    over_here c.args.claims.now (state c.args.source.now) (state c.read_end.new.source) c.args.window.now c.read_end.new.window ((((s.0 ++ r.0) ++ n.0) ++ texts_of e.0) ++ d.0) (tail_from (from_be_bytes w64 s.0) r e.0 d) _ within all c.in_ok-read_end.ensures.over (λ whole. ended5 s.0 r s.1 c.in_ok-root.ensures.width whole n.0 n.1 e.0 e.2.widths (e.1 ∙ n.2) d c.in_ok-notary_root.ensures.width)
    (record {
      head = ap (λ (k : ℕ). head_of k r) s.2;
      count = sym e.1;
      entries_root = c.root.ensures.list (map (leaf sha256) e.0) e.2.kept.stands;
      notary_root = refl;
      never_falls = e.2.kept.never_falls;
      unmet = c.least_unmet.ensures c.args.claims.now e.0 (e.3 c.args.claims.now c.meeting.ensures);
    })

pub returns-clause-seen : goal.returns-clause-seen
returns-clause-seen g c =
    let state = g.S.Source.state in
    let s = c.in_ok-size.ensures.taken in
    let b1 = s.3 in
    let r = c.in_ok-root.root in
    let b2 = taken_then (state c.args.source.now) (state c.read_number.new.source) (state c.read_digest.new.source) c.args.window.now c.read_number.new.window c.read_digest.new.window s.0 r.0 b1 c.in_ok-root.ensures.taken in
    let n = c.in_ok-count.ensures.taken in
    let b3 = taken_then (state c.args.source.now) (state c.read_digest.new.source) (state c.read_number-2.new.source) c.args.window.now c.read_digest.new.window c.read_number-2.new.window (s.0 ++ r.0) n.0 b2 n.3 in
    let e = c.in_ok-entries.ensures.taken in
    let b4 = taken_then (state c.args.source.now) (state c.read_number-2.new.source) (state c.read_entries.new.source) c.args.window.now c.read_number-2.new.window c.read_entries.new.window ((s.0 ++ r.0) ++ n.0) (texts_of e.0) b3 e.2.taken in
    let d = c.in_ok-notary_root.notary_root in
    let b5 = taken_then (state c.args.source.now) (state c.read_entries.new.source) (state c.read_digest-2.new.source) c.args.window.now c.read_entries.new.window c.read_digest-2.new.window (((s.0 ++ r.0) ++ n.0) ++ texts_of e.0) d.0 b4 c.in_ok-notary_root.ensures.taken in
    let all = taken_on (state c.args.source.now) (state c.read_digest-2.new.source) (state c.read_end.new.source) c.args.window.now c.read_digest-2.new.window c.read_end.new.window ((((s.0 ++ r.0) ++ n.0) ++ texts_of e.0) ++ d.0) b5 c.in_ok-read_end.ensures.taken in
    (all.bytes, taken_read (state c.args.source.now) (state c.read_end.new.source) c.args.window.now c.read_end.new.window ((((s.0 ++ r.0) ++ n.0) ++ texts_of e.0) ++ d.0) all)

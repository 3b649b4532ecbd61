use Rattle.std.proofs.Common.{List, [], ℕ, refl, subst, ◌∙◌}
use Rattle.std.proofs.KnownBytes.{Appends-nil}
use Rattle.batch_committer.proofs.Opening.{told_at}
use Rattle.batch_committer.specs.World.{pair}
use Rattle.block_file.specs.FileView.{gate_of}
use Rattle.ledger_open.specs.Opening.{known_from}
use Rattle.twin_file.specs.Which.{in_a_of, file_of}
use Rattle.ledger_cli.specs.Runs.{handed, Signs}
use Rattle.ledger_cli.specs.Surviving.{IsKeptText, IsUnkept}
use Rattle.ledger_cli.proofs.AskLaws.{opened_writes, signed_by}
use Rattle.ledger_cli.proofs.DumpLaws.{no_keys}
use Rattle.ledger_cli.proofs.OpeningLaws.{not_written}
use Rattle.ledger_cli.proofs.SurviveLaws.{kept_faults, kept_text, unkept, unkept_faults}
use Rattle.ledger_cli.proofs.surviving.keep_journals.Goals as goal

pub returns-in-Err : goal.returns-in-Err
returns-in-Err g c = λ source notary.
    rw c.from.ensures (record {
      opens = not_written no_keys g.D.Disk.tells source _ notary _ _ (IsKeptText c.args.point c.args.numbers.now) (IsUnkept c.args.point c.args.numbers.now) c.in-Err.error c.in-Err.ensures.only c.in-Err.ensures.err c.in-Err.ensures.same
          c.in-Err.ensures.refused c.in-Err.ensures.synced c.in-Err.ensures.clean c.in-Err.ensures.faults;
      unread = refl;
      unasked = refl;
    })

pub returns-in-Ok-keep : goal.returns-in-Ok-keep
returns-in-Ok-keep g c = λ source notary.
    let o = c.in-Ok.opened in
    let r = c.in-Ok.ensures.ok in
    let counts = c.in-Ok.ensures.faults in
    let first = pair (g.D.Disk.state c.args.a.now) (g.D.Disk.state c.args.b.now) in
    let now = pair (g.D.Disk.state c.reopen.new.a) (g.D.Disk.state c.reopen.new.b) in
    let last = pair (g.D.Disk.state c.keep.new.a) (g.D.Disk.state c.keep.new.b) in
    let sink = g.K.Sink.state c.args.sink.now in
    let t = g.K.Sink.state c.write_text.new.sink in
    let p = c.args.point in
    let ns = c.args.numbers.now in
    let w = subst (λ (text : List ℕ). Signs text c.write_text.result (handed source sink last notary) (handed source t last notary)) c.as_slice.ensures (c.write_text.ensures source last notary) in record {
      opens = opened_writes g.D.Disk.tells source source sink t notary notary first now last (known_from o.book o.places.list (gate_of (file_of o.twin))) (in_a_of o.twin) r.0 r.1
          (record { knows = r.2; told = told_at (in_a_of o.twin) _ _ _ c.in-Ok.ensures.told }) (c.in-Ok.ensures.limits ∙ c.real.ensures) r.3 counts.0 counts.1 (IsKeptText p ns) (IsUnkept p ns) c.write_text.result
          w.wrote.written w.wrote.appended
          (λ told h read. signed_by c.in-Ok-keep.set c.write_text.result source sink t last notary w (IsKeptText p ns h) (IsUnkept p ns h) tt (kept_text h p ns c.in-Ok-keep.set (c.in-Ok-keep.ensures.answer told h read)))
          c.keep.ensures.read.bytes c.keep.ensures.other
          (kept_faults (in_a_of o.twin) source sink notary now last c.keep.ensures.other t c.in-Ok-keep.set c.write_text.result c.in-Ok-keep.ensures.faults w);
      unread = refl;
      unasked = refl;
    }

pub returns : goal.returns
returns g c = λ source notary.
    let o = c.in-Ok.opened in
    let r = c.in-Ok.ensures.ok in
    let counts = c.in-Ok.ensures.faults in
    let first = pair (g.D.Disk.state c.args.a.now) (g.D.Disk.state c.args.b.now) in
    let now = pair (g.D.Disk.state c.reopen.new.a) (g.D.Disk.state c.reopen.new.b) in
    let last = pair (g.D.Disk.state c.keep.new.a) (g.D.Disk.state c.keep.new.b) in
    let sink = g.K.Sink.state c.args.sink.now in
    let p = c.args.point in
    let ns = c.args.numbers.now in
    let e = c.in-Err-keep.error in
    rw c.from-in-Err-keep.ensures (record {
      opens = opened_writes g.D.Disk.tells source source sink sink notary notary first now last (known_from o.book o.places.list (gate_of (file_of o.twin))) (in_a_of o.twin) r.0 r.1
          (record { knows = r.2; told = told_at (in_a_of o.twin) _ _ _ c.in-Ok.ensures.told }) (c.in-Ok.ensures.limits ∙ c.real.ensures) r.3 counts.0 counts.1 (IsKeptText p ns) (IsUnkept p ns) _
          [] (Appends-nil sink.held) (λ told h read. unkept h p ns e (c.in-Err-keep.ensures.answer told h read)) c.keep.ensures.read.bytes c.keep.ensures.other
          (unkept_faults (in_a_of o.twin) source sink notary now last c.keep.ensures.other e c.in-Err-keep.ensures.faults);
      unread = refl;
      unasked = refl;
    })

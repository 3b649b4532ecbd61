use Rattle.std.proofs.Common.{refl, ◌∙◌}
use Rattle.batch_committer.proofs.Opening.{told_at}
use Rattle.batch_committer.specs.World.{pair}
use Rattle.block_file.specs.FileView.{gate_of}
use Rattle.ledger_open.specs.Opening.{known_from}
use Rattle.twin_file.specs.Which.{in_a_of, file_of}
use Rattle.ledger_cli.specs.Asking.{IsLineageOf, IsUntraced}
use Rattle.ledger_cli.proofs.AskLaws.{opened_tells}
use Rattle.ledger_cli.proofs.DumpLaws.{no_keys}
use Rattle.ledger_cli.proofs.OpeningLaws.{not_written}
use Rattle.ledger_cli.proofs.tracing.trace.Goals as goal

pub returns-in-Ok : goal.returns-in-Ok
returns-in-Ok g c = λ source notary.
    let o = c.in-Ok.opened in
    let r = c.in-Ok.ensures.ok in
    let counts = c.in-Ok.ensures.faults in
    let first = pair (g.D.Disk.state c.args.a.now) (g.D.Disk.state c.args.b.now) in
    let now = pair (g.D.Disk.state c.reopen.new.a) (g.D.Disk.state c.reopen.new.b) in record {
      opens = opened_tells g.D.Disk.tells source source (g.K.Sink.state c.args.sink.now) (g.K.Sink.state c.tell.new.sink) notary notary first now (known_from o.book o.places.list (gate_of (file_of o.twin))) (in_a_of o.twin) r.0 r.1
          (record { knows = r.2; told = told_at (in_a_of o.twin) _ _ _ c.in-Ok.ensures.told }) (c.in-Ok.ensures.limits ∙ c.real.ensures) r.3 counts.0 counts.1
          (IsLineageOf c.args.from c.args.clue.now) (IsUntraced c.args.from c.args.clue.now) c.tell.result (c.tell.ensures source);
      unread = refl;
      unasked = refl;
    }

pub returns-in-Err : goal.returns-in-Err
returns-in-Err g c = λ source notary.
    rw c.from.ensures (record {
      opens = not_written no_keys g.D.Disk.tells source _ notary _ _ (IsLineageOf c.args.from c.args.clue.now) (IsUntraced c.args.from c.args.clue.now) c.in-Err.error c.in-Err.ensures.only c.in-Err.ensures.err c.in-Err.ensures.same
          c.in-Err.ensures.refused c.in-Err.ensures.synced c.in-Err.ensures.clean c.in-Err.ensures.faults;
      unread = refl;
      unasked = refl;
    })

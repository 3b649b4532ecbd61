use Rattle.std.proofs.Common.{subst, sym, ◌∙◌}
use Rattle.batch_committer.proofs.Opening.{told_at}
use Rattle.batch_committer.specs.World.{pair}
use Rattle.block_file.specs.FileView.{gate_of}
use Rattle.ledger_open.specs.Opening.{known_from}
use Rattle.twin_file.specs.Which.{in_a_of, file_of}
use Rattle.ledger_cli.specs.Runs.{handed, Exports}
use Rattle.ledger_cli.specs.declared.ending.LedgerEnding.{LedgerEnding}
use Rattle.ledger_cli.proofs.DumpLaws.{dumped, no_keys}
use Rattle.ledger_cli.proofs.OpeningLaws.{not_dumped}
use Rattle.ledger_cli.proofs.top.export.Goals as goal

pub returns-in-Ok : goal.returns-in-Ok
returns-in-Ok g c = λ source.
    let o = c.in-Ok.opened in
    let r = c.in-Ok.ensures.ok in
    let counts = c.in-Ok.ensures.faults in
    let first = pair (g.D.Disk.state c.args.a.now) (g.D.Disk.state c.args.b.now) in
    let now = pair (g.D.Disk.state c.reopen.new.a) (g.D.Disk.state c.reopen.new.b) in
    let last = pair (g.D.Disk.state c.write_dump.new.a) (g.D.Disk.state c.write_dump.new.b) in
    let sink = g.K.Sink.state c.args.sink.now in
    let t = g.K.Sink.state c.write_dump.new.sink in
    let n = g.N.Notary.state c.args.notary.now in
    let m = g.N.Notary.state c.write_dump.new.notary in
    subst (λ (e : LedgerEnding). Exports g.D.Disk.tells e (handed source sink first n) (handed source t last m)) (sym c.ending_of_export.ensures)
    (dumped g.D.Disk.tells source sink t n m first now last (known_from o.book o.places.list (gate_of (file_of o.twin))) (in_a_of o.twin) r.0 r.1 (record { knows = r.2; told = told_at (in_a_of o.twin) _ _ _ c.in-Ok.ensures.told })
    (c.in-Ok.ensures.limits ∙ c.real.ensures) r.3 counts.0 counts.1 c.write_dump.result c.write_dump.ensures.writes c.write_dump.ensures.damages c.write_dump.ensures.other)

pub returns-in-Err : goal.returns-in-Err
returns-in-Err g c = λ source.
    rw c.from.ensures (not_dumped no_keys g.D.Disk.tells source _ _ _ _ c.in-Err.error c.in-Err.ensures.only c.in-Err.ensures.err c.in-Err.ensures.same c.in-Err.ensures.refused c.in-Err.ensures.synced c.in-Err.ensures.clean c.in-Err.ensures.faults)

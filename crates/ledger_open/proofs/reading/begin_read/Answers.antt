use Rattle.std.proofs.lemmas.Result.{IfOk-weaker}
use Rattle.block_file.specs.FileView.{gate_of}
use Rattle.ledger_open.proofs.MoreLaws.{read_behind}
use Rattle.ledger_open.proofs.reading.begin_read.Goals as goal

pub returns-in-Some-clause-ok : goal.returns-in-Some-clause-ok
returns-in-Some-clause-ok g c = IfOk-weaker c.begin_behind.result _ _ (λ read t.
    read_behind g.D.Disk.tells (g.D.Disk.state c.args.disk.now).bytes.seen c.args.base.now c.in-Some.base read.book read.places.list (gate_of c.args.file.now) c.in-Some.is c.requires.place c.requires.start t) c.begin_behind.ensures.ok

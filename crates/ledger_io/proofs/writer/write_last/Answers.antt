use Rattle.ledger_io.proofs.WritingLaws.{last_written}
use Rattle.ledger_io.proofs.writer.write_last.Goals as goal

pub returns : goal.returns
returns g c =
    let w = c.write_all.ensures in
    last_written c.args.line.now _ _ c.write_all.result w.ok w.taken w.once

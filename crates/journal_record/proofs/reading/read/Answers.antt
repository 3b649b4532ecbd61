use Rattle.std.proofs.Common.{sym}
use Rattle.journal_record.proofs.ReadingLaws.{header_of_only}
use Rattle.journal_record.proofs.reading.read.Goals as goal

pub returns-in-Some : goal.returns-in-Some
returns-in-Some c =
    let e = c.in-Some.ensures in
    sym (header_of_only c.args.bytes.now c.in-Some.header e.0 e.1 e.2)

use Rattle.std.proofs.Common.{refl}
use Rattle.ledger_io.proofs.LineLemmas.{BeginsTooLong-breaks}
use Rattle.ledger_io.proofs.reader.Lines.cut_line.Goals as goal

pub returns-then-end-gt-LINE_LIMIT : goal.returns-then-end-gt-LINE_LIMIT
returns-then-end-gt-LINE_LIMIT c = (BeginsTooLong-breaks _ c.args.end c.requires c.if-end-gt-LINE_LIMIT.true, refl)

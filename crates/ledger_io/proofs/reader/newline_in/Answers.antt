use Rattle.ledger_io.proofs.LineLemmas.{newline_first}
use Rattle.ledger_io.proofs.reader.newline_in.Goals as goal

pub returns : goal.returns
returns c = newline_first c.args.bytes.now c.memchr.result c.memchr.ensures

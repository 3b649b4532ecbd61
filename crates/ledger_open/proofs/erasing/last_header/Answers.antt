use Rattle.std.specs.Prelude.{option_copied}
use Rattle.ledger_open.proofs.FinishLaws.{last_told}
use Rattle.ledger_open.proofs.erasing.last_header.Goals as goal

pub returns : goal.returns
returns c h serves = last_told c.args.book.now h serves c.size.result (option_copied c.header.result) c.size.ensures.size (c.header.ensures.header h serves)

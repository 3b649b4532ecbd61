use Rattle.journal_record.specs.Approval.{who_of}
use Rattle.ledger_book.proofs.HeaderLaws.{clue_is}
use Rattle.ledger_book.proofs.headers.clue_occult_header.Goals as goal

pub returns : goal.returns
returns c = clue_is c.args.jsn c.args.count c.from.result c.args.clue.now c.args.given.now c.plain_header.result c.from.ensures (c.plain_header.ensures (who_of c.args.given.now) c.approvals_digest-who.ensures)

use Rattle.std.proofs.Common.{sym}
use Rattle.ledger_book.proofs.NumberedLaws.{link_is}
use Rattle.ledger_book.proofs.book.Book.link_of.Goals as goal

pub returns-in-Some : goal.returns-in-Some
returns-in-Some c = λ h s le lt. link_is c.args.self.now h c.args.n c.in-Some.header.now s.stands le (sym (c.in-Some.ensures.kept le))

use Rattle.ledger_book.proofs.FactLaws.{kind_read, kind_none}
use Rattle.ledger_book.proofs.book.Book.kind_of.Goals as goal

pub returns-in-Some : goal.returns-in-Some
returns-in-Some c = λ le. kind_read c.args.self.now.headers _ c.in-Some.header.now (c.in-Some.ensures.kept le)

pub returns-in-None : goal.returns-in-None
returns-in-None c = λ le. kind_none c.args.self.now.headers _ (c.in-None.ensures.kept le)

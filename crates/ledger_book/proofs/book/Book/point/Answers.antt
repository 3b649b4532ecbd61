use Rattle.std.proofs.Common.{ap, ◌∙◌}
use Rattle.ledger_book.specs.Books.{Kept}
use Rattle.ledger_book.proofs.StandsLaws.{point_is}
use Rattle.ledger_book.proofs.book.Book.point.Goals as goal

pub returns-clause-point : goal.returns-clause-point
returns-clause-point c = λ h s. ap (λ (k : Kept). k.point) c.self.view_is ∙ point_is c.args.self.now h s

use Rattle.std.proofs.Common.{ap, ◌∙◌}
use Rattle.time_peg.specs.Times.{lower_bound, upper_bound}
use Rattle.ledger_book.specs.Books.{Kept}
use Rattle.ledger_book.proofs.StandsLaws.{point_is}
use Rattle.ledger_book.proofs.TimeLaws.{lower_told, upper_told}
use Rattle.ledger_book.proofs.book.Book.bounds_of.Goals as goal

pub returns-clause-lower : goal.returns-clause-lower
returns-clause-lower c = λ h s. c.bounds_of.ensures.lower ∙ ap (λ (k : Kept). lower_bound c.args.n k.times) c.self.view_is ∙ lower_told c.args.self.now h c.args.n s (point_is c.args.self.now h s)

pub returns-clause-upper : goal.returns-clause-upper
returns-clause-upper c = λ h s. c.bounds_of.ensures.upper ∙ ap (λ (k : Kept). upper_bound c.args.n k.times) c.self.view_is ∙ upper_told c.args.self.now h c.args.n s (point_is c.args.self.now h s)

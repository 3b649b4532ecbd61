use Rattle.std.proofs.Common.{sym, subst, ◌∙◌}
use Rattle.ledger_book.specs.Books.{Kept, Stands}
use Rattle.ledger_book.specs.contracts.book.Book.{the_view}
use Rattle.ledger_book.proofs.StandsLaws.{peg_told}
use Rattle.ledger_book.proofs.book.Book.peg.Goals as goal

pub returns-clause-peg : goal.returns-clause-peg
returns-clause-peg c = λ h s none.
    c.peg_of.ensures ∙ peg_told (the_view c.self.inside) h (subst (λ (k : Kept). Stands k h) (sym c.self.view_is) s) none

use Rattle.std.specs.Prelude.{IsTrue}
use Rattle.std.proofs.Common.{◌↔◌, ap, sym, subst, ◌∙◌}
use Rattle.ledger_model.specs.Lawful.{IsNextClueOccult}
use Rattle.ledger_model.specs.Behind.{IsClueOccultBehind}
use Rattle.ledger_book.specs.Books.{Kept}
use Rattle.ledger_book.proofs.NextLaws.{next_clue, clue_behind}
use Rattle.ledger_book.proofs.book.Book.is_next_clue_occult.Goals as goal

pub returns-clause-next : goal.returns-clause-next
returns-clause-next c = λ h s.
    subst (λ v. IsTrue v ↔ IsNextClueOccult h c.args.header.now) (sym c.may_hide.ensures)
    (next_clue h c.args.header.now c.in_ok-facts.facts c.self.inside.reached (ap (λ (k : Kept). k.reached) c.self.view_is ∙ s.reached) (c.in_ok-facts.ensures.facts h s))

pub returns-clause-behind : goal.returns-clause-behind
returns-clause-behind c = λ start es s.
    subst (λ v. IsTrue v ↔ IsClueOccultBehind start es c.args.header.now) (sym c.may_hide.ensures)
    (clue_behind start es c.args.header.now c.in_ok-facts.facts c.self.inside.reached (ap (λ (k : Kept). k.reached) c.self.view_is ∙ s.reached) (c.in_ok-facts.ensures.behind start es s))

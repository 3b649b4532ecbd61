use Rattle.std.specs.Prelude.{IsTrue}
use Rattle.std.proofs.Common.{◌≤◌, ◌↔◌, ap, subst, arith}
use Rattle.ledger_model.specs.Lawful.{IsNextOccult}
use Rattle.ledger_model.specs.Behind.{IsOccultBehind}
use Rattle.ledger_book.specs.Books.{Kept}
use Rattle.ledger_book.proofs.FactLaws.{next_occult, none_told}
use Rattle.ledger_book.proofs.NextLaws.{never, occult_behind}
use Rattle.ledger_book.proofs.StandsLaws.{point_is}
use Rattle.ledger_book.proofs.book.Book.is_next_occult.Goals as goal

pub returns-clause-next : goal.returns-clause-next
returns-clause-next c = λ h s.
    subst (λ v. IsTrue v ↔ IsNextOccult h c.args.header.now) (none_told c.target_refusal.result c.is_none-2.result c.is_none-2.ensures) (next_occult h c.args.header.now c.facts.result c.target_refusal.result (c.facts.ensures.facts h s) c.target_refusal.ensures)

pub returns-clause-behind : goal.returns-clause-behind
returns-clause-behind c = λ start es s.
    let low : c.args.self.now.floor ≤ c.args.header.now.a = omega (arith, c.if-target-self.false, ap (λ (k : Kept). k.floor) c.self.view_is) in
    subst (λ v. IsTrue v ↔ IsOccultBehind start es c.args.header.now) (none_told c.target_refusal.result c.is_none-2.result c.is_none-2.ensures)
    (occult_behind start es c.args.header.now c.facts.result c.target_refusal.result (c.facts.ensures.behind start es s low) (omega (arith, low, s.floor)) c.target_refusal.ensures)

pub returns-then-self-clause-next : goal.returns-then-self-clause-next
returns-then-self-clause-next c = λ h s.
    never (λ own. omega (arith, own.kept, point_is c.args.self.now h s, s.seen, c.if-target-self.true, ap (λ (k : Kept). k.floor) c.self.view_is))

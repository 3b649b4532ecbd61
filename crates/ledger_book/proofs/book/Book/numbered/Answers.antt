use Rattle.std.proofs.Common.{ap, ◌∙◌}
use Rattle.std.proofs.lemmas.Bool.{ne_eqb}
use Rattle.ledger_book.specs.Books.{Kept}
use Rattle.ledger_book.specs.Numbered.{from_on, told_of, told_number}
use Rattle.ledger_book.proofs.NumberedLaws.{told_last}
use Rattle.ledger_book.proofs.book.Book.numbered.Goals as goal

pub returns : goal.returns
returns c =
    let i = c.self.inside in
    let m = c.args.member in
    let r = c.args.number in
    c.of.ensures ∙ ap (λ p. from_on p (told_of (m, r) i.numbers)) c.max.ensures
    ∙ (told_last i.numbers i.floor i.point m r i.headers.items (ne_eqb r 0 c.if-number-eq0.false) c.self.invariant.10
    ∙ ap (λ (k : Kept). told_number k.floor k.point m r k.headers) c.self.view_is)

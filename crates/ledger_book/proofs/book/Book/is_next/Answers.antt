use Rattle.std.proofs.lemmas.Result.{IfOk-weaker}
use Rattle.std.proofs.Common.{ap, sym, ◌∙◌, arith}
use Rattle.ledger_model.specs.declared.limits.Limits.{Limits}
use Rattle.ledger_book.specs.Books.{Kept}
use Rattle.ledger_book.proofs.NextLaws.{never, floor_low, next_by}
use Rattle.ledger_book.proofs.ReplayLaws.{next_open, next_closed}
use Rattle.ledger_book.proofs.book.Book.is_next.Goals as goal

pub returns-then-ne-clause-next : goal.returns-then-ne-clause-next
returns-then-ne-clause-next c = λ h s.
    never (λ next. floor_low c.args.self.now h s (sym (ap (λ (k : Kept). k.size) c.self.view_is) ∙ c.if-self.true ∙ ap (λ (k : Kept). k.floor) c.self.view_is))

pub returns-clause-next : goal.returns-clause-next
returns-clause-next c =
    let k = c.args.self.now in
    let x = c.args.header.now in
    let size = ap (λ (k : Kept). k.size) c.self.view_is in
    IfOk-weaker c.is_next_of.result _ _ (λ is next h s.
    let told = next h s in
    next_by k x c.requires.layout (c.if-header-self.false ∙ size) (omega (arith, size, c.if-self-most.false, ap (λ (l : Limits). l.size) c.real-most.ensures)) (omega (arith, size, c.self.invariant.0))
    h is s (λ yes. next_open h x x.kind (told.0 yes), λ own. told.1 (next_closed h x x.kind own))) c.is_next_of.ensures.next

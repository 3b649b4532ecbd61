use Rattle.std.proofs.Common.{ap, sym, subst, ◌∙◌}
use Rattle.ledger_bytes.specs.Digests.{digest}
use Rattle.ledger_book.specs.Books.{Kept, Serves, leaf_digests}
use Rattle.ledger_book.proofs.PurgeLaws.{root_before}
use Rattle.ledger_book.proofs.book.Book.root_below.Goals as goal

pub returns-in-Ok : goal.returns-in-Ok
returns-in-Ok c = λ h s0 le lt.
    let s = subst (λ (k : Kept). Serves k h) (sym c.self.view_is) s0 in
    ap digest (c.in-Ok.ensures.root (leaf_digests h) s.stands.tree.leaves ∙ root_before h c.args.n)

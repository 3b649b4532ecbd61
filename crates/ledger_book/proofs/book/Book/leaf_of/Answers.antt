use Rattle.std.proofs.Common.{ap, sym, subst}
use Rattle.ledger_bytes.specs.Digests.{digest}
use Rattle.ledger_book.specs.Books.{Kept, Serves, leaf_digests}
use Rattle.ledger_book.specs.Reading.{StandsBehind}
use Rattle.ledger_book.proofs.FactLaws.{leaf_behind}
use Rattle.ledger_book.proofs.book.Book.leaf_of.Goals as goal

pub returns-in-Ok-clause-list : goal.returns-in-Ok-clause-list
returns-in-Ok-clause-list c = λ h s0 le lt.
    let s = subst (λ (k : Kept). Serves k h) (sym c.self.view_is) s0 in
    ap digest (c.in-Ok.ensures.leaf (leaf_digests h) s.stands.tree.leaves)

pub returns-in-Ok-clause-behind : goal.returns-in-Ok-clause-behind
returns-in-Ok-clause-behind c = λ start es s0 le lt.
    let s = subst (λ (k : Kept). StandsBehind k start es) (sym c.self.view_is) s0 in
    leaf_behind start c.self.inside.tree es c.args.n c.in-Ok.leaf.0 s.leaves c.in-Ok.ensures.leaf c.in-Ok.ensures.over

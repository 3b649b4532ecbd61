use Rattle.std.proofs.Common.{◌≤◌, ◌<◌, refl, ap, sym, subst, ◌∙◌, arith}
use Rattle.ledger_model.specs.History.{point}
use Rattle.ledger_book.specs.Books.{Kept}
use Rattle.ledger_book.proofs.FactLaws.{kind_kept}
use Rattle.ledger_book.proofs.StandsLaws.{point_is}
use Rattle.ledger_book.proofs.book.Book.purge_facts.Goals as goal

pub returns-clause-facts : goal.returns-clause-facts
returns-clause-facts c = λ h s.
    let k = c.args.self.now in
    let n = c.args.n in
    let low : point h ≤ n → k.floor ≤ n = λ le. omega (arith, s.seen, point_is k h s, le) in
    record {
      asked_is = refl;
      size_is = ap (λ (b : Kept). b.size) c.self.view_is ∙ s.stands.counts.size;
      point_is = ap (λ (b : Kept). b.point) c.self.view_is ∙ point_is k h s;
      kind_is = λ le lt. c.kind_of.ensures (low le) ∙ kind_kept k.headers k.floor h n s.stands.tree.headers_are (low le);
      root_is = λ le lt. c.root_below.ensures h s (low le) (subst (λ m. n < m) (sym s.stands.counts.size) lt);
    }

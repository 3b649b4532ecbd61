use Rattle.std.specs.Option.{is_some}
use Rattle.std.proofs.Common.{[], ◌-◌, ◌<◌, ◌≤◌, refl, ap, sym, subst, ◌∙◌, arith}
use Rattle.ledger_model.specs.History.{history, point}
use Rattle.ledger_model.specs.Targets.{kind_at}
use Rattle.ledger_book.specs.Books.{Kept}
use Rattle.ledger_book.proofs.FactLaws.{kind_kept, kind_behind}
use Rattle.ledger_book.proofs.StandsLaws.{point_is}
use Rattle.ledger_book.proofs.book.Book.facts.Goals as goal

pub returns-clause-facts : goal.returns-clause-facts
returns-clause-facts c = λ h s.
    let k = c.args.self.now in
    let n = c.args.n in
    let low : point h ≤ n → k.floor ≤ n = λ le. omega (arith, s.seen, point_is k h s, le) in
    record {
      target_is = refl;
      size_is = ap (λ (b : Kept). b.size) c.self.view_is ∙ s.stands.counts.size;
      point_is = ap (λ (b : Kept). b.point) c.self.view_is ∙ point_is k h s;
      kind_is = λ le lt. c.kind_of.ensures (low le) ∙ kind_kept k.headers k.floor h n s.stands.tree.headers_are (low le);
      by_is = λ le. c.hider.ensures.told (low le) ∙ s.stands.hiders n (low le);
      leaf_is = λ le lt. c.leaf_of.ensures.list h s (low le) lt;
    }

pub returns-clause-behind : goal.returns-clause-behind
returns-clause-behind c = λ start es s le.
    let k = c.args.self.now in
    let n = c.args.n in
    record {
      target_is = refl;
      size_is = ap (λ (b : Kept). b.size) c.self.view_is ∙ s.size_is;
      point_is = ap (λ (b : Kept). b.point) c.self.view_is ∙ s.point;
      kind_is = c.kind_of.ensures le ∙ kind_behind k.headers es (n - k.floor) s.headers_are ∙ ap (λ i. kind_at (history [] es) (n - i)) s.floor;
      by_is = ap is_some (c.hider.ensures.told le) ∙ s.hiders n (subst (λ m. m ≤ n) s.floor le);
      leaf_is = λ lt. c.leaf_of.ensures.behind start es s le (subst (λ m. n < m) (sym s.size_is) lt);
    }

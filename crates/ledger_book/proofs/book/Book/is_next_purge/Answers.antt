use Rattle.std.proofs.Common.{◌≤◌, [], ◌-◌, ap, sym, ◌∙◌, arith}
use Rattle.ledger_model.specs.History.{history}
use Rattle.ledger_model.specs.Targets.{kind_at}
use Rattle.ledger_book.specs.Books.{Kept}
use Rattle.ledger_book.proofs.FactLaws.{kind_kept, kind_behind}
use Rattle.ledger_book.proofs.NextLaws.{never}
use Rattle.ledger_book.proofs.StandsLaws.{point_is}
use Rattle.ledger_book.proofs.book.Book.is_next_purge.Goals as goal

pub returns-then-point-self-clause-next : goal.returns-then-point-self-clause-next
returns-then-point-self-clause-next c = λ h s.
    never (λ own. omega (arith, own.above, point_is c.args.self.now h s, c.if-point-self.true, ap (λ (k : Kept). k.point) c.self.view_is))

pub returns-clause-next : goal.returns-clause-next
returns-clause-next c = λ h s.
    let k = c.args.self.now in
    let n = c.args.header.now.a in
    let low : k.floor ≤ n = omega (arith, c.if-point-self-2.false, ap (λ (b : Kept). b.floor) c.self.view_is) in
    let sort = c.kind_of.ensures low ∙ kind_kept k.headers k.floor h n s.stands.tree.headers_are low in (
      λ yes. record {
        above = omega (arith, c.if-point-self.false, ap (λ (b : Kept). b.point) c.self.view_is, point_is k h s);
        before = omega (arith, c.requires.layout, s.stands.counts.size);
        target_is = sym sort ∙ c.is_time.ensures.0 yes;
      },
      λ own. c.is_time.ensures.1 (sort ∙ own.target_is),
    )

pub returns-clause-behind : goal.returns-clause-behind
returns-clause-behind c = λ start es s.
    let k = c.args.self.now in
    let n = c.args.header.now.a in
    let low : k.floor ≤ n = omega (arith, c.if-point-self-2.false, ap (λ (b : Kept). b.floor) c.self.view_is) in
    let sort = c.kind_of.ensures low ∙ kind_behind k.headers es (n - k.floor) s.headers_are ∙ ap (λ i. kind_at (history [] es) (n - i)) s.floor in (
      λ yes. record {
        above = omega (arith, c.if-point-self.false, ap (λ (b : Kept). b.point) c.self.view_is, s.point);
        target_is = λ _. sym sort ∙ c.is_time.ensures.0 yes;
      },
      λ own. c.is_time.ensures.1 (sort ∙ own.target_is (omega (arith, low, s.floor))),
    )

use Rattle.std.proofs.Common.{rules, arith, ap, sym, subst, nat_lt, ◌≤◌}
use Rattle.ledger_book.proofs.NumberedLaws.{cut_indexed}
use Rattle.std.proofs.lemmas.Fn.{filter_same}
use Rattle.ledger_book.specs.Books.{Kept, Serves}
use Rattle.ledger_book.specs.contracts.book.Book.{the_view}
use Rattle.ledger_book.proofs.DropLaws.{serves_cut}
use Rattle.ledger_book.proofs.book.Book.drop_below.Goals as goal

pub returns-clause-serves : goal.returns-clause-serves
returns-clause-serves c = λ h s0 at.
    let k = the_view c.self.inside in
    let s = subst (λ (k : Kept). Serves k h) (sym c.self.view_is) s0 in
    let p = c.args.p in
    serves_cut k h p s at (subst (λ (k : Kept). k.floor ≤ p) (sym c.self.view_is) c.requires.low) (subst (λ (k : Kept). p ≤ k.sealed) (sym c.self.view_is) c.requires.high) c.retain.new.self.items c.drop_below.new.self c.keep_from-2.new.values.items c.keep_from.new.values.items c.forget_below.new.self
    (filter_same _ (λ end. nat_lt p end) _ (λ x b f' called. search rules) _ _ c.retain.ensures.filtered) c.drop_below.ensures (search rules) (search rules) c.forget_below.ensures.stands

pub invariant_of-self : goal.invariant_of-self
invariant_of-self c =
    let i = c.self.inside in (
      c.self.invariant.0,
      c.self.invariant.1,
      c.self.invariant.2,
      c.self.invariant.3,
      c.self.invariant.4,
      search (rules, arith),
      search (rules, arith),
      search (rules, arith),
      search (rules, arith),
      c.self.invariant.9,
      cut_indexed i.numbers c.drop_below-2.new.self i.floor c.args.p i.headers.items c.keep_from.new.values.items (omega (arith, c.requires.low, ap (λ (k : Kept). k.floor) c.self.view_is)) (search rules) c.drop_below-2.ensures c.self.invariant.10,
      search (rules, arith),
    )

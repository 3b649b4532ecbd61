use Rattle.std.proofs.Common.{rules, arith, length, ◌≡◌, sym, subst, ◌∙◌, ◌&&◌, not, nat_le}
use Rattle.std.specs.Option.{is_some}
use Rattle.std.proofs.lemmas.Fn.{filter_same}
use Rattle.ledger_book.specs.Books.{Kept, Serves}
use Rattle.ledger_book.specs.Hiders.{hider_in}
use Rattle.ledger_book.specs.Reading.{StandsBehind}
use Rattle.ledger_book.specs.contracts.book.Book.{the_view}
use Rattle.ledger_book.proofs.ClueLaws.{told_count}
use Rattle.ledger_book.proofs.FactLaws.{told_shown, shown_in, count_told}
use Rattle.ledger_book.proofs.book.Book.clue_facts.Goals as goal

pub returns-clause-facts : goal.returns-clause-facts
returns-clause-facts c = λ h s0.
    let k = the_view c.self.inside in
    let s = subst (λ (k : Kept). Serves k h) (sym c.self.view_is) s0 in
    let same = filter_same _ (λ n. nat_le k.point n && not (is_some (hider_in k.floor k.hiders n))) _ (λ x b f' called. search rules) _ _ c.retain.ensures.filtered in
    let sized : c.len.result ≡ length c.retain.new.self.items = omega (arith, c.len.ensures, c.retain.new.self.ok.0) in
    record {
      count = told_count k h c.args.clue.now c.in_ok-count.count s.stands c.self.invariant.1 c.in_ok-count.ensures.count;
      shown = sized ∙ told_shown k h c.args.clue.now c.in_ok-count.shown.items c.retain.new.self.items s c.in_ok-count.ensures.kept same;
    }

pub returns-clause-behind : goal.returns-clause-behind
returns-clause-behind c = λ start es s0.
    let k = the_view c.self.inside in
    let s = subst (λ (k : Kept). StandsBehind k start es) (sym c.self.view_is) s0 in
    let same = filter_same _ (λ n. nat_le k.point n && not (is_some (hider_in k.floor k.hiders n))) _ (λ x b f' called. search rules) _ _ c.retain.ensures.filtered in
    let sized : c.len.result ≡ length c.retain.new.self.items = omega (arith, c.len.ensures, c.retain.new.self.ok.0) in
    record {
      count = count_told k start es c.args.clue.now c.in_ok-count.count s c.self.invariant.1 c.in_ok-count.ensures.count;
      shown = sized ∙ shown_in k start es c.args.clue.now c.in_ok-count.shown.items c.retain.new.self.items s c.in_ok-count.ensures.kept same;
    }

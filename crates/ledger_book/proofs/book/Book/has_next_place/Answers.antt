use Rattle.std.proofs.Common.{◌<◌, ◌↔◌, length, ap, sym, subst, ◌∙◌, arith}
use Rattle.std.specs.Prelude.{IsTrue}
use Rattle.std.specs.Option.{is_none}
use Rattle.ledger_model.specs.Limits.{real_limits}
use Rattle.ledger_model.specs.declared.limits.Limits.{Limits}
use Rattle.ledger_model.specs.Behind.{HasRoomFor, clues_behind}
use Rattle.ledger_book.specs.Books.{Kept}
use Rattle.ledger_book.proofs.FactLaws.{none_told}
use Rattle.ledger_book.proofs.NextLaws.{never, few_behind}
use Rattle.ledger_book.proofs.book.Book.has_next_place.Goals as goal

pub returns-then-header-numbers-clause-behind : goal.returns-then-header-numbers-clause-behind
returns-then-header-numbers-clause-behind c = λ start es s.
    let k = c.args.self.now in
    let few : k.size < 4_294_967_295 = c.requires in
    let ordinal = c.numbers_of-numbers.ensures.ordinal_in (clues_behind start es) s.clues (few_behind k start es s few c.args.header.now.clue.0) in
    never (λ own. c.if-header-numbers.true (own.clue_ord ∙ sym ordinal))

pub returns-clause-behind : goal.returns-clause-behind
returns-clause-behind c = λ start es s.
    let k = c.args.self.now in
    let x = c.args.header.now in
    let a = clues_behind start es in
    let few : k.size < 4_294_967_295 = c.requires in
    let ordinal = c.numbers_of-numbers.ensures.ordinal_in a s.clues (few_behind k start es s few x.clue.0) in
    let told : IsTrue c.is_none.result ↔ HasRoomFor real_limits.clues a x.clue =
    subst (λ v. IsTrue v ↔ HasRoomFor real_limits.clues a x.clue) (none_told c.clue_refusal.result c.is_none.result c.is_none.ensures)
    (subst (λ (l : Limits). IsTrue (is_none c.clue_refusal.result) ↔ HasRoomFor l.clues a x.clue) c.real.ensures (c.clue_refusal.ensures.room a x.clue s.clues ordinal)) in (
      λ yes. record {
        member = omega (arith, c.if-header-count.false, c.count.ensures.count, ap (λ (b : Kept). length b.members) c.self.view_is, s.members);
        clue_ord = c.if-header-numbers.false ∙ ordinal;
        clue_prev = c.if-header-numbers-2.false ∙ c.numbers_of-numbers.ensures.previous_in a s.clues;
        room = told.0 yes;
      },
      λ own. told.1 own.room,
    )

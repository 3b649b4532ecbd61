use Rattle.std.proofs.Common.{sym, ◌∙◌}
use Rattle.ledger_book.proofs.NextLaws.{never}
use Rattle.ledger_book.proofs.NumberedLaws.{told_stands, told_behind, some_known, none_known}
use Rattle.ledger_book.proofs.book.Book.is_next_record.Goals as goal

pub returns-then-is_some-clause-next : goal.returns-then-is_some-clause-next
returns-then-is_some-clause-next c = λ h s.
    let x = c.args.header.now in
    never (λ own. some_known c.numbered.result (sym c.is_some.ensures ∙ c.if-is_some.true) (c.numbered.ensures ∙ (told_stands c.args.self.now h x.member x.a s ∙ own.fresh)))

pub returns-then-is_some-clause-behind : goal.returns-then-is_some-clause-behind
returns-then-is_some-clause-behind c = λ start es s.
    let x = c.args.header.now in
    never (λ own. some_known c.numbered.result (sym c.is_some.ensures ∙ c.if-is_some.true) (c.numbered.ensures ∙ (told_behind c.args.self.now start es x.member x.a s ∙ own.fresh)))

pub returns-clause-next : goal.returns-clause-next
returns-clause-next c = λ h s.
    let x = c.args.header.now in
    let told = c.has_next_place.ensures.next h s.stands in (
      λ yes. let own = told.0 yes in record { member = own.member; clue_ord = own.clue_ord; clue_prev = own.clue_prev; room = own.room; fresh = sym (told_stands c.args.self.now h x.member x.a s) ∙ (sym c.numbered.ensures ∙ none_known c.numbered.result (sym c.is_some.ensures ∙ c.if-is_some.false)) },
      λ own. told.1 (record { member = own.member; clue_ord = own.clue_ord; clue_prev = own.clue_prev; room = own.room }),
    )

pub returns-clause-behind : goal.returns-clause-behind
returns-clause-behind c = λ start es s.
    let x = c.args.header.now in
    let told = c.has_next_place.ensures.behind start es s in (
      λ yes. let own = told.0 yes in record { member = own.member; clue_ord = own.clue_ord; clue_prev = own.clue_prev; room = own.room; fresh = sym (told_behind c.args.self.now start es x.member x.a s) ∙ (sym c.numbered.ensures ∙ none_known c.numbered.result (sym c.is_some.ensures ∙ c.if-is_some.false)) },
      λ own. told.1 (record { member = own.member; clue_ord = own.clue_ord; clue_prev = own.clue_prev; room = own.room }),
    )

use Rattle.std.specs.Result.{result_err}
use Rattle.std.proofs.Common.{length, sym, ap, ◌∙◌}
use Rattle.journal_record.specs.Members.{keys as keys_of}
use Rattle.member_book.specs.Erasures.{clue_occult_row, first_refusal}
use Rattle.erase_rules.specs.Rows.{row_of_clue_occult}
use Rattle.ledger_model.specs.Clues.{jsns_with}
use Rattle.ledger_model.specs.Judgements.{hard_fullness}
use Rattle.ledger_model.specs.Members.{members, keys}
use Rattle.ledger_model.specs.Targets.{shown_with}
use Rattle.ledger_book.specs.Books.{Kept}
use Rattle.ledger_book.proofs.FactLaws.{clue_row_told, judged_err, row_after, row_first}
use Rattle.ledger_book.proofs.MemberLaws.{known_keys}
use Rattle.ledger_book.proofs.book.Book.clue_occult_refusal.Goals as goal

pub returns-in-Some-clause-refusal : goal.returns-in-Some-clause-refusal
returns-in-Some-clause-refusal c = λ h s.
    let a = c.args in
    row_first (hard_fullness a.self.now.limits h) (clue_occult_row (length (jsns_with h a.clue.now)) (length (shown_with h a.clue.now)) (keys h) a.count a.given.now)
    c.in-Some.refusal (sym c.in-Some.is ∙ c.hard_refusal.ensures.refusal h s)

pub returns-clause-refusal : goal.returns-clause-refusal
returns-clause-refusal c = λ h s.
    let a = c.args in
    let f = c.in_ok-facts.facts in
    let known = keys_of c.self.inside.members in
    let same = ap (λ (k : Kept). keys_of k.members) c.self.view_is ∙ known_keys a.self.now.floor a.self.now.members (members h) s.stands.members in
    c.err.ensures.value ∙ ap result_err c.judge_clue_occult.ensures ∙ judged_err (first_refusal (row_of_clue_occult f known a.count a.given.now))
    ∙ ap (λ ks. first_refusal (row_of_clue_occult f ks a.count a.given.now)) same
    ∙ clue_row_told h f a.clue.now (keys h) a.count a.given.now (c.in_ok-facts.ensures.facts h s)
    ∙ sym (row_after (hard_fullness a.self.now.limits h) (clue_occult_row (length (jsns_with h a.clue.now)) (length (shown_with h a.clue.now)) (keys h) a.count a.given.now)
    (sym c.in_default.is ∙ c.hard_refusal.ensures.refusal h s))

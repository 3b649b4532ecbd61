use Rattle.std.proofs.Common.{◌≡◌, [], ◌∷◌, None, Some, ap, sym, ◌∙◌}
use Rattle.ledger_model.specs.Judgements.{fullness, clues_full}
use Rattle.ledger_book.specs.Books.{Kept}
use Rattle.ledger_book.proofs.JudgeLaws.{first_one, passed_before}
use Rattle.ledger_book.proofs.book.Book.judge_record.Goals as goal

pub returns-in-Some-clue_refusal-clause-refused : goal.returns-in-Some-clue_refusal-clause-refused
returns-in-Some-clue_refusal-clause-refused c = λ h s.
    let k = c.args.self.now in
    let full = fullness k.limits h in
    let clues = clues_full k.limits h c.args.clue.now in
    let clued : c.clue_refusal.result ≡ clues =
    c.clue_refusal.ensures.refusal h c.args.clue.now s.stands (c.numbers_of-numbers.ensures.ordinal h s.stands) ∙ ap (λ (b : Kept). clues_full b.limits h c.args.clue.now) c.self.view_is in
    passed_before (full ∷ []) (clues ∷ []) (Some c.in-Some-clue_refusal.refusal) (sym c.in_default.is ∙ c.full_refusal.ensures.refusal h s ∙ first_one full)
    (sym c.in-Some-clue_refusal.is ∙ clued ∙ first_one clues)

pub returns-clause-passed : goal.returns-clause-passed
returns-clause-passed c = λ h s.
    let k = c.args.self.now in
    let full = fullness k.limits h in
    let clues = clues_full k.limits h c.args.clue.now in
    let clued : c.clue_refusal.result ≡ clues =
    c.clue_refusal.ensures.refusal h c.args.clue.now s.stands (c.numbers_of-numbers.ensures.ordinal h s.stands) ∙ ap (λ (b : Kept). clues_full b.limits h c.args.clue.now) c.self.view_is in
    sym (passed_before (full ∷ []) (clues ∷ []) None (sym c.in_default.is ∙ c.full_refusal.ensures.refusal h s ∙ first_one full)
    (sym c.in_default-clue_refusal.is ∙ clued ∙ first_one clues))

-- Rows of refusals with one part behind the others.
use Rattle.std.specs.Option.{option_or}
use Rattle.std.proofs.Common.{◌≡◌, List, [], ◌∷◌, ◌++◌, Option, Some, None, refl, ap, sym, ◌∙◌}
use Rattle.ledger_bytes.specs.declared.refusal.Refusal.{Refusal}
use Rattle.member_book.specs.Approvals.{judgement}
use Rattle.member_book.specs.Erasures.{first_refusal}

one_refusal : (last : Option Refusal) → first_refusal (last ∷ []) ≡ last
one_refusal None = refl
one_refusal (Some refusal) = refl

-- the last part of a row is looked at where none before it refuses
first_or_last : (row : List (Option Refusal)) (last : Option Refusal) → first_refusal (row ++ last ∷ []) ≡ option_or (first_refusal row) last
first_or_last [] last = one_refusal last
first_or_last (None ∷ row) last = first_or_last row last
first_or_last (Some refusal ∷ row) last = refl

-- a part before the last refuses
pub judged_before : (row : List (Option Refusal)) (last : Option Refusal) (refusal : Refusal) → Some refusal ≡ first_refusal row
    → judgement (Some refusal) ≡ judgement (first_refusal (row ++ last ∷ []))
judged_before row last refusal is =
    ap (λ (first : Option Refusal). judgement (option_or first last)) is ∙ ap judgement (sym (first_or_last row last))

-- none before it does
pub judged_last : (row : List (Option Refusal)) (last : Option Refusal) → (let none : Option Refusal = None in none ≡ first_refusal row)
    → judgement last ≡ judgement (first_refusal (row ++ last ∷ []))
judged_last row last is =
    ap (λ (first : Option Refusal). judgement (option_or first last)) is ∙ ap judgement (sym (first_or_last row last))

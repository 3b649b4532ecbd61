-- Journals of a lineage, passed over as they are read.
use Rattle.std.proofs.Common.{◌≡◌, ℕ, suc, ◌+◌, ◌-◌, ◌<◌, List, [], ◌∷◌, ◌++◌, Result, Ok, Err, refl, subst, sym, ap, ◌∙◌, append_assoc, append-nil, arith}
use Rattle.ledger_bytes.specs.declared.failure.Bad.{Bad}
use Rattle.ledger_bytes.specs.Fields.{Unread, ◌>>=◌}
use Rattle.clue_lineage.specs.Lineages.{LineageItem}
use Rattle.clue_lineage.specs.Reading.{item_at, behind, items_at}

-- journals were read already, and what is read behind them
abbrev after_items : List LineageItem → Result (List LineageItem × Unread) Bad → Result (List LineageItem × Unread) Bad
after_items items read = read >>= λ more. Ok (items ++ more.0, more.1)

abbrev from_item : ℕ → ℕ → LineageItem × Unread → Result (List LineageItem × Unread) Bad
from_item n at item = items_at n (behind at item.0) item.1 >>= λ more. Ok (item.0 ∷ more.0, more.1)

-- some journals were passed over, and the others stand at a place
pub record Passed (count at number : ℕ) (before now : Unread) : Type 0 where
  pub items : List LineageItem
  pub so_far : items_at count 43 before ≡ after_items items (items_at (count - number) at now)

regrouped : (items : List LineageItem) (item : LineageItem) (r : Result (List LineageItem × Unread) Bad) → after_items items (r >>= λ more. Ok (item ∷ more.0, more.1)) ≡ after_items (items ++ item ∷ []) r
regrouped items item (Ok more) = ap (λ xs. Ok (xs, more.1)) (sym (append_assoc items (item ∷ []) more.0))
regrouped items item (Err bad) = refl

unbegun : (r : Result (List LineageItem × Unread) Bad) → r ≡ after_items [] r
unbegun (Ok more) = refl
unbegun (Err bad) = refl

pub none_passed : (count : ℕ) (l : Unread) → Passed count 43 0 l l
none_passed count l = record { items = []; so_far = subst (λ n. items_at count 43 l ≡ after_items [] (items_at n 43 l)) (omega arith) (unbegun (items_at count 43 l)) }

pub one_passed : (count at number : ℕ) (before now after : Unread) (item : LineageItem) → number < count → item_at at now ≡ Ok (item, after)
    → Passed count at number before now → Passed count (behind at item) (number + 1) before after
one_passed count at number before now after item below is p =
    let left_over : count - number ≡ suc (count - (number + 1)) = omega (arith, below) in
    record {
      items = p.items ++ item ∷ [];
      so_far =
          p.so_far ∙ ap (λ n. after_items p.items (items_at n at now)) left_over
          ∙ ap (λ r. after_items p.items (r >>= from_item (count - (number + 1)) at)) is
          ∙ regrouped p.items item (items_at (count - (number + 1)) (behind at item) after);
    }

pub one_broken : (count at number : ℕ) (before now : Unread) (bad : Bad) → number < count → item_at at now ≡ Err bad → Passed count at number before now → items_at count 43 before ≡ Err bad
one_broken count at number before now bad below is p =
    let left_over : count - number ≡ suc (count - (number + 1)) = omega (arith, below) in
    p.so_far ∙ ap (λ n. after_items p.items (items_at n at now)) left_over ∙ ap (λ r. after_items p.items (r >>= from_item (count - (number + 1)) at)) is

pub all_passed : (count at number : ℕ) (before now : Unread) → number ≡ count → Passed count at number before now → (items : List LineageItem) × (items_at count 43 before ≡ Ok (items, now))
all_passed count at number before now done p =
    let none : count - number ≡ 0 = omega (arith, done) in
    (p.items, p.so_far ∙ ap (λ n. after_items p.items (items_at n at now)) none ∙ ap (λ xs. Ok (xs, now)) (append-nil p.items))

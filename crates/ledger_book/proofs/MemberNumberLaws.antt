-- Lemmas on the numbers of one member.
use Rattle.std.specs.Prelude.{◌==◌, nat_le, nat_lt, filter}
use Rattle.std.specs.List.{AllByRecursion}
use Rattle.std.specs.List.Sorted.{IsStrictlySortedBy}
use Rattle.std.specs.Map.{keys_of}
use Rattle.std.specs.Ordering.{is_eq, nat_cmp}
use Rattle.std.specs.declared.cmp.Ordering.TheVariants.{Less, Equal, Greater}
use Rattle.std.proofs.Common.{◌≡◌, ℕ, Bool, true, false, cond, List, [], ◌∷◌, Option, Some, None, refl, sym, ap, subst, ◌∙◌, arith}
use Rattle.std.proofs.lemmas.Bool.{ltb-true, eqb-true, ne_eqb}
use Rattle.ledger_book.specs.Numbered.{from_on, told_in}

-- ---- numbers in order

tied : (a b : ℕ) → is_eq (nat_cmp a b) ≡ (a == b)
tied a b = elim (nat_lt a b) as (λ v. nat_lt a b ≡ v → is_eq (cond v Less (cond (a == b) Equal Greater)) ≡ (a == b)) [
  | true ↦ λ lt. sym (ne_eqb a b (λ same. omega (arith, same, ltb-true a b lt)))
  | false ↦ λ ge. elim (a == b) as (λ v. is_eq (cond v Equal Greater) ≡ v) [
    | true ↦ refl
    | false ↦ refl
  ]
] refl

abbrev none : Option ℕ
none = None

-- ---- the pairs from a journal on

-- none of the pairs has a number that is below all of theirs
none_after : (p n : ℕ) (es : List (ℕ × ℕ)) → AllByRecursion (λ y. nat_cmp n y ≡ Less) (keys_of es) → told_in n (filter (λ (e : ℕ × ℕ). nat_le p e.1) es) ≡ none
none_after p n [] all = refl
none_after p n (e ∷ es) all =
    let later = none_after p n es all.1 in
    elim (nat_le p e.1) as (λ v. told_in n (cond v (e ∷ filter (λ (e : ℕ × ℕ). nat_le p e.1) es) (filter (λ (e : ℕ × ℕ). nat_le p e.1) es)) ≡ none) [
      | true ↦ ap (λ o. cond (is_eq o) (Some e.1) (told_in n (filter (λ (e : ℕ × ℕ). nat_le p e.1) es))) all.0 ∙ later
      | false ↦ later
    ]

-- they tell what the numbers told, where that is one of those
pub kept_told : (p n : ℕ) (es : List (ℕ × ℕ)) → IsStrictlySortedBy nat_cmp (keys_of es) → told_in n (filter (λ (e : ℕ × ℕ). nat_le p e.1) es) ≡ from_on p (told_in n es)
unfolding IsStrictlySortedBy
kept_told p n [] sorted = refl
kept_told p n (e ∷ es) sorted = by_kept (nat_le p e.1) (is_eq (nat_cmp n e.0)) refl refl (kept_told p n es sorted.1) where
  by_kept : (v w : Bool) → nat_le p e.1 ≡ v → is_eq (nat_cmp n e.0) ≡ w → told_in n (filter (λ (e : ℕ × ℕ). nat_le p e.1) es) ≡ from_on p (told_in n es) → told_in n (cond v (e ∷ filter (λ (e : ℕ × ℕ). nat_le p e.1) es) (filter (λ (e : ℕ × ℕ). nat_le p e.1) es)) ≡ from_on p (cond w (Some e.1) (told_in n es))
  by_kept true true vis wis rest =
      ap (λ b. cond b (Some e.1) (told_in n (filter (λ (e : ℕ × ℕ). nat_le p e.1) es))) wis ∙ sym (ap (λ b. cond b (Some e.1) none) vis)
  by_kept true false vis wis rest = ap (λ b. cond b (Some e.1) (told_in n (filter (λ (e : ℕ × ℕ). nat_le p e.1) es))) wis ∙ rest
  by_kept false true vis wis rest =
      let same : n ≡ e.0 = eqb-true n e.0 (sym (tied n e.0) ∙ wis) in
      none_after p n es (subst (λ q. AllByRecursion (λ y. nat_cmp q y ≡ Less) (keys_of es)) (sym same) sorted.0) ∙ sym (ap (λ b. cond b (Some e.1) none) vis)
  by_kept false false vis wis rest = rest

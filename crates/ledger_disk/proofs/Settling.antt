-- Bytes that are brought up to date range by range.
use Rattle.std.proofs.Common.{◌≡◌, ◌⊎◌, inl, inr, ⊎_elim, ℕ, ◌+◌, ◌-◌, ◌<◌, ◌≤◌, min, List, ◌++◌, length, get_or, take, drop, sym, ◌∙◌, ap, subst, arith, length-append, length-drop, length-take}
use Rattle.std.proofs.lemmas.Bool.{cases_lt}
use Rattle.std.proofs.lemmas.List.{get_or-take, get_or-drop, get_or_append_left, get_or-append_right, get_or_past, drop_all, ext_get_or}
use Rattle.ledger_disk.specs.Disk.{IsUntouched}

-- at each place that none of these ranges has, the bytes are up to date
abbrev pub AgreesBut : List (ℕ × ℕ) → List ℕ → List ℕ → Type 0
AgreesBut rs stable bytes = (i : ℕ) → i < length bytes → IsUntouched i rs → get_or stable i 0 ≡ get_or bytes i 0

-- n bytes at this place were copied over
abbrev pub copied : ℕ → ℕ → List ℕ → List ℕ → List ℕ
copied at n stable bytes = take at stable ++ (take n (drop at bytes) ++ drop n (drop at stable))

pub length-copied : (at n : ℕ) (stable bytes : List ℕ) → length stable ≡ length bytes → at + n ≤ length bytes → length (copied at n stable bytes) ≡ length bytes
length-copied at n stable bytes size within =
    omega (arith, size, length-append (take at stable) (take n (drop at bytes) ++ drop n (drop at stable)), length-append (take n (drop at bytes)) (drop n (drop at stable)), length-take at stable, length-take n (drop at bytes), length-drop at bytes, length-drop n (drop at stable), length-drop at stable)

pub copied_inside : (at n : ℕ) (stable bytes : List ℕ) (i : ℕ) → length stable ≡ length bytes → at + n ≤ length bytes → at ≤ i → i < at + n → get_or (copied at n stable bytes) i 0 ≡ get_or bytes i 0
copied_inside at n stable bytes i size within from to =
    let front : length (take at stable) ≡ at = omega (arith, length-take at stable) in
    get_or-append_right (take at stable) (take n (drop at bytes) ++ drop n (drop at stable)) at i 0 front from
    ∙ get_or_append_left (take n (drop at bytes)) (drop n (drop at stable)) 0 (i - at) (omega (arith, length-take n (drop at bytes), length-drop at bytes))
    ∙ get_or-take n (drop at bytes) (i - at) 0 (omega arith)
    ∙ get_or-drop at bytes (i - at) 0 ∙ ap (λ (k : ℕ). get_or bytes k 0) (omega arith)

pub copied_outside : (at n : ℕ) (stable bytes : List ℕ) (i : ℕ) → length stable ≡ length bytes → at + n ≤ length bytes → (i < at) ⊎ (at + n ≤ i) → get_or (copied at n stable bytes) i 0 ≡ get_or stable i 0
copied_outside at n stable bytes i size within (inl below) =
    get_or_append_left (take at stable) (take n (drop at bytes) ++ drop n (drop at stable)) 0 i (omega (arith, length-take at stable)) ∙ get_or-take at stable i 0 below
copied_outside at n stable bytes i size within (inr behind) =
    let front : length (take at stable) ≡ at = omega (arith, length-take at stable) in
    let middle : length (take n (drop at bytes)) ≡ n = omega (arith, length-take n (drop at bytes), length-drop at bytes) in
    get_or-append_right (take at stable) (take n (drop at bytes) ++ drop n (drop at stable)) at i 0 front (omega arith)
    ∙ get_or-append_right (take n (drop at bytes)) (drop n (drop at stable)) n (i - at) 0 middle (omega arith)
    ∙ get_or-drop n (drop at stable) (i - at - n) 0 ∙ get_or-drop at stable (n + (i - at - n)) 0 ∙ ap (λ (k : ℕ). get_or stable k 0) (omega arith)

-- a range of which a part may lie past the end
pub range_inside : (b n at end : ℕ) (stable bytes : List ℕ) (i : ℕ) → length stable ≡ length bytes → at ≡ min b (length bytes) → end ≡ min (b + n) (length bytes)
    → b ≤ i → i < b + n → get_or (copied at (end - at) stable bytes) i 0 ≡ get_or bytes i 0
range_inside b n at end stable bytes i size begins ends from to = elim (cases_lt i (length bytes)) [
  | inl inside ↦ copied_inside at (end - at) stable bytes i size (omega arith) (omega arith) (omega arith)
  | inr past ↦
      get_or_past (copied at (end - at) stable bytes) i 0 (omega (arith, length-copied at (end - at) stable bytes size (omega arith))) ∙ sym (get_or_past bytes i 0 past)
]

pub range_outside : (b n at end : ℕ) (stable bytes : List ℕ) (i : ℕ) → length stable ≡ length bytes → at ≡ min b (length bytes) → end ≡ min (b + n) (length bytes)
    → (i < b) ⊎ (b + n ≤ i) → get_or (copied at (end - at) stable bytes) i 0 ≡ get_or stable i 0
range_outside b n at end stable bytes i size begins ends outside = elim (cases_lt i (length bytes)) [
  | inl inside ↦ copied_outside at (end - at) stable bytes i size (omega arith) (⊎_elim (λ below. inl (omega arith)) (λ behind. inr (omega arith)) outside)
  | inr past ↦
      get_or_past (copied at (end - at) stable bytes) i 0 (omega (arith, length-copied at (end - at) stable bytes size (omega arith))) ∙ sym (get_or_past stable i 0 (omega arith))
]

-- no range is left
pub agrees_all : (rs : List (ℕ × ℕ)) (k : ℕ) (stable bytes : List ℕ) → length stable ≡ length bytes → length rs ≤ k → AgreesBut (drop k rs) stable bytes → stable ≡ bytes
agrees_all rs k stable bytes size done agrees =
    ext_get_or 0 stable bytes size (λ i inside. agrees i (omega arith) (subst (λ (left : List (ℕ × ℕ)). IsUntouched i left) (sym (drop_all k rs done)) tt))

-- The root over peaks and later leaves is that of the next level, where the last of an odd number's peaks stands in front
-- of the leaves.
use Rattle.std.proofs.Common.{◌≡◌, ℕ, zero, suc, ◌+◌, ◌-◌, ◌*◌, ◌/◌, ◌%◌, ◌^◌, ◌<◌, ◌≤◌, inl, inr, List, [], ◌∷◌, ◌++◌, length, get_or, take, drop, refl, sym, ap, ap₂, ◌∙◌, arith, length-take-le, length-drop, length-append, drop-drop, drop_at, pow_pos, count_ones}
use Rattle.std.proofs.lemmas.Bool.{cases_lt, cases_eq}
use Rattle.std.proofs.lemmas.List.{take_all, drop-take, get_or-take}
use Rattle.std.proofs.lemmas.Nat.{ones_le_self, zero_from_ones}
use Rattle.std.proofs.Math.Seq.{take-append-add}
use Rattle.std.specs.Int.Count.{ones_step}
use Rattle.tree_model.specs.Tree.{Hash, node, root_at}
use Rattle.tree_model.specs.Halves.{halve}
use Rattle.tree_model.specs.RootFrom.{root_from_at, root_from, last_peak, other_peaks}
use Rattle.tree_model.proofs.Splits.{pow_twice, le_pow}
use Rattle.tree_model.proofs.Halves.{length-halve, halve-take, halve-drop, root_at_halve}
use Rattle.tree_model.proofs.RootsFrom.{from_same, from_peak, from_front, from_behind, from_enough}

-- the digits of a number without its first
ones_top : (h p : ℕ) → 2 ^ h ≤ p → p < 2 * 2 ^ h → count_ones p ≡ suc (count_ones (p - 2 ^ h))
ones_top zero p le lt =
    let one : p ≡ 1 = omega arith in
    let none : count_ones (p / 2) ≡ 0 = omega (arith, ones_le_self (p / 2)) in
    let less : count_ones (p - 1) ≡ 0 = omega (arith, ones_le_self (p - 1)) in
    omega (arith, ones_step p, none, less)
ones_top (suc h) p le lt =
    let twice : 2 ^ suc h ≡ 2 * 2 ^ h = pow_twice h in
    let half : (p - 2 ^ suc h) / 2 ≡ p / 2 - 2 ^ h = omega (arith, twice) in
    let up : count_ones (p / 2) ≡ suc (count_ones (p / 2 - 2 ^ h)) = ones_top h (p / 2) (omega (arith, twice)) (omega (arith, twice)) in
    omega (arith, twice, ones_step p, ones_step (p - 2 ^ suc h), up, ap (λ j. count_ones j) half)

-- a number that isn't zero has a digit that is one
some_ones : (p : ℕ) → 0 < p → 0 < count_ones p
some_ones p some = elim (cases_eq (count_ones p) 0) [
  | inl none ↦ absurd (omega (arith, zero_from_ones p none))
  | inr more ↦ omega (arith, more)
]

module _ (ps : List (List ℕ)) (p : ℕ) (count : length ps ≡ count_ones p) where
  -- there is a last peak exactly where the number is odd
  pub length-last_peak : length (last_peak p ps) ≡ p % 2
  length-last_peak = omega (arith, count, ones_step p, length-drop (length ps - p % 2) ps)

  -- the others are those of half of it
  pub length-other_peaks : length (other_peaks p ps) ≡ count_ones (p / 2)
  length-other_peaks = omega (arith, count, ones_step p, length-take-le (length ps - p % 2) ps (omega arith))

  module _ (h : ℕ) (le : 2 * 2 ^ h ≤ p) where
    -- one of them stands in front of the last
    more_peaks : p % 2 < length ps
    more_peaks = omega (arith, count, ones_step p, some_ones (p / 2) (omega (arith, pow_pos h)))

    -- the first is the first of all
    first_other : get_or (other_peaks p ps) 0 [] ≡ get_or ps 0 []
    first_other = get_or-take (length ps - p % 2) ps 0 [] (omega (arith, more_peaks))

    module _ (lt : p < 2 * (2 * 2 ^ h)) where
      -- without the first
      last_drop : last_peak (p - 2 * 2 ^ h) (drop 1 ps) ≡ last_peak p ps
      last_drop =
          let place : 1 + (length (drop 1 ps) - (p - 2 * 2 ^ h) % 2) ≡ length ps - p % 2 = omega (arith, length-drop 1 ps, more_peaks) in
          drop-drop (length (drop 1 ps) - (p - 2 * 2 ^ h) % 2) 1 ps ∙ ap (λ j. drop j ps) place

      other_drop : other_peaks (p - 2 * 2 ^ h) (drop 1 ps) ≡ drop 1 (other_peaks p ps)
      other_drop =
          let place : length ps - p % 2 ≡ 1 + (length (drop 1 ps) - (p - 2 * 2 ^ h) % 2) = omega (arith, length-drop 1 ps, more_peaks) in
          sym (ap (λ j. drop 1 (take j ps)) place ∙ drop-take 1 (length (drop 1 ps) - (p - 2 * 2 ^ h) % 2) ps)

      count_drop : length (drop 1 ps) ≡ count_ones (p - 2 * 2 ^ h)
      count_drop =
          let twice : 2 ^ suc h ≡ 2 * 2 ^ h = pow_twice h in
          omega (arith, twice, length-drop 1 ps, count, ones_top (suc h) p (omega (arith, twice)) (omega (arith, twice)), ap (λ j. count_ones (p - j)) twice)

module _ (hash : Hash) where
  -- two digests at most
  from_at_one : (ps : List (List ℕ)) (p : ℕ) (xs : List (List ℕ)) → length ps ≡ count_ones p → p + length xs ≤ 2 ^ 1
      → root_from_at hash 1 ps p xs ≡ root_from_at hash 0 (other_peaks p ps) (p / 2) (halve hash (last_peak p ps ++ xs))
  unfolding root_from_at root_at halve
  from_at_one [] zero [] count fits = refl
  from_at_one [] zero (x ∷ []) count fits = refl
  from_at_one [] zero (x ∷ y ∷ []) count fits = refl
  from_at_one [] zero (x ∷ y ∷ z ∷ xs) count fits = absurd (omega arith)
  from_at_one [] (suc p) xs count fits = absurd (omega (arith, some_ones (suc p) (omega arith)))
  from_at_one (q ∷ ps) zero xs count fits = absurd (omega (arith, ones_le_self 0))
  from_at_one (q ∷ []) (suc zero) [] count fits = refl
  from_at_one (q ∷ []) (suc zero) (x ∷ []) count fits = refl
  from_at_one (q ∷ []) (suc zero) (x ∷ y ∷ xs) count fits = absurd (omega arith)
  from_at_one (q ∷ []) (suc (suc zero)) [] count fits = refl
  from_at_one (q ∷ []) (suc (suc zero)) (x ∷ xs) count fits = absurd (omega arith)
  from_at_one (q ∷ []) (suc (suc (suc p))) xs count fits = absurd (omega arith)
  from_at_one (q ∷ r ∷ ps) (suc zero) xs count fits = absurd (omega (arith, ones_le_self 1))
  from_at_one (q ∷ r ∷ ps) (suc (suc zero)) xs count fits =
      let half : count_ones (2 / 2) ≤ 1 = ones_le_self 1 in
      absurd (omega (arith, ones_step 2, half))
  from_at_one (q ∷ r ∷ ps) (suc (suc (suc p))) xs count fits = absurd (omega arith)

  -- one level less
  from_at_halve : (h : ℕ) (ps : List (List ℕ)) (p : ℕ) (xs : List (List ℕ)) → length ps ≡ count_ones p → p + length xs ≤ 2 ^ suc h
      → root_from_at hash (suc h) ps p xs ≡ root_from_at hash h (other_peaks p ps) (p / 2) (halve hash (last_peak p ps ++ xs))
  from_at_halve zero ps p xs count fits = from_at_one ps p xs count fits
  from_at_halve (suc h) ps p xs count fits =
      let twice : 2 ^ suc h ≡ 2 * 2 ^ h = pow_twice h in
      let last = last_peak p ps in
      let len : length last ≡ p % 2 = length-last_peak ps p count in
      let half : length (halve hash (last ++ xs)) ≡ (p % 2 + length xs + 1) / 2 = omega (arith, length-halve hash (last ++ xs), length-append last xs, len) in
      elim (cases_lt (2 ^ suc h) (p + length xs)) [
        | inr small ↦
            from_same hash (suc h) ps p xs small ∙ from_at_halve h ps p xs count small
            ∙ sym (from_same hash h (other_peaks p ps) (p / 2) (halve hash (last ++ xs)) (omega (arith, half, twice)))
        | inl more ↦ elim (cases_eq p (2 ^ suc (suc h))) [
          | inl whole ↦
              let even : p % 2 ≡ 0 = omega (arith, whole, pow_twice (suc h)) in
              let all : other_peaks p ps ≡ ps = take_all (length ps - p % 2) ps (omega arith) in
              from_peak hash (suc h) ps p xs more whole
              ∙ ap (λ t. get_or t 0 []) (sym all)
              ∙ sym (from_peak hash h (other_peaks p ps) (p / 2) (halve hash (last ++ xs)) (omega (arith, half, twice)) (omega (arith, whole, twice, pow_twice (suc h))))
          | inr part ↦ elim (cases_lt p (2 ^ suc h)) [
            | inr front ↦
                let le : 2 * 2 ^ h ≤ p = omega (arith, twice) in
                let lt : p < 2 * (2 * 2 ^ h) = omega (arith, twice, pow_twice (suc h), part) in
                let less : (p - 2 * 2 ^ h) / 2 ≡ p / 2 - 2 ^ h = omega arith in
                from_front hash (suc h) ps p xs more front (omega (arith, twice, pow_twice (suc h), lt))
                ∙ ap₂ (λ a b. node hash a b) (sym (first_other ps p count h le))
                (ap (λ j. root_from_at hash (suc h) (drop 1 ps) (p - j) xs) twice
                ∙ from_at_halve h (drop 1 ps) (p - 2 * 2 ^ h) xs (count_drop ps p count h le lt) (omega (arith, twice, pow_twice (suc h)))
                ∙ ap₂ (λ t l. root_from_at hash h t ((p - 2 * 2 ^ h) / 2) (halve hash (l ++ xs))) (other_drop ps p count h le lt) (last_drop ps p count h le lt)
                ∙ ap (λ j. root_from_at hash h (drop 1 (other_peaks p ps)) j (halve hash (last ++ xs))) less)
                ∙ sym (from_front hash h (other_peaks p ps) (p / 2) (halve hash (last ++ xs)) (omega (arith, half, twice)) (omega arith) (omega (arith, twice, lt)))
            | inl behind ↦
                let k = 2 ^ suc h - p in
                let up : 2 * (2 ^ h - p / 2) ≡ length last + k = omega (arith, len, twice) in
                let some : length (take k xs) ≡ k = length-take-le k xs (omega arith) in
                from_behind hash (suc h) ps p xs more behind
                ∙ ap₂ (λ a b. node hash a b)
                (from_at_halve h ps p (take k xs) count (omega (arith, some))
                ∙ ap (λ t. root_from_at hash h (other_peaks p ps) (p / 2) (halve hash t)) (sym (take-append-add last xs k) ∙ ap (λ j. take j (last ++ xs)) (sym up))
                ∙ ap (root_from_at hash h (other_peaks p ps) (p / 2)) (halve-take hash (2 ^ h - p / 2) (last ++ xs)))
                (root_at_halve hash h (drop k xs) (omega (arith, length-drop k xs, pow_twice (suc h)))
                ∙ ap (λ t. root_at hash h (halve hash t)) (sym (ap (drop k) (drop_at last xs (length last) refl)) ∙ drop-drop k (length last) (last ++ xs) ∙ ap (λ j. drop j (last ++ xs)) (sym up))
                ∙ ap (root_at hash h) (halve-drop hash (2 ^ h - p / 2) (last ++ xs)))
                ∙ sym (from_behind hash h (other_peaks p ps) (p / 2) (halve hash (last ++ xs)) (omega (arith, half, twice)) (omega (arith, twice)))
          ]
        ]
      ]

  -- the root is that of the next level
  pub from-halve : (ps : List (List ℕ)) (p : ℕ) (xs : List (List ℕ)) → length ps ≡ count_ones p → root_from hash ps p xs ≡ root_from hash (other_peaks p ps) (p / 2) (halve hash (last_peak p ps ++ xs))
  from-halve ps p xs count =
      let h = p + length xs in
      let fits : p + length xs ≤ 2 ^ suc h = omega (arith, le_pow (p + length xs), pow_twice (p + length xs)) in
      let half : p / 2 + length (halve hash (last_peak p ps ++ xs)) ≤ 2 ^ h =
      omega (arith, length-halve hash (last_peak p ps ++ xs), length-append (last_peak p ps) xs, length-last_peak ps p count, le_pow (p + length xs)) in
      sym (from_enough hash (suc h) ps p xs fits) ∙ from_at_halve h ps p xs count fits ∙ from_enough hash h (other_peaks p ps) (p / 2) (halve hash (last_peak p ps ++ xs)) half

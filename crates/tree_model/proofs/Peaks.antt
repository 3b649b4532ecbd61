-- The peaks of a level are those of the level below, without an odd last digest.
use Rattle.std.proofs.Common.{◌≡◌, ℕ, zero, suc, ◌+◌, ◌-◌, ◌*◌, ◌/◌, ◌%◌, ◌^◌, ◌<◌, ◌≤◌, inl, inr, None, List, [], ◌∷◌, ◌++◌, length, take, drop, refl, sym, ap, ap₂, ◌∙◌, arith, le-leb, length-take-le, length-drop, length-append, drop-drop, count_ones}
use Rattle.std.proofs.lemmas.Bool.{cases_lt, lt-leb}
use Rattle.std.proofs.lemmas.Nat.{ones_le_self}
use Rattle.std.specs.Int.Count.{ones_step}
use Rattle.std.proofs.lemmas.List.{append-nil}
use Rattle.std.proofs.Math.Seq.{take-nil, drop-nil}
use Rattle.tree_model.specs.Tree.{Hash, node, root_at, root}
use Rattle.tree_model.specs.Halves.{pairs, halve}
use Rattle.tree_model.specs.Peaks.{peaks_at, peaks}
use Rattle.tree_model.proofs.Splits.{pow_twice, pow_mono}
use Rattle.tree_model.proofs.Levels.{root_enough}
use Rattle.tree_model.proofs.Halves.{length-pairs, root_at_halve}
use Rattle.tree_model.proofs.Rising.{halve_even}

-- n levels hold more than n leaves
lt_pow : (n : ℕ) → n < 2 ^ n
lt_pow zero = omega arith
lt_pow (suc n) = omega (arith, lt_pow n, pow_twice n)

module _ (hash : Hash) where
  -- a subtree that is whole stands in front
  pub peaks_at_whole : (h : ℕ) (ds : List (List ℕ)) → 2 ^ h ≤ length ds → peaks_at hash (suc h) ds ≡ root_at hash h (take (2 ^ h) ds) ∷ peaks_at hash h (drop (2 ^ h) ds)
  unfolding peaks_at
  peaks_at_whole h ds whole = rw (le-leb (2 ^ h) (length ds) whole) refl

  -- a level that has none adds no peak
  pub peaks_at_same : (h : ℕ) (ds : List (List ℕ)) → length ds < 2 ^ h → peaks_at hash (suc h) ds ≡ peaks_at hash h ds
  unfolding peaks_at
  peaks_at_same h ds few = rw (lt-leb (2 ^ h) (length ds) few) refl

  -- more levels than needed add no peak
  peaks_up : (g h : ℕ) (ds : List (List ℕ)) → h ≤ g → length ds < 2 ^ h → peaks_at hash g ds ≡ peaks_at hash h ds
  peaks_up zero h ds le few = ap (λ l. peaks_at hash l ds) (omega arith)
  peaks_up (suc g) h ds le few = elim (cases_lt g h) [
    | inl above ↦ ap (λ l. peaks_at hash l ds) (omega arith)
    | inr within ↦ peaks_at_same g ds (omega (arith, pow_mono h g within)) ∙ peaks_up g h ds within few
  ]

  -- the peaks at any number of levels that have room for more
  peaks_enough : (h : ℕ) (ds : List (List ℕ)) → length ds < 2 ^ h → peaks_at hash h ds ≡ peaks hash ds
  unfolding peaks
  peaks_enough h ds few = elim (cases_lt h (length ds)) [
    | inl below ↦ sym (peaks_up (length ds) h ds (omega arith) few)
    | inr above ↦ peaks_up h (length ds) ds above (lt_pow (length ds))
  ]

  -- the back of a level is made from the back of the level below
  pub pairs-drop : (k : ℕ) (ds : List (List ℕ)) → pairs hash (drop (2 * k) ds) ≡ drop k (pairs hash ds)
  unfolding pairs
  pairs-drop zero ds = refl
  pairs-drop (suc k) [] = let more : 2 * suc k ≡ suc (suc (2 * k)) = omega arith in rw more refl
  pairs-drop (suc k) (x ∷ []) = let more : 2 * suc k ≡ suc (suc (2 * k)) = omega arith in rw more (ap (pairs hash) (drop-nil (suc (2 * k))))
  pairs-drop (suc k) (x ∷ y ∷ rest) = let more : 2 * suc k ≡ suc (suc (2 * k)) = omega arith in rw more (pairs-drop k rest)

  -- a whole number of pairs in front is one level less of the same tree
  halve_front : (k : ℕ) (ds : List (List ℕ)) → 2 * k ≤ length ds → halve hash (take (2 * k) ds) ≡ take k (pairs hash ds)
  halve_front k ds le =
      ap (halve hash) (sym (append-nil (take (2 * k) ds))) ∙ halve_even hash k ds None le ∙ append-nil (take k (pairs hash ds))

  -- one level less
  pub peaks_at_pairs : (h : ℕ) (ds : List (List ℕ)) → length ds < 2 ^ suc h → peaks_at hash (suc h) ds ≡ peaks_at hash h (pairs hash ds) ++ drop (2 * (length ds / 2)) ds
  unfolding peaks_at root_at pairs
  peaks_at_pairs zero [] few = refl
  peaks_at_pairs zero (x ∷ []) few = refl
  peaks_at_pairs zero (x ∷ y ∷ rest) few = absurd (omega arith)
  peaks_at_pairs (suc h) ds few =
      let twice : 2 ^ suc h ≡ 2 * 2 ^ h = pow_twice h in
      elim (cases_lt (length ds) (2 ^ suc h)) [
        | inl small ↦
            peaks_at_same (suc h) ds small ∙ peaks_at_pairs h ds small
            ∙ ap (λ t. t ++ drop (2 * (length ds / 2)) ds) (sym (peaks_at_same h (pairs hash ds) (omega (arith, length-pairs hash ds, twice))))
        | inr whole ↦
            let len : length (drop (2 ^ suc h) ds) ≡ length ds - 2 ^ suc h = length-drop (2 ^ suc h) ds in
            let back : pairs hash (drop (2 ^ suc h) ds) ≡ drop (2 ^ h) (pairs hash ds) = ap (λ j. pairs hash (drop j ds)) twice ∙ pairs-drop (2 ^ h) ds in
            let front : halve hash (take (2 ^ suc h) ds) ≡ take (2 ^ h) (pairs hash ds) = ap (λ j. halve hash (take j ds)) twice ∙ halve_front (2 ^ h) ds (omega (arith, twice)) in
            let place : 2 ^ suc h + 2 * (length (drop (2 ^ suc h) ds) / 2) ≡ 2 * (length ds / 2) = omega (arith, len, twice) in
            peaks_at_whole (suc h) ds whole
            ∙ ap₂ (λ a b. a ∷ b) (root_at_halve hash h (take (2 ^ suc h) ds) (omega (arith, length-take-le (2 ^ suc h) ds whole)) ∙ ap (root_at hash h) front)
            (peaks_at_pairs h (drop (2 ^ suc h) ds) (omega (arith, len, pow_twice (suc h)))
            ∙ ap₂ (λ a b. peaks_at hash h a ++ b) back (drop-drop (2 * (length (drop (2 ^ suc h) ds) / 2)) (2 ^ suc h) ds ∙ ap (λ j. drop j ds) place))
            ∙ ap (λ t. t ++ drop (2 * (length ds / 2)) ds) (sym (peaks_at_whole h (pairs hash ds) (omega (arith, length-pairs hash ds, twice))))
      ]

  -- the peaks of a list are those of the next level, and an odd last digest
  pub peaks-pairs : (ds : List (List ℕ)) → peaks hash ds ≡ peaks hash (pairs hash ds) ++ drop (2 * (length ds / 2)) ds
  unfolding peaks
  peaks-pairs ds =
      let n = length ds in
      let m = length (pairs hash ds) in
      sym (peaks_up (suc n) n ds (omega arith) (lt_pow n)) ∙ peaks_at_pairs n ds (omega (arith, lt_pow n, pow_twice n))
      ∙ ap (λ t. t ++ drop (2 * (length ds / 2)) ds) (peaks_up n m (pairs hash ds) (omega (arith, length-pairs hash ds)) (lt_pow m))

  -- the front of a level is made from the front of the level below
  pub pairs-take : (m : ℕ) (ds : List (List ℕ)) → pairs hash (take m ds) ≡ take (m / 2) (pairs hash ds)
  unfolding pairs
  pairs-take zero ds = refl
  pairs-take (suc zero) [] = refl
  pairs-take (suc zero) (x ∷ rest) = refl
  pairs-take (suc (suc m)) [] = sym (take-nil (suc (suc m) / 2))
  pairs-take (suc (suc m)) (x ∷ []) = ap (λ t. pairs hash (x ∷ t)) (take-nil (suc m)) ∙ sym (take-nil (suc (suc m) / 2))
  pairs-take (suc (suc m)) (x ∷ y ∷ rest) =
      let half : suc (suc m) / 2 ≡ suc (m / 2) = omega arith in
      rw half (ap (λ t. node hash x y ∷ t) (pairs-take m rest))

  -- the peaks of no leaves
  pub peaks_none : peaks hash [] ≡ []
  unfolding peaks peaks_at
  peaks_none = refl

  -- of the greatest power of two that fits, and of the rest
  pub peaks_first : (h : ℕ) (ds : List (List ℕ)) → 2 ^ h ≤ length ds → length ds < 2 * 2 ^ h → peaks hash ds ≡ root hash (take (2 ^ h) ds) ∷ peaks hash (drop (2 ^ h) ds)
  unfolding peaks
  peaks_first h ds whole few =
      let n = length ds in
      let under : length ds < 2 ^ suc h = omega (arith, pow_twice h) in
      let len : length (drop (2 ^ h) ds) ≡ length ds - 2 ^ h = length-drop (2 ^ h) ds in
      let level : h < n = omega (arith, lt_pow h) in
      peaks_up n (suc h) ds (omega arith) under
      ∙ peaks_at_whole h ds whole
      ∙ ap₂ (λ a b. a ∷ b) (root_enough hash h (take (2 ^ h) ds) (omega (arith, length-take-le (2 ^ h) ds whole))) (peaks_enough h (drop (2 ^ h) ds) (omega (arith, len)))

  -- one for each digit of the length that is one
  count_from : (n : ℕ) (ds : List (List ℕ)) → length ds ≤ n → length (peaks hash ds) ≡ count_ones (length ds)
  count_from n [] few =
      let none : count_ones 0 ≡ 0 = omega (arith, ones_le_self 0) in
      ap length peaks_none ∙ sym none
  count_from zero (x ∷ rest) few = absurd (omega arith)
  count_from (suc n) (x ∷ rest) few =
      let ds = x ∷ rest in
      let half : length (pairs hash ds) ≡ length ds / 2 = length-pairs hash ds in
      let up : length (peaks hash (pairs hash ds)) ≡ count_ones (length ds / 2) = count_from n (pairs hash ds) (omega (arith, half)) ∙ ap (λ j. count_ones j) half in
      let odd : length (drop (2 * (length ds / 2)) ds) ≡ length ds % 2 = omega (arith, length-drop (2 * (length ds / 2)) ds) in
      omega (arith, ap length (peaks-pairs ds), length-append (peaks hash (pairs hash ds)) (drop (2 * (length ds / 2)) ds), up, odd, ones_step (length ds))

  pub length-peaks : (ds : List (List ℕ)) → length (peaks hash ds) ≡ count_ones (length ds)
  length-peaks ds = count_from (length ds) ds (omega arith)

-- The root over peaks and later leaves does not depend on the number of levels, splits where the tree does, and is the
-- root of each list with those peaks.
use Rattle.std.proofs.Common.{◌≡◌, ℕ, zero, suc, ◌+◌, ◌-◌, ◌*◌, ◌^◌, ◌<◌, ◌≤◌, inl, inr, List, [], ◌∷◌, ◌++◌, length, get_or, take, drop, refl, sym, ap, ap₂, ◌∙◌, arith, le-leb, length-take, length-take-le, length-drop, length-append, drop-drop, drop_at, pow_pos}
use Rattle.std.proofs.lemmas.Bool.{cases_lt, cases_eq, lt-leb, eq-eqb, ne_eqb}
use Rattle.std.proofs.lemmas.List.{append-nil, nil_from_length, take_all, take-append-le, drop-append-le}
use Rattle.std.proofs.Math.Seq.{take-append-add}
use Rattle.tree_model.specs.Tree.{Hash, node, root_at, root, IsSplit}
use Rattle.tree_model.specs.Peaks.{peaks}
use Rattle.tree_model.specs.RootFrom.{root_from_at, root_from}
use Rattle.tree_model.proofs.Splits.{pow_twice, pow_mono, le_pow}
use Rattle.tree_model.proofs.Levels.{root_at_same, root_at_node, root_enough}
use Rattle.tree_model.proofs.Peaks.{peaks_none, peaks_first}

module _ (hash : Hash) where
  -- a level that is not needed changes nothing
  pub from_same : (h : ℕ) (ps : List (List ℕ)) (p : ℕ) (xs : List (List ℕ)) → p + length xs ≤ 2 ^ h → root_from_at hash (suc h) ps p xs ≡ root_from_at hash h ps p xs
  unfolding root_from_at
  from_same h ps p xs fits = rw (le-leb (p + length xs) (2 ^ h) fits) refl

  -- a whole subtree is its peak
  pub from_peak : (h : ℕ) (ps : List (List ℕ)) (p : ℕ) (xs : List (List ℕ)) → 2 ^ h < p + length xs → p ≡ 2 ^ suc h → root_from_at hash (suc h) ps p xs ≡ get_or ps 0 []
  unfolding root_from_at
  from_peak h ps p xs more whole = rw (lt-leb (p + length xs) (2 ^ h) more, eq-eqb p (2 ^ suc h) whole) refl

  -- the first peak stands in front of the split
  pub from_front : (h : ℕ) (ps : List (List ℕ)) (p : ℕ) (xs : List (List ℕ)) → 2 ^ h < p + length xs → 2 ^ h ≤ p → p < 2 ^ suc h → root_from_at hash (suc h) ps p xs ≡ node hash (get_or ps 0 []) (root_from_at hash h (drop 1 ps) (p - 2 ^ h) xs)
  unfolding root_from_at
  from_front h ps p xs more le lt = rw (lt-leb (p + length xs) (2 ^ h) more, ne_eqb p (2 ^ suc h) (λ e. omega (arith, e)), le-leb (2 ^ h) p le) refl

  -- or all peaks do, and leaves with them
  pub from_behind : (h : ℕ) (ps : List (List ℕ)) (p : ℕ) (xs : List (List ℕ)) → 2 ^ h < p + length xs → p < 2 ^ h → root_from_at hash (suc h) ps p xs ≡ node hash (root_from_at hash h ps p (take (2 ^ h - p) xs)) (root_at hash h (drop (2 ^ h - p) xs))
  unfolding root_from_at
  from_behind h ps p xs more lt = rw (lt-leb (p + length xs) (2 ^ h) more, ne_eqb p (2 ^ suc h) (λ e. omega (arith, e, pow_twice h)), lt-leb (2 ^ h) p lt) refl

  -- more levels than needed change nothing
  from_up : (g h : ℕ) (ps : List (List ℕ)) (p : ℕ) (xs : List (List ℕ)) → h ≤ g → p + length xs ≤ 2 ^ h → root_from_at hash g ps p xs ≡ root_from_at hash h ps p xs
  from_up zero h ps p xs le fits = ap (λ l. root_from_at hash l ps p xs) (omega arith)
  from_up (suc g) h ps p xs le fits = elim (cases_lt g h) [
    | inl above ↦ ap (λ l. root_from_at hash l ps p xs) (omega arith)
    | inr within ↦ from_same g ps p xs (omega (arith, pow_mono h g within)) ∙ from_up g h ps p xs within fits
  ]

  -- the root at any number of levels that hold all leaves
  pub from_enough : (h : ℕ) (ps : List (List ℕ)) (p : ℕ) (xs : List (List ℕ)) → p + length xs ≤ 2 ^ h → root_from_at hash h ps p xs ≡ root_from hash ps p xs
  unfolding root_from
  from_enough h ps p xs fits = elim (cases_lt h (p + length xs)) [
    | inl below ↦ sym (from_up (p + length xs) h ps p xs (omega arith) fits)
    | inr above ↦ from_up h (p + length xs) ps p xs above (le_pow (p + length xs))
  ]

  -- over the peaks of a list it is the root of the whole
  from_list_at : (h : ℕ) (ds xs : List (List ℕ)) → length ds + length xs ≤ 2 ^ h → root_from_at hash h (peaks hash ds) (length ds) xs ≡ root_at hash h (ds ++ xs)
  unfolding root_from_at root_at
  from_list_at zero [] xs fits = refl
  from_list_at zero (d ∷ []) xs fits =
      ap (λ t. get_or t 0 []) (peaks_first hash 0 (d ∷ []) (omega arith) (omega arith)) ∙ sym (root_enough hash 0 (d ∷ []) (omega arith))
  from_list_at zero (d ∷ e ∷ ds) xs fits = absurd (omega arith)
  from_list_at (suc h) ds xs fits =
      let n = length ds in
      let twice : 2 ^ suc h ≡ 2 * 2 ^ h = pow_twice h in
      let len : length (ds ++ xs) ≡ length ds + length xs = length-append ds xs in
      elim (cases_lt (2 ^ h) (length ds + length xs)) [
        | inr small ↦
            from_same h (peaks hash ds) n xs small ∙ from_list_at h ds xs small
            ∙ sym (root_at_same hash h (ds ++ xs) (omega (arith, len)))
        | inl more ↦ elim (cases_eq (length ds) (2 ^ suc h)) [
          | inl whole ↦
              let none : xs ≡ [] = nil_from_length xs (omega arith) in
              from_peak h (peaks hash ds) n xs more whole
              ∙ ap (λ t. get_or t 0 []) (peaks_first hash (suc h) ds (omega arith) (omega (arith, twice)))
              ∙ ap (root hash) (take_all (2 ^ suc h) ds (omega arith))
              ∙ sym (root_enough hash (suc h) ds (omega arith))
              ∙ ap (root_at hash (suc h)) (sym (ap (λ t. ds ++ t) none ∙ append-nil ds))
          | inr part ↦ elim (cases_lt (length ds) (2 ^ h)) [
            | inr front ↦
                let first = peaks_first hash h ds front (omega (arith, twice, part)) in
                let left : length (take (2 ^ h) ds) ≡ 2 ^ h = length-take-le (2 ^ h) ds front in
                let right : length (drop (2 ^ h) ds) ≡ length ds - 2 ^ h = length-drop (2 ^ h) ds in
                from_front h (peaks hash ds) n xs more front (omega (arith, twice, part))
                ∙ ap₂ (λ a b. node hash a b)
                (ap (λ t. get_or t 0 []) first ∙ sym (root_enough hash h (take (2 ^ h) ds) (omega (arith, left))) ∙ ap (root_at hash h) (sym (take-append-le (2 ^ h) ds xs front)))
                (ap₂ (λ t j. root_from_at hash h t j xs) (ap (drop 1) first) (sym right)
                ∙ from_list_at h (drop (2 ^ h) ds) xs (omega (arith, right, twice))
                ∙ ap (root_at hash h) (sym (drop-append-le (2 ^ h) ds xs front)))
                ∙ sym (root_at_node hash h (ds ++ xs) (omega (arith, len)))
            | inl behind ↦
                let k = 2 ^ h - n in
                let sum : n + k ≡ 2 ^ h = omega arith in
                let some : length (take k xs) ≡ k = length-take-le k xs (omega arith) in
                from_behind h (peaks hash ds) n xs more behind
                ∙ ap₂ (λ a b. node hash a b)
                (from_list_at h ds (take k xs) (omega (arith, some)) ∙ ap (root_at hash h) (sym (take-append-add ds xs k) ∙ ap (λ j. take j (ds ++ xs)) sum))
                (ap (root_at hash h) (sym (ap (drop k) (drop_at ds xs n refl)) ∙ drop-drop k n (ds ++ xs) ∙ ap (λ j. drop j (ds ++ xs)) sum))
                ∙ sym (root_at_node hash h (ds ++ xs) (omega (arith, len)))
          ]
        ]
      ]

  -- over the peaks of a list it is the root of the whole
  pub from_list : (ds xs : List (List ℕ)) → root_from hash (peaks hash ds) (length ds) xs ≡ root hash (ds ++ xs)
  from_list ds xs =
      let h = length ds + length xs in
      let fits : length ds + length xs ≤ 2 ^ h = le_pow (length ds + length xs) in
      sym (from_enough h (peaks hash ds) (length ds) xs fits) ∙ from_list_at h ds xs fits ∙ root_enough hash h (ds ++ xs) (omega (arith, length-append ds xs, fits))

  module _ (k : ℕ) (ps : List (List ℕ)) (p : ℕ) (xs : List (List ℕ)) (s : IsSplit k (p + length xs)) where
    -- where the first peak stands in front of the split
    pub from_split_front : k ≤ p → p < 2 * k → root_from hash ps p xs ≡ node hash (get_or ps 0 []) (root_from hash (drop 1 ps) (p - k) xs)
    from_split_front le lt =
        let h = s.level in
        let is : k ≡ 2 ^ h = s.power in
        let less : (p - 2 ^ h) + length xs ≤ 2 ^ h = omega (arith, is, s.half, le) in
        sym (from_enough (suc h) ps p xs (omega (arith, pow_twice h, is, s.half)))
        ∙ from_front h ps p xs (omega (arith, is, s.below)) (omega (arith, is)) (omega (arith, is, pow_twice h))
        ∙ ap (node hash (get_or ps 0 [])) (from_enough h (drop 1 ps) (p - 2 ^ h) xs less ∙ ap (λ j. root_from hash (drop 1 ps) (p - j) xs) (sym is))

    -- where all peaks do
    pub from_split_behind : p < k → root_from hash ps p xs ≡ node hash (root_from hash ps p (take (k - p) xs)) (root hash (drop (k - p) xs))
    from_split_behind lt =
        let h = s.level in
        let is : k ≡ 2 ^ h = s.power in
        sym (from_enough (suc h) ps p xs (omega (arith, pow_twice h, is, s.half)))
        ∙ from_behind h ps p xs (omega (arith, is, s.below)) (omega (arith, is))
        ∙ ap₂ (λ a b. node hash a b)
        (from_enough h ps p (take (2 ^ h - p) xs) (omega (arith, is, length-take (2 ^ h - p) xs)))
        (root_enough hash h (drop (2 ^ h - p) xs) (omega (arith, is, s.half, length-drop (2 ^ h - p) xs)))
        ∙ ap (λ j. node hash (root_from hash ps p (take (j - p) xs)) (root hash (drop (j - p) xs))) (sym is)

  -- a whole subtree is its peak
  pub from_whole : (h : ℕ) (ps : List (List ℕ)) → root_from hash ps (2 ^ h) [] ≡ get_or ps 0 []
  unfolding root_from_at
  from_whole zero ps = sym (from_enough 0 ps 1 [] (omega arith))
  from_whole (suc h) ps =
      sym (from_enough (suc h) ps (2 ^ suc h) [] (omega arith)) ∙ from_peak h ps (2 ^ suc h) [] (omega (arith, pow_twice h, pow_pos h)) refl

  -- over no peaks it is the root of the leaves
  pub from_none : (xs : List (List ℕ)) → root_from hash [] 0 xs ≡ root hash xs
  from_none xs = ap (λ t. root_from hash t 0 xs) (sym (peaks_none hash)) ∙ from_list [] xs

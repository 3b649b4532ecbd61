-- Each level of the tree is made from the one below it, two digests at a time; roots, paths and proofs stay the same.
use Rattle.std.proofs.Common.{◌≡◌, ℕ, zero, suc, ◌+◌, ◌-◌, ◌*◌, ◌/◌, ◌^◌, ◌<◌, ◌≤◌, inl, inr, List, [], ◌∷◌, ◌++◌, length, take, drop, refl, sym, ap, ap₂, ◌∙◌, arith, length-take, length-drop, append_assoc, drop-drop, take-take}
use Rattle.std.proofs.lemmas.Bool.{cases_lt}
use Rattle.std.proofs.lemmas.List.{drop-take}
use Rattle.std.proofs.Math.Seq.{take-nil, drop-nil}
use Rattle.tree_model.specs.Tree.{Hash, node, root_at, root}
use Rattle.tree_model.specs.Path.{path_at, path}
use Rattle.tree_model.specs.Halves.{pairs, halve, sibling, beside}
use Rattle.tree_model.proofs.Splits.{pow_twice, le_pow}
use Rattle.tree_model.proofs.Levels.{root_at_same, root_at_node, root_enough}
use Rattle.tree_model.proofs.Paths.{path_at_same, path_at_left, path_at_right, path_enough}

module _ (hash : Hash) where
  -- half as many, rounded up
  pub length-halve : (ds : List (List ℕ)) → length (halve hash ds) ≡ (length ds + 1) / 2
  unfolding halve
  length-halve [] = omega arith
  length-halve (x ∷ []) = omega arith
  length-halve (x ∷ y ∷ rest) = omega (arith, length-halve rest)

  -- half as many, rounded down
  pub length-pairs : (ds : List (List ℕ)) → length (pairs hash ds) ≡ length ds / 2
  unfolding pairs
  length-pairs [] = omega arith
  length-pairs (x ∷ []) = omega arith
  length-pairs (x ∷ y ∷ rest) = omega (arith, length-pairs rest)

  -- the front of a level is made from the front of the level below
  pub halve-take : (k : ℕ) (ds : List (List ℕ)) → halve hash (take (2 * k) ds) ≡ take k (halve hash ds)
  unfolding halve
  halve-take zero ds = refl
  halve-take (suc k) [] = let more : 2 * suc k ≡ suc (suc (2 * k)) = omega arith in rw more refl
  halve-take (suc k) (x ∷ []) = let more : 2 * suc k ≡ suc (suc (2 * k)) = omega arith in rw more (ap (λ t. halve hash (x ∷ t)) (take-nil (suc (2 * k))) ∙ ap (λ t. x ∷ t) (sym (take-nil k)))
  halve-take (suc k) (x ∷ y ∷ rest) = let more : 2 * suc k ≡ suc (suc (2 * k)) = omega arith in rw more (ap (λ t. node hash x y ∷ t) (halve-take k rest))

  -- and the back from the back
  pub halve-drop : (k : ℕ) (ds : List (List ℕ)) → halve hash (drop (2 * k) ds) ≡ drop k (halve hash ds)
  unfolding halve
  halve-drop zero ds = refl
  halve-drop (suc k) [] = let more : 2 * suc k ≡ suc (suc (2 * k)) = omega arith in rw more refl
  halve-drop (suc k) (x ∷ []) = let more : 2 * suc k ≡ suc (suc (2 * k)) = omega arith in rw more (ap (halve hash) (drop-nil (suc (2 * k))) ∙ sym (drop-nil k))
  halve-drop (suc k) (x ∷ y ∷ rest) = let more : 2 * suc k ≡ suc (suc (2 * k)) = omega arith in rw more (halve-drop k rest)

  -- one level less has the same root
  pub root_at_halve : (h : ℕ) (ds : List (List ℕ)) → length ds ≤ 2 ^ suc h → root_at hash (suc h) ds ≡ root_at hash h (halve hash ds)
  unfolding root_at halve
  root_at_halve zero [] fits = refl
  root_at_halve zero (x ∷ []) fits = refl
  root_at_halve zero (x ∷ y ∷ []) fits = refl
  root_at_halve zero (x ∷ y ∷ z ∷ rest) fits = absurd (omega arith)
  root_at_halve (suc h) ds fits = elim (cases_lt (2 ^ suc h) (length ds)) [
    | inr within ↦
        root_at_same hash (suc h) ds within ∙ root_at_halve h ds within
        ∙ sym (root_at_same hash h (halve hash ds) (omega (arith, length-halve ds, pow_twice h)))
    | inl more ↦
        let twice : 2 ^ suc h ≡ 2 * 2 ^ h = pow_twice h in
        root_at_node hash (suc h) ds more
        ∙ ap₂ (λ l r. node hash l r)
        (root_at_halve h (take (2 ^ suc h) ds) (omega (arith, length-take (2 ^ suc h) ds)))
        (root_at_halve h (drop (2 ^ suc h) ds) (omega (arith, length-drop (2 ^ suc h) ds, pow_twice (suc h))))
        ∙ ap₂ (λ l r. node hash (root_at hash h l) (root_at hash h r))
        (ap (λ j. halve hash (take j ds)) twice ∙ halve-take (2 ^ h) ds)
        (ap (λ j. halve hash (drop j ds)) twice ∙ halve-drop (2 ^ h) ds)
        ∙ sym (root_at_node hash h (halve hash ds) (omega (arith, length-halve ds, pow_twice h)))
  ]

  -- the root is that of the next level
  pub root-halve : (ds : List (List ℕ)) → root hash ds ≡ root hash (halve hash ds)
  root-halve ds =
      let n = length ds in
      let fits : length ds ≤ 2 ^ suc n = omega (arith, le_pow n, pow_twice n) in
      sym (root_enough hash (suc n) ds fits) ∙ root_at_halve n ds fits
      ∙ root_enough hash n (halve hash ds) (omega (arith, length-halve ds, le_pow n))

  -- the digest beside one in front stands in front
  beside-take : (k n : ℕ) (ds : List (List ℕ)) → n < 2 * k → beside n (take (2 * k) ds) ≡ beside n ds
  beside-take k n ds before =
      let rest : 2 * k ≡ sibling n + (2 * k - sibling n) = omega arith in
      ap (take 1) (ap (λ j. drop (sibling n) (take j ds)) rest ∙ drop-take (sibling n) (2 * k - sibling n) ds)
      ∙ take-take 1 (2 * k - sibling n) (drop (sibling n) ds) (omega arith)

  -- the digest beside one behind stands behind
  beside-drop : (k n : ℕ) (ds : List (List ℕ)) → 2 * k ≤ n → beside (n - 2 * k) (drop (2 * k) ds) ≡ beside n ds
  beside-drop k n ds behind =
      let same : 2 * k + sibling (n - 2 * k) ≡ sibling n = omega arith in
      ap (take 1) (drop-drop (sibling (n - 2 * k)) (2 * k) ds ∙ ap (λ j. drop j ds) same)

  -- a path begins with the digest beside the leaf, and goes on at the next level
  pub path_at_halve : (h n : ℕ) (ds : List (List ℕ)) → length ds ≤ 2 ^ suc h → n < length ds → path_at hash (suc h) n ds ≡ beside n ds ++ path_at hash h (n / 2) (halve hash ds)
  unfolding path_at halve root_at
  path_at_halve zero n [] fits within = absurd (omega arith)
  path_at_halve zero zero (x ∷ []) fits within = refl
  path_at_halve zero (suc n) (x ∷ []) fits within = absurd (omega arith)
  path_at_halve zero zero (x ∷ y ∷ []) fits within = refl
  path_at_halve zero (suc zero) (x ∷ y ∷ []) fits within = refl
  path_at_halve zero (suc (suc n)) (x ∷ y ∷ []) fits within = absurd (omega arith)
  path_at_halve zero n (x ∷ y ∷ z ∷ rest) fits within = absurd (omega arith)
  path_at_halve (suc h) n ds fits within =
      let twice : 2 ^ suc h ≡ 2 * 2 ^ h = pow_twice h in
      let half : length (halve hash ds) ≡ (length ds + 1) / 2 = length-halve ds in
      elim (cases_lt (2 ^ suc h) (length ds)) [
        | inr small ↦
            path_at_same hash (suc h) n ds small ∙ path_at_halve h n ds small within
            ∙ ap (λ t. beside n ds ++ t) (sym (path_at_same hash h (n / 2) (halve hash ds) (omega (arith, half, twice))))
        | inl more ↦
            let front : halve hash (take (2 ^ suc h) ds) ≡ take (2 ^ h) (halve hash ds) = ap (λ j. halve hash (take j ds)) twice ∙ halve-take (2 ^ h) ds in
            let back : halve hash (drop (2 ^ suc h) ds) ≡ drop (2 ^ h) (halve hash ds) = ap (λ j. halve hash (drop j ds)) twice ∙ halve-drop (2 ^ h) ds in
            let len_front : length (take (2 ^ suc h) ds) ≤ 2 ^ suc h = omega (arith, length-take (2 ^ suc h) ds) in
            let len_back : length (drop (2 ^ suc h) ds) ≤ 2 ^ suc h = omega (arith, length-drop (2 ^ suc h) ds, pow_twice (suc h)) in
            elim (cases_lt n (2 ^ suc h)) [
              | inl left ↦
                  path_at_left hash (suc h) n ds more left
                  ∙ ap₂ (λ p r. p ++ r ∷ []) (path_at_halve h n (take (2 ^ suc h) ds) len_front (omega (arith, length-take (2 ^ suc h) ds))) (root_at_halve h (drop (2 ^ suc h) ds) len_back)
                  ∙ append_assoc (beside n (take (2 ^ suc h) ds)) (path_at hash h (n / 2) (halve hash (take (2 ^ suc h) ds))) (root_at hash h (halve hash (drop (2 ^ suc h) ds)) ∷ [])
                  ∙ ap₂ (λ b p. b ++ p) (ap (λ j. beside n (take j ds)) twice ∙ beside-take (2 ^ h) n ds (omega (arith, twice)))
                  (ap₂ (λ f g. path_at hash h (n / 2) f ++ root_at hash h g ∷ []) front back
                  ∙ sym (path_at_left hash h (n / 2) (halve hash ds) (omega (arith, half, twice)) (omega (arith, twice))))
              | inr right ↦
                  let less : (n - 2 ^ suc h) / 2 ≡ n / 2 - 2 ^ h = omega (arith, twice) in
                  path_at_right hash (suc h) n ds more right
                  ∙ ap₂ (λ p r. p ++ r ∷ []) (path_at_halve h (n - 2 ^ suc h) (drop (2 ^ suc h) ds) len_back (omega (arith, length-drop (2 ^ suc h) ds))) (root_at_halve h (take (2 ^ suc h) ds) len_front)
                  ∙ append_assoc (beside (n - 2 ^ suc h) (drop (2 ^ suc h) ds)) (path_at hash h ((n - 2 ^ suc h) / 2) (halve hash (drop (2 ^ suc h) ds))) (root_at hash h (halve hash (take (2 ^ suc h) ds)) ∷ [])
                  ∙ ap₂ (λ b p. b ++ p) (ap (λ j. beside (n - j) (drop j ds)) twice ∙ beside-drop (2 ^ h) n ds (omega (arith, twice)))
                  (ap (λ j. path_at hash h j (halve hash (drop (2 ^ suc h) ds)) ++ root_at hash h (halve hash (take (2 ^ suc h) ds)) ∷ []) less
                  ∙ ap₂ (λ f g. path_at hash h (n / 2 - 2 ^ h) g ++ root_at hash h f ∷ []) front back
                  ∙ sym (path_at_right hash h (n / 2) (halve hash ds) (omega (arith, half, twice)) (omega (arith, twice))))
            ]
      ]

  -- a path begins with the digest beside the leaf, and goes on at the next level
  pub path-halve : (n : ℕ) (ds : List (List ℕ)) → n < length ds → path hash n ds ≡ beside n ds ++ path hash (n / 2) (halve hash ds)
  path-halve n ds within =
      let m = length ds in
      let fits : length ds ≤ 2 ^ suc m = omega (arith, le_pow m, pow_twice m) in
      sym (path_enough hash (suc m) n ds fits) ∙ path_at_halve m n ds fits within
      ∙ ap (λ t. beside n ds ++ t) (path_enough hash m (n / 2) (halve hash ds) (omega (arith, length-halve ds, le_pow m)))

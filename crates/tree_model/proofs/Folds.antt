-- Folding along a path: it does not depend on the number of levels, goes down at the split, gives the root along the
-- leaf's own path, and is there exactly where the path has the right number of digests.
use Rattle.std.proofs.Common.{◌≡◌, ℕ, zero, suc, ◌+◌, ◌-◌, ◌*◌, ◌/◌, ◌%◌, ◌^◌, ◌<◌, ◌≤◌, true, inl, inr, List, [], ◌∷◌, ◌++◌, length, get_or, take, drop, reverse, Option, Some, None, eqb, refl, sym, ap, ap₂, ◌∙◌, arith, le-leb, length-take, length-drop, div-add-mod'}
use Rattle.std.proofs.lemmas.Bool.{cases_lt, cases_eq, lt-leb, lt-ltb, le-ltb, eq-eqb, ne_eqb, eqb-true, false≢true}
use Rattle.std.proofs.lemmas.List.{get_or-take, get_or-drop, reverse-append, length-reverse}
use Rattle.std.proofs.Math.Dec.{eqb-suc-suc}
use Rattle.std.specs.Prelude.{option_map, is_some, All}
use Rattle.std.specs.List.{concat}
use Rattle.tree_model.specs.Tree.{Hash, node, root_at, root, IsSplit, cut}
use Rattle.tree_model.specs.Path.{path_at, path, path_length_at, path_length, fold_at, fold, fold_bytes}
use Rattle.tree_model.proofs.Splits.{pow_twice, pow_mono, le_pow, split_of}
use Rattle.tree_model.proofs.Levels.{root_at_same, root_at_node}
use Rattle.tree_model.proofs.Pieces.{length-cut, cut-concat, concat-whole}
use Rattle.tree_model.proofs.Paths.{path_length_at_same, path_length_at_left, path_length_at_right, path_at_same, path_at_left, path_at_right}

-- a value that is rewritten is there as before
pub is_some-map : {A B : Type 0} (f : A → B) (o : Option A) → is_some (option_map f o) ≡ is_some o
is_some-map f None = refl
is_some-map f (Some x) = refl

module _ (hash : Hash) (d : List ℕ) where
  -- a level that is not needed changes nothing
  fold_at_same : (h n size : ℕ) (p : List (List ℕ)) → size ≤ 2 ^ h → fold_at hash (suc h) d n size p ≡ fold_at hash h d n size p
  unfolding fold_at
  fold_at_same h n size [] fits = rw (le-leb size (2 ^ h) fits) refl
  fold_at_same h n size (s ∷ p) fits = rw (le-leb size (2 ^ h) fits) refl

  -- a level that is needed wants a digest
  fold_at_short : (h n size : ℕ) → 2 ^ h < size → fold_at hash (suc h) d n size [] ≡ None
  unfolding fold_at
  fold_at_short h n size more = rw (lt-leb size (2 ^ h) more) refl

  -- in front of the split that digest stands behind
  fold_at_left : (h n size : ℕ) (s : List ℕ) (p : List (List ℕ)) → 2 ^ h < size → n < 2 ^ h → fold_at hash (suc h) d n size (s ∷ p) ≡ option_map (λ l. node hash l s) (fold_at hash h d n (2 ^ h) p)
  unfolding fold_at
  fold_at_left h n size s p more front = rw (lt-leb size (2 ^ h) more, lt-ltb n (2 ^ h) front) refl

  -- behind the split it stands in front
  fold_at_right : (h n size : ℕ) (s : List ℕ) (p : List (List ℕ)) → 2 ^ h < size → 2 ^ h ≤ n → fold_at hash (suc h) d n size (s ∷ p) ≡ option_map (λ r. node hash s r) (fold_at hash h d (n - 2 ^ h) (size - 2 ^ h) p)
  unfolding fold_at
  fold_at_right h n size s p more back = rw (lt-leb size (2 ^ h) more, le-ltb n (2 ^ h) back) refl

  -- more levels than hold the leaves change nothing
  fold_up : (g h n size : ℕ) (p : List (List ℕ)) → h ≤ g → size ≤ 2 ^ h → fold_at hash g d n size p ≡ fold_at hash h d n size p
  fold_up zero h n size p le fits = ap (λ l. fold_at hash l d n size p) (omega arith)
  fold_up (suc g) h n size p le fits = elim (cases_lt g h) [
    | inl above ↦ ap (λ l. fold_at hash l d n size p) (omega arith)
    | inr within ↦ fold_at_same g n size p (omega (arith, pow_mono h g within)) ∙ fold_up g h n size p within fits
  ]

  -- the fold at any number of levels that hold the leaves, along the path from the root down
  pub fold_enough : (h n size : ℕ) (p : List (List ℕ)) → n < size → size ≤ 2 ^ h → fold_at hash h d n size (reverse p) ≡ fold hash d n size p
  unfolding fold
  fold_enough h n size p within fits = rw (lt-ltb n size within) (elim (cases_lt h size) [
    | inl below ↦ sym (fold_up size h n size (reverse p) (omega arith) fits)
    | inr above ↦ fold_up h size n size (reverse p) above (le_pow size)
  ])

  -- no leaf outside the tree has a fold
  pub fold_outside : (n size : ℕ) (p : List (List ℕ)) → size ≤ n → fold hash d n size p ≡ None
  unfolding fold
  fold_outside n size p outside = rw (le-ltb n size outside) refl

  -- the only leaf is its own root
  pub fold_one : fold hash d 0 1 [] ≡ Some d
  unfolding fold fold_at
  fold_one = refl

  -- the fold is there exactly where there are as many digests as the length of the path says, at each number of levels
  fold_at_count : (h n size : ℕ) (p : List (List ℕ)) → is_some (fold_at hash h d n size p) ≡ eqb (length p) (path_length_at h n size)
  unfolding fold_at path_length_at
  fold_at_count zero n size [] = refl
  fold_at_count zero n size (s ∷ p) = sym (ne_eqb (suc (length p)) 0 (λ e. omega arith))
  fold_at_count (suc h) n size [] = elim (cases_lt (2 ^ h) size) [
    | inr fits ↦ ap is_some (fold_at_same h n size [] fits) ∙ fold_at_count h n size [] ∙ ap (eqb 0) (sym (path_length_at_same h n size fits))
    | inl more ↦ ap is_some (fold_at_short h n size more) ∙ sym (ne_eqb 0 (path_length_at (suc h) n size) (elim (cases_lt n (2 ^ h)) [
      | inl front ↦ λ e. omega (arith, e, path_length_at_left h n size more front)
      | inr back ↦ λ e. omega (arith, e, path_length_at_right h n size more back)
    ]))
  ]
  fold_at_count (suc h) n size (s ∷ p) = elim (cases_lt (2 ^ h) size) [
    | inr fits ↦ ap is_some (fold_at_same h n size (s ∷ p) fits) ∙ fold_at_count h n size (s ∷ p) ∙ ap (eqb (suc (length p))) (sym (path_length_at_same h n size fits))
    | inl more ↦ elim (cases_lt n (2 ^ h)) [
      | inl front ↦
          ap is_some (fold_at_left h n size s p more front) ∙ is_some-map (λ l. node hash l s) (fold_at hash h d n (2 ^ h) p)
          ∙ fold_at_count h n (2 ^ h) p ∙ sym (eqb-suc-suc (length p) (path_length_at h n (2 ^ h)))
          ∙ ap (eqb (suc (length p))) (sym (path_length_at_left h n size more front))
      | inr back ↦
          ap is_some (fold_at_right h n size s p more back) ∙ is_some-map (λ r. node hash s r) (fold_at hash h d (n - 2 ^ h) (size - 2 ^ h) p)
          ∙ fold_at_count h (n - 2 ^ h) (size - 2 ^ h) p ∙ sym (eqb-suc-suc (length p) (path_length_at h (n - 2 ^ h) (size - 2 ^ h)))
          ∙ ap (eqb (suc (length p))) (sym (path_length_at_right h n size more back))
    ]
  ]

  -- the fold of a leaf of the tree is there exactly where there are as many digests as its path has
  pub fold_count : (n size : ℕ) (p : List (List ℕ)) → n < size → is_some (fold hash d n size p) ≡ eqb (length p) (path_length n size)
  unfolding fold path_length
  fold_count n size p within =
      rw (lt-ltb n size within) (fold_at_count size n size (reverse p) ∙ ap (λ l. eqb l (path_length_at size n size)) (length-reverse p))

  -- where there is a fold, the leaf is of the tree
  pub fold_within : (n size : ℕ) (p : List (List ℕ)) → is_some (fold hash d n size p) ≡ true → n < size
  fold_within n size p there = elim (cases_lt n size) [
    | inl within ↦ within
    | inr outside ↦ absurd (false≢true (sym (ap is_some (fold_outside n size p outside)) ∙ there))
  ]

  -- and there are as many digests as its path has
  pub fold_length : (n size : ℕ) (p : List (List ℕ)) → is_some (fold hash d n size p) ≡ true → length p ≡ path_length n size
  fold_length n size p there =
      eqb-true (length p) (path_length n size) (sym (fold_count n size p (fold_within n size p there)) ∙ there)

  -- where the leaf is of the tree and there are as many digests as its path has, there is a fold
  pub fold_there : (n size : ℕ) (p : List (List ℕ)) → n < size → length p ≡ path_length n size → is_some (fold hash d n size p) ≡ true
  fold_there n size p within count = fold_count n size p within ∙ eq-eqb (length p) (path_length n size) count

  module _ (k n size : ℕ) (s : List ℕ) (p : List (List ℕ)) (split : IsSplit k size) where
    -- the digest below the root is the first from the root down
    turned : reverse (p ++ s ∷ []) ≡ s ∷ reverse p
    turned = reverse-append p (s ∷ [])

    -- all leaves fit into one level more than the split's
    held : size ≤ 2 ^ suc split.level
    held = omega (arith, pow_twice split.level, split.power, split.half)

    -- in front of the split: a node over the fold in the part in front and the last digest
    pub fold_left : n < k → fold hash d n size (p ++ s ∷ []) ≡ option_map (λ l. node hash l s) (fold hash d n k p)
    fold_left front =
        let h = split.level in
        let is : k ≡ 2 ^ h = split.power in
        sym (fold_enough (suc h) n size (p ++ s ∷ []) (omega (arith, split.below)) held)
        ∙ ap (fold_at hash (suc h) d n size) turned
        ∙ fold_at_left h n size s (reverse p) (omega (arith, split.below)) (omega arith)
        ∙ ap (λ j. option_map (λ l. node hash l s) (fold_at hash h d n j (reverse p))) (sym is)
        ∙ ap (option_map (λ l. node hash l s)) (fold_enough h n k p front (omega arith))

    -- behind the split: a node over the last digest and the fold in the part behind
    pub fold_right : k ≤ n → fold hash d n size (p ++ s ∷ []) ≡ option_map (λ r. node hash s r) (fold hash d (n - k) (size - k) p)
    fold_right back = elim (cases_lt n size) [
      | inr outside ↦
          fold_outside n size (p ++ s ∷ []) outside
          ∙ sym (ap (option_map (λ r. node hash s r)) (fold_outside (n - k) (size - k) p (omega arith)))
      | inl within ↦
          let h = split.level in
          let is : k ≡ 2 ^ h = split.power in
          sym (fold_enough (suc h) n size (p ++ s ∷ []) within held)
          ∙ ap (fold_at hash (suc h) d n size) turned
          ∙ fold_at_right h n size s (reverse p) (omega (arith, split.below)) (omega arith)
          ∙ ap (λ j. option_map (λ r. node hash s r) (fold_at hash h d (n - j) (size - j) (reverse p))) (sym is)
          ∙ ap (option_map (λ r. node hash s r)) (fold_enough h (n - k) (size - k) p (omega (arith, split.below)) (omega (arith, split.half)))
    ]

  -- of the only leaf there is no fold along a digest
  pub fold_long : (s : List ℕ) (p : List (List ℕ)) → fold hash d 0 1 (p ++ s ∷ []) ≡ None
  unfolding fold fold_at
  fold_long s p = rw (reverse-append p (s ∷ [])) refl

  -- the fold of flat bytes whose pieces are whole
  pub fold_bytes_whole : (n size : ℕ) (b : List ℕ) → length b % 32 ≡ 0 → fold_bytes hash d n size b ≡ fold hash d n size (cut 32 b)
  unfolding fold_bytes
  fold_bytes_whole n size b whole = rw (eq-eqb (length b % 32) 0 whole) refl

  -- where bytes are left over there is none
  pub fold_bytes_rest : (n size : ℕ) (b : List ℕ) → (length b % 32 ≡ 0 → ⊥) → fold_bytes hash d n size b ≡ None
  unfolding fold_bytes
  fold_bytes_rest n size b rest = rw (ne_eqb (length b % 32) 0 rest) refl

module _ (hash : Hash) where
  -- the fold of a leaf's digest along its path is the root, at some number of levels
  abbrev Gives : ℕ → ℕ → List (List ℕ) → Type 0
  Gives h n ds = n < length ds → length ds ≤ 2 ^ h → fold_at hash h (get_or ds n []) n (length ds) (reverse (path_at hash h n ds)) ≡ Some (root_at hash h ds)

  -- so it is with a level that is not needed
  gives_same : (h n : ℕ) (ds : List (List ℕ)) → length ds ≤ 2 ^ h → Gives h n ds → Gives (suc h) n ds
  gives_same h n ds small gives within fits =
      ap (λ p. fold_at hash (suc h) (get_or ds n []) n (length ds) (reverse p)) (path_at_same hash h n ds small)
      ∙ fold_at_same hash (get_or ds n []) h n (length ds) (reverse (path_at hash h n ds)) small
      ∙ gives within small ∙ ap Some (sym (root_at_same hash h ds small))

  -- in front of the split
  gives_left : (h n : ℕ) (ds : List (List ℕ)) → 2 ^ h < length ds → n < 2 ^ h → Gives h n (take (2 ^ h) ds) → Gives (suc h) n ds
  gives_left h n ds more front gives within fits =
      let d = get_or ds n [] in
      let side = root_at hash h (drop (2 ^ h) ds) in
      let below = path_at hash h n (take (2 ^ h) ds) in
      let many : length (take (2 ^ h) ds) ≡ 2 ^ h = omega (arith, length-take (2 ^ h) ds) in
      ap (λ p. fold_at hash (suc h) d n (length ds) (reverse p)) (path_at_left hash h n ds more front)
      ∙ ap (fold_at hash (suc h) d n (length ds)) (reverse-append below (side ∷ []))
      ∙ fold_at_left hash d h n (length ds) side (reverse below) more front
      ∙ ap₂ (λ e j. option_map (λ l. node hash l side) (fold_at hash h e n j (reverse below))) (sym (get_or-take (2 ^ h) ds n [] front)) (sym many)
      ∙ ap (option_map (λ l. node hash l side)) (gives (omega arith) (omega arith))
      ∙ ap Some (sym (root_at_node hash h ds more))

  -- behind it
  gives_right : (h n : ℕ) (ds : List (List ℕ)) → 2 ^ h < length ds → 2 ^ h ≤ n → Gives h (n - 2 ^ h) (drop (2 ^ h) ds) → Gives (suc h) n ds
  gives_right h n ds more back gives within fits =
      let d = get_or ds n [] in
      let side = root_at hash h (take (2 ^ h) ds) in
      let below = path_at hash h (n - 2 ^ h) (drop (2 ^ h) ds) in
      let many : length (drop (2 ^ h) ds) ≡ length ds - 2 ^ h = length-drop (2 ^ h) ds in
      let place : 2 ^ h + (n - 2 ^ h) ≡ n = omega arith in
      let same : get_or (drop (2 ^ h) ds) (n - 2 ^ h) [] ≡ d = get_or-drop (2 ^ h) ds (n - 2 ^ h) [] ∙ ap (λ i. get_or ds i []) place in
      ap (λ p. fold_at hash (suc h) d n (length ds) (reverse p)) (path_at_right hash h n ds more back)
      ∙ ap (fold_at hash (suc h) d n (length ds)) (reverse-append below (side ∷ []))
      ∙ fold_at_right hash d h n (length ds) side (reverse below) more back
      ∙ ap₂ (λ e j. option_map (λ r. node hash side r) (fold_at hash h e (n - 2 ^ h) j (reverse below))) (sym same) (sym many)
      ∙ ap (option_map (λ r. node hash side r)) (gives (omega arith) (omega (arith, pow_twice h)))
      ∙ ap Some (sym (root_at_node hash h ds more))

  -- so it is at each number of levels
  fold_at_root : (h n : ℕ) (ds : List (List ℕ)) → Gives h n ds
  unfolding fold_at path_at root_at
  fold_at_root zero n [] within fits = absurd (omega arith)
  fold_at_root zero n (x ∷ []) within fits = let first : n ≡ 0 = omega arith in rw first refl
  fold_at_root zero n (x ∷ y ∷ ds) within fits = absurd (omega arith)
  fold_at_root (suc h) n ds within fits = elim (cases_lt (2 ^ h) (length ds)) [
    | inr small ↦ gives_same h n ds small (fold_at_root h n ds) within fits
    | inl more ↦ elim (cases_lt n (2 ^ h)) [
      | inl front ↦ gives_left h n ds more front (fold_at_root h n (take (2 ^ h) ds)) within fits
      | inr back ↦ gives_right h n ds more back (fold_at_root h (n - 2 ^ h) (drop (2 ^ h) ds)) within fits
    ]
  ]

  -- the digest of a leaf folds along its path to the root
  pub path_gives_root : (n : ℕ) (ds : List (List ℕ)) → n < length ds → fold hash (get_or ds n []) n (length ds) (path hash n ds) ≡ Some (root hash ds)
  unfolding fold path root
  path_gives_root n ds within = rw (lt-ltb n (length ds) within) (fold_at_root (length ds) n ds within (le_pow (length ds)))

  -- of a leaf among more there is no fold without a digest
  pub fold_short : (d : List ℕ) (n size : ℕ) → 1 < size → fold hash d n size [] ≡ None
  fold_short d n size more = elim (cases_lt n size) [
    | inr outside ↦ fold_outside hash d n size [] outside
    | inl within ↦
        let split = split_of size more in
        let h = split.1.level in
        let held : size ≤ 2 ^ suc h = omega (arith, pow_twice h, split.1.power, split.1.half) in
        sym (fold_enough hash d (suc h) n size [] within held) ∙ fold_at_short hash d h n size (omega (arith, split.1.power, split.1.below))
  ]

  -- the fold along a path in flat bytes is that along its digests
  pub fold_bytes-concat : (d : List ℕ) (n size : ℕ) (p : List (List ℕ)) → All (λ x. length x ≡ 32) p → fold_bytes hash d n size (concat p) ≡ fold hash d n size p
  fold_bytes-concat d n size p each =
      fold_bytes_whole hash d n size (concat p) (concat-whole 32 (omega arith) p each) ∙ ap (fold hash d n size) (cut-concat 32 (omega arith) p each)

  -- where flat bytes have a fold, the leaf is of the tree, and they are as long as the digests of its path
  pub fold_bytes_parts : (d : List ℕ) (n size : ℕ) (b : List ℕ) → is_some (fold_bytes hash d n size b) ≡ true → (n < size) × (length b ≡ 32 * path_length n size)
  fold_bytes_parts d n size b there = elim (cases_eq (length b % 32) 0) [
    | inr rest ↦ absurd (false≢true (sym (ap is_some (fold_bytes_rest hash d n size b rest)) ∙ there))
    | inl whole ↦
        let folds : is_some (fold hash d n size (cut 32 b)) ≡ true = sym (ap is_some (fold_bytes_whole hash d n size b whole)) ∙ there in
        let count : length b / 32 ≡ path_length n size = sym (length-cut 32 b) ∙ fold_length hash d n size (cut 32 b) folds in
        (fold_within hash d n size (cut 32 b) folds, omega (arith, whole, count, div-add-mod' (length b) 32))
  ]

  -- and the other way round
  pub fold_bytes_there : (d : List ℕ) (n size : ℕ) (b : List ℕ) → n < size → length b ≡ 32 * path_length n size → is_some (fold_bytes hash d n size b) ≡ true
  fold_bytes_there d n size b within long =
      let whole : length b % 32 ≡ 0 = omega arith in
      let count : length (cut 32 b) ≡ path_length n size = length-cut 32 b ∙ (omega arith) in
      ap is_some (fold_bytes_whole hash d n size b whole) ∙ fold_there hash d n size (cut 32 b) within count

  -- where flat bytes have a fold none is left over
  pub fold_bytes_even : (d : List ℕ) (n size : ℕ) (b : List ℕ) → is_some (fold_bytes hash d n size b) ≡ true → length b % 32 ≡ 0
  fold_bytes_even d n size b there = let parts = fold_bytes_parts d n size b there in omega (arith, parts.1)

-- Folding along the digests of a flat path, of which the last stands apart.
use Rattle.std.proofs.Common.{◌≡◌, ◌≢◌, ◌⊎◌, ◌↔◌, inl, inr, ℕ, ◌+◌, ◌-◌, ◌*◌, ◌%◌, ◌<◌, ◌≤◌, true, false, eqb, List, [], ◌∷◌, ◌++◌, length, take, drop, Option, Some, None, refl, sym, ap, ap₂, ◌∙◌, arith, length-take-le}
use Rattle.std.proofs.lemmas.Bool.{eqb-true, eqb-false, cases_eq, cases_lt, false≢true, false_from_ne_true}
use Rattle.std.specs.Prelude.{option_map, is_some, IsNone}
use Rattle.tree_model.specs.Tree.{Hash, node, IsSplit, cut}
use Rattle.tree_model.specs.Path.{fold, fold_bytes, path_length}
use Rattle.tree_model.proofs.Folds.{is_some-map, fold_outside, fold_one, fold_long, fold_short, fold_left, fold_right, fold_bytes_whole, fold_bytes_rest, fold_bytes_there, fold_bytes_parts}
use Rattle.merkle_tree.proofs.Lasts.{cut_last, cut_none}

-- a leaf of a tree of one is the first
only_leaf : {A : Type 0} (f : ℕ → ℕ → A) (n size : ℕ) → n < size → size ≡ 1 → f n size ≡ f 0 1
only_leaf f n size within one = let first : n ≡ 0 = omega arith in ap₂ f first one

module _ (hash : Hash) (d : List ℕ) (n size : ℕ) (b rest last : List ℕ) (whole : length b % 32 ≡ 0) (front : rest ≡ take (length b - 32) b) (back : last ≡ drop (length b - 32) b) (some : length rest + 32 ≡ length b) where
  -- in front of the split
  fold_last_left : (k : ℕ) → IsSplit k size → n < k → fold hash d n size (cut 32 b) ≡ option_map (λ l. node hash l last) (fold hash d n k (cut 32 rest))
  fold_last_left k split before = ap (fold hash d n size) (cut_last b rest last whole front back some) ∙ fold_left hash d k n size last (cut 32 rest) split before

  -- behind it
  fold_last_right : (k : ℕ) → IsSplit k size → k ≤ n → fold hash d n size (cut 32 b) ≡ option_map (λ r. node hash last r) (fold hash d (n - k) (size - k) (cut 32 rest))
  fold_last_right k split behind = ap (fold hash d n size) (cut_last b rest last whole front back some) ∙ fold_right hash d k n size last (cut 32 rest) split behind

  module _ (k : ℕ) (split : IsSplit k size) where
    -- where there is none in front of the split, there is none
    pub left_none : n < k → None ≡ fold hash d n k (cut 32 rest) → None ≡ fold hash d n size (cut 32 b)
    left_none before below = ap (option_map (λ l. node hash l last)) below ∙ sym (fold_last_left k split before)

    -- the fold in front of it stands before the last digest
    pub left_some : (l x : List ℕ) → n < k → Some l ≡ fold hash d n k (cut 32 rest) → x ≡ node hash l last → Some x ≡ fold hash d n size (cut 32 b)
    left_some l x before below is = ap Some is ∙ ap (option_map (λ t. node hash t last)) below ∙ sym (fold_last_left k split before)

    -- where there is none behind the split, there is none
    pub right_none : k ≤ n → None ≡ fold hash d (n - k) (size - k) (cut 32 rest) → None ≡ fold hash d n size (cut 32 b)
    right_none behind below = ap (option_map (λ r. node hash last r)) below ∙ sym (fold_last_right k split behind)

    -- the last digest stands before the fold behind it
    pub right_some : (r x : List ℕ) → k ≤ n → Some r ≡ fold hash d (n - k) (size - k) (cut 32 rest) → x ≡ node hash last r → Some x ≡ fold hash d n size (cut 32 b)
    right_some r x behind below is = ap Some is ∙ ap (option_map (λ t. node hash last t)) below ∙ sym (fold_last_right k split behind)

module _ (hash : Hash) (d : List ℕ) (n size : ℕ) (within : n < size) (b : List ℕ) (whole : length b % 32 ≡ 0) where
  -- the only leaf folds to itself along no digest
  pub fold_alone : size ≡ 1 → eqb (length b) 0 ≡ true → fold hash d n size (cut 32 b) ≡ Some d
  fold_alone one empty =
      let few : length b ≡ 0 = eqb-true (length b) 0 empty in
      ap (fold hash d n size) (cut_none b (omega arith) whole) ∙ only_leaf (λ m s. fold hash d m s []) n size within one ∙ fold_one hash d

  -- and along some it has no fold
  pub fold_over : size ≡ 1 → eqb (length b) 0 ≡ false → fold hash d n size (cut 32 b) ≡ None
  fold_over one some =
      let many : length b ≡ 0 → ⊥ = eqb-false (length b) 0 some in
      let front : length (take (length b - 32) b) ≡ length b - 32 = length-take-le (length b - 32) b (omega arith) in
      ap (fold hash d n size) (cut_last b (take (length b - 32) b) (drop (length b - 32) b) whole refl refl (omega arith))
      ∙ only_leaf (λ m s. fold hash d m s (cut 32 (take (length b - 32) b) ++ drop (length b - 32) b ∷ [])) n size within one
      ∙ fold_long hash d (drop (length b - 32) b) (cut 32 (take (length b - 32) b))

  -- a leaf among more has no fold along none
  pub fold_without : (size ≡ 1 → ⊥) → length b < 32 → fold hash d n size (cut 32 b) ≡ None
  fold_without more few = ap (fold hash d n size) (cut_none b few whole) ∙ fold_short hash d n size (omega arith)

module _ (hash : Hash) (d : List ℕ) (n size : ℕ) (b : List ℕ) where
  -- a leaf outside the tree has no fold, nor has one where bytes are left over
  pub fold_refused : (size ≤ n) ⊎ (length b % 32 ≡ 0 → ⊥) → fold_bytes hash d n size b ≡ None
  fold_refused why = elim (cases_eq (length b % 32) 0) [
    | inr rest ↦ fold_bytes_rest hash d n size b rest
    | inl whole ↦ elim why [
      | inl outside ↦ fold_bytes_whole hash d n size b whole ∙ fold_outside hash d n size (cut 32 b) outside
      | inr rest ↦ absurd (rest whole)
    ]
  ]

  module _ {A : Type 0} (f : A → List ℕ) (o : Option A) (is : option_map f o ≡ fold_bytes hash d n size b) where
    -- the answer is there where the fold is
    there : is_some o ≡ is_some (fold_bytes hash d n size b)
    there = sym (is_some-map f o) ∙ ap is_some is

    -- none is there exactly where there is no such leaf, or the bytes are not as long as its path
    pub fold_none : IsNone o ↔ ((size ≤ n) ⊎ (length b ≢ 32 * path_length n size))
    fold_none = (
      λ none. elim (cases_lt n size) [
        | inr outside ↦ inl outside
        | inl within ↦ inr (λ long. false≢true (sym none ∙ there ∙ fold_bytes_there hash d n size b within long))
      ],
      λ why. false_from_ne_true (is_some o) (λ some.
          let parts = fold_bytes_parts hash d n size b (sym there ∙ some) in
          elim why [ inl outside ↦ omega (arith, parts.0) | inr other ↦ other parts.1 ]),
    )

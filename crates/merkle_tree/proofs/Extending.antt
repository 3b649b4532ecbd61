-- The roots that the digests of a flat proof give, of which the last stands apart.
use Rattle.std.proofs.Common.{◌≡◌, ◌≢◌, ◌⊎◌, ◌↔◌, inl, inr, ℕ, ◌+◌, ◌-◌, ◌*◌, ◌%◌, ◌<◌, ◌≤◌, Bool, true, false, eqb, List, length, take, drop, Option, Some, None, refl, sym, ap, ap₂, ◌∙◌, arith}
use Rattle.std.proofs.lemmas.Bool.{eqb-true, eqb-false, cases_lt, cases_eq, false≢true, false_from_ne_true}
use Rattle.std.specs.Prelude.{option_map, option_and_then, is_some, IsNone}
use Rattle.std.specs.Str.{bytes_eq}
use Rattle.tree_model.specs.Tree.{Hash, node, IsSplit, cut}
use Rattle.tree_model.specs.Extension.{both, ext, new_of, old_root, fold_proof, fold_proof_bytes, proof_length}
use Rattle.tree_model.proofs.Pieces.{length-cut}
use Rattle.tree_model.proofs.Folds.{is_some-map}
use Rattle.tree_model.proofs.Extensions.{both_some, both_more, ext_none, ext_beyond, ext_all, ext_short, ext_left, ext_right}
use Rattle.tree_model.proofs.ProofFolds.{fold_proof_whole, fold_proof_rest, fold_proof_bytes_parts, fold_proof_bytes_there}
use Rattle.merkle_tree.proofs.Lasts.{cut_last, cut_none}

-- the root of all leaves along no bytes, where it is known
pub known_alone : (known : Bool) (old b : List ℕ) → length b % 32 ≡ 0 → known ≡ true → eqb (length b) 0 ≡ true → both known old (cut 32 b) ≡ Some (old, old)
unfolding both
known_alone known old b whole is empty =
    let few : length b ≡ 0 = eqb-true (length b) 0 empty in
    rw (is, cut_none b (omega arith) whole) refl

-- and along some
pub known_over : (known : Bool) (old b : List ℕ) → length b % 32 ≡ 0 → known ≡ true → eqb (length b) 0 ≡ false → both known old (cut 32 b) ≡ None
known_over known old b whole is some =
    let many : length b ≡ 0 → ⊥ = eqb-false (length b) 0 some in
    rw is (both_some old (cut 32 b) (omega (arith, length-cut 32 b)))

-- the root that is not known isn't there along no bytes
pub unknown_none : (known : Bool) (old b : List ℕ) → length b % 32 ≡ 0 → known ≡ false → length b < 32 → both known old (cut 32 b) ≡ None
unfolding both
unknown_none known old b whole is few = rw (is, cut_none b few whole) refl

module _ (b rest last : List ℕ) (whole : length b % 32 ≡ 0) (front : rest ≡ take (length b - 32) b) (back : last ≡ drop (length b - 32) b) (some : length rest + 32 ≡ length b) where
  -- it is the only digest
  pub unknown_alone : (known : Bool) (old : List ℕ) → known ≡ false → eqb (length rest) 0 ≡ true → both known old (cut 32 b) ≡ Some (last, last)
  unfolding both
  unknown_alone known old is empty =
      let none : length rest ≡ 0 = eqb-true (length rest) 0 empty in
      rw (is, cut_last b rest last whole front back some, cut_none rest (omega arith) (omega arith)) refl

  -- and none of more
  pub unknown_over : (known : Bool) (old : List ℕ) → known ≡ false → eqb (length rest) 0 ≡ false → both known old (cut 32 b) ≡ None
  unknown_over known old is many =
      let more : length rest ≡ 0 → ⊥ = eqb-false (length rest) 0 many in
      both_more known old (cut 32 b) (omega (arith, length-cut 32 b))

  module _ (hash : Hash) (known : Bool) (old : List ℕ) (k m size : ℕ) (split : IsSplit k size) where
    -- up to the split
    ext_last_left : m ≤ k → ext hash m size known old (cut 32 b) ≡ option_map (λ roots. (roots.0, node hash roots.1 last)) (ext hash m k known old (cut 32 rest))
    ext_last_left before = ap (ext hash m size known old) (cut_last b rest last whole front back some) ∙ ext_left hash k m size known old last (cut 32 rest) split before

    -- behind it
    ext_last_right : k < m → m < size → ext hash m size known old (cut 32 b) ≡ option_map (λ roots. (node hash last roots.0, node hash last roots.1)) (ext hash (m - k) (size - k) false old (cut 32 rest))
    ext_last_right behind part = ap (ext hash m size known old) (cut_last b rest last whole front back some) ∙ ext_right hash k m size known old last (cut 32 rest) split behind part

    -- where there are no roots up to the split, there are none
    pub ext_left_none : m ≤ k → None ≡ ext hash m k known old (cut 32 rest) → None ≡ ext hash m size known old (cut 32 b)
    ext_left_none before below = ap (option_map (λ roots. (roots.0, node hash roots.1 last))) below ∙ sym (ext_last_left before)

    -- the new root up to it stands before the last digest
    pub ext_left_some : (o w x : List ℕ) → m ≤ k → Some (o, w) ≡ ext hash m k known old (cut 32 rest) → x ≡ node hash w last → Some (o, x) ≡ ext hash m size known old (cut 32 b)
    ext_left_some o w x before below is =
        ap (λ t. Some (o, t)) is ∙ ap (option_map (λ roots. (roots.0, node hash roots.1 last))) below ∙ sym (ext_last_left before)

    -- where there are no roots behind the split, there are none
    pub ext_right_none : k < m → m < size → None ≡ ext hash (m - k) (size - k) false old (cut 32 rest) → None ≡ ext hash m size known old (cut 32 b)
    ext_right_none behind part below = ap (option_map (λ roots. (node hash last roots.0, node hash last roots.1))) below ∙ sym (ext_last_right behind part)

    -- the last digest stands before both roots behind it
    pub ext_right_some : (o w x y : List ℕ) → k < m → m < size → Some (o, w) ≡ ext hash (m - k) (size - k) false old (cut 32 rest) → x ≡ node hash last o → y ≡ node hash last w
        → Some (x, y) ≡ ext hash m size known old (cut 32 b)
    ext_right_some o w x y behind part below first second =
        ap₂ (λ s t. Some (s, t)) first second ∙ ap (option_map (λ roots. (node hash last roots.0, node hash last roots.1))) below ∙ sym (ext_last_right behind part)

module _ (hash : Hash) (known : Bool) (old : List ℕ) (m size : ℕ) (b : List ℕ) where
  -- of all leaves
  pub ext_whole : 0 < m → m ≡ size → ext hash m size known old (cut 32 b) ≡ both known old (cut 32 b)
  ext_whole some is = ap (λ n. ext hash m n known old (cut 32 b)) (sym is) ∙ ext_all hash known old m (cut 32 b) some

  -- fewer leaves are not extended along no digest
  pub ext_without : m < size → length b < 32 → length b % 32 ≡ 0 → ext hash m size known old (cut 32 b) ≡ None
  ext_without part few whole = ap (ext hash m size known old) (cut_none b few whole) ∙ ext_short hash known old m size part

module _ (hash : Hash) (m : ℕ) (old : List ℕ) (size : ℕ) (b : List ℕ) where
  -- no leaves, more than all leaves, or bytes left over have no fold
  pub refused : (m ≡ 0) ⊎ (size < m) ⊎ (length b % 32 ≡ 0 → ⊥) → fold_proof_bytes hash m old size b ≡ None
  unfolding fold_proof
  refused why = elim (cases_eq (length b % 32) 0) [
    | inr rest ↦ fold_proof_rest hash m old size b rest
    | inl whole ↦ fold_proof_whole hash m old size b whole ∙ elim why [
      | inl none ↦ ap (option_and_then (new_of old)) (ap (λ j. ext hash j size true old (cut 32 b)) none ∙ ext_none hash true old size (cut 32 b))
      | inr (inl beyond) ↦ ap (option_and_then (new_of old)) (ext_beyond hash true old m size (cut 32 b) beyond)
      | inr (inr rest) ↦ absurd (rest whole)
    ]
  ]

  module _ (whole : length b % 32 ≡ 0) where
    -- without roots there is no fold
    pub rootless : None ≡ ext hash m size true old (cut 32 b) → None ≡ fold_proof_bytes hash m old size b
    unfolding fold_proof
    rootless none = ap (option_and_then (new_of old)) none ∙ sym (fold_proof_whole hash m old size b whole)

    -- the second root is the fold where the first is the old one
    pub same_old : (o w : List ℕ) → Some (o, w) ≡ ext hash m size true old (cut 32 b) → bytes_eq o old ≡ true → Some w ≡ fold_proof_bytes hash m old size b
    unfolding fold_proof
    same_old o w roots same =
        let is : new_of old (o, w) ≡ Some w = rw same refl in
        sym is ∙ ap (option_and_then (new_of old)) roots ∙ sym (fold_proof_whole hash m old size b whole)

    -- and else there is none
    pub other_old : (o w : List ℕ) → Some (o, w) ≡ ext hash m size true old (cut 32 b) → bytes_eq o old ≡ false → None ≡ fold_proof_bytes hash m old size b
    unfolding fold_proof
    other_old o w roots other =
        let is : new_of old (o, w) ≡ None = rw other refl in
        sym is ∙ ap (option_and_then (new_of old)) roots ∙ sym (fold_proof_whole hash m old size b whole)

module _ (hash : Hash) (m : ℕ) (old : List ℕ) (size : ℕ) (b : List ℕ) {A : Type 0} (f : A → List ℕ) (o : Option A) (is : option_map f o ≡ fold_proof_bytes hash m old size b) where
  -- the answer is there where the fold is
  there : is_some o ≡ is_some (fold_proof_bytes hash m old size b)
  there = sym (is_some-map f o) ∙ ap is_some is

  abbrev Why : Type 0
  Why = (m ≡ 0) ⊎ (size < m) ⊎ (length b ≢ 32 * proof_length m size) ⊎ (old_root hash m old size (cut 32 b) ≢ Some old)

  -- why there is none
  why_none : is_some o ≡ false → Why
  why_none none = elim (cases_lt 0 m) [
    | inr zero ↦ inl (omega arith)
    | inl some ↦ elim (cases_lt size m) [
      | inl beyond ↦ inr (inl beyond)
      | inr within ↦ elim (cases_eq (length b) (32 * proof_length m size)) [
        | inr other ↦ inr (inr (inl other))
        | inl long ↦ inr (inr (inr (λ first. false≢true (sym none ∙ there ∙ fold_proof_bytes_there hash m old size b long first))))
      ]
    ]
  ]

  -- then there is none
  none_why : Why → is_some o ≡ false
  none_why why = false_from_ne_true (is_some o) (λ some.
      let parts = fold_proof_bytes_parts hash m old size b (sym there ∙ some) in
      elim why [
        | inl zero ↦ omega (arith, parts.0)
        | inr (inl beyond) ↦ omega (arith, parts.1)
        | inr (inr (inl other)) ↦ other parts.2
        | inr (inr (inr differs)) ↦ differs parts.3
      ])

  -- none is there exactly where m is 0 or above the size, the bytes are not as long as a proof, or give another old root
  pub fold_proof_none : IsNone o ↔ Why
  fold_proof_none = (λ none. why_none none, λ why. none_why why)

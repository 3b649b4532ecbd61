-- Folding an old root along a proof gives the new root, and there is a fold exactly where the proof gives the old one.
use Rattle.std.proofs.Common.{◌≡◌, ℕ, ◌*◌, ◌/◌, ◌%◌, ◌<◌, ◌≤◌, true, false, inl, inr, List, length, take, All, Option, Some, None, refl, sym, ap, ◌∙◌, arith, div-add-mod', eq-eqb}
use Rattle.std.specs.Prelude.{option_map, option_and_then, is_some}
use Rattle.std.specs.Str.{bytes_eq}
use Rattle.std.specs.List.{concat}
use Rattle.std.proofs.lemmas.Bool.{cases_eq, cases_Bool, ne_eqb, false≢true}
use Rattle.std.proofs.lemmas.Slice.Eq.{bytes_eq-Decides}
use Rattle.tree_model.specs.Tree.{Hash, root, cut}
use Rattle.tree_model.specs.Extension.{proof, proof_length, ext, old_root, new_of, fold_proof, fold_proof_bytes}
use Rattle.tree_model.proofs.Pieces.{length-cut, cut-concat, concat-whole}
use Rattle.tree_model.proofs.Extensions.{ext_parts, sub_gives}

-- strings that are one are told so
pub same_bytes : (xs : List ℕ) → bytes_eq xs xs ≡ true
same_bytes xs = (bytes_eq-Decides xs xs).1 refl

-- a pair whose first is the old root
new_of-same : (old new : List ℕ) → new_of old (old, new) ≡ Some new
new_of-same old new = rw (same_bytes old) refl

-- the roots that a fold went by
and_new : (old new : List ℕ) (o : Option (List ℕ × List ℕ)) → option_and_then (new_of old) o ≡ Some new → o ≡ Some (old, new)
and_new old new None e = absurd cc
and_new old new (Some roots) e = elim (cases_Bool (bytes_eq roots.0 old)) [
  | inl same ↦
      let first : roots.0 ≡ old = (bytes_eq-Decides roots.0 old).0 same in
      let second : Some roots.1 ≡ Some new = sym (rw same refl) ∙ e in
      let is : roots.1 ≡ new = cc in
      ap (λ a. Some (a, roots.1)) first ∙ ap (λ b. Some (old, b)) is
  | inr differ ↦ absurd (let none : None ≡ Some new = sym (rw differ refl) ∙ e in cc)
]

-- a fold is there exactly where the first root is the old one
is_some-new : (old : List ℕ) (o : Option (List ℕ × List ℕ)) → is_some (option_and_then (new_of old) o) ≡ true → option_map (λ roots. roots.0) o ≡ Some old
is_some-new old None e = absurd (false≢true e)
is_some-new old (Some roots) e = elim (cases_Bool (bytes_eq roots.0 old)) [
  | inl same ↦ ap Some ((bytes_eq-Decides roots.0 old).0 same)
  | inr differ ↦ absurd (let none : is_some (new_of old roots) ≡ false = rw differ refl in false≢true (sym none ∙ e))
]

new-is_some : (old : List ℕ) (o : Option (List ℕ × List ℕ)) → option_map (λ roots. roots.0) o ≡ Some old → is_some (option_and_then (new_of old) o) ≡ true
new-is_some old None e = absurd cc
new-is_some old (Some roots) e = let first : roots.0 ≡ old = cc in rw first (rw (same_bytes old) refl)

-- what is there after a rewriting was there
map-is_some : {A B : Type 0} (f : A → B) (o : Option A) (x : B) → option_map f o ≡ Some x → is_some o ≡ true
map-is_some f None x e = absurd cc
map-is_some f (Some y) x e = refl

module _ (hash : Hash) (m : ℕ) (old : List ℕ) (size : ℕ) where
  -- a fold is the second of two roots, the first of which is the old one
  pub fold_proof_roots : (p : List (List ℕ)) (new : List ℕ) → fold_proof hash m old size p ≡ Some new → ext hash m size true old p ≡ Some (old, new)
  unfolding fold_proof
  fold_proof_roots p new e = and_new old new (ext hash m size true old p) e

  pub fold_proof_gives : (p : List (List ℕ)) (new : List ℕ) → ext hash m size true old p ≡ Some (old, new) → fold_proof hash m old size p ≡ Some new
  unfolding fold_proof
  fold_proof_gives p new e = ap (option_and_then (new_of old)) e ∙ new_of-same old new

  -- where there is a fold, m is neither 0 nor above the size, and the proof has its length and gives the old root
  pub fold_proof_parts : (p : List (List ℕ)) → is_some (fold_proof hash m old size p) ≡ true
      → (0 < m) × (m ≤ size) × (length p ≡ proof_length m size) × (old_root hash m old size p ≡ Some old)
  unfolding fold_proof
  fold_proof_parts p there =
      let first : old_root hash m old size p ≡ Some old = is_some-new old (ext hash m size true old p) there in
      let parts = ext_parts hash old m size true p (map-is_some (λ roots. roots.0) (ext hash m size true old p) old first) in
      (parts.0, parts.1, parts.2, first)

  -- where the proof gives the old root there is one
  pub fold_proof_there : (p : List (List ℕ)) → old_root hash m old size p ≡ Some old → is_some (fold_proof hash m old size p) ≡ true
  unfolding fold_proof
  fold_proof_there p first = new-is_some old (ext hash m size true old p) first

  -- the fold of flat bytes whose pieces are whole
  pub fold_proof_whole : (b : List ℕ) → length b % 32 ≡ 0 → fold_proof_bytes hash m old size b ≡ fold_proof hash m old size (cut 32 b)
  unfolding fold_proof_bytes
  fold_proof_whole b whole = rw (eq-eqb (length b % 32) 0 whole) refl

  -- where bytes are left over there is none
  pub fold_proof_rest : (b : List ℕ) → (length b % 32 ≡ 0 → ⊥) → fold_proof_bytes hash m old size b ≡ None
  unfolding fold_proof_bytes
  fold_proof_rest b rest = rw (ne_eqb (length b % 32) 0 rest) refl

  -- the fold along a proof in flat bytes is that along its digests
  pub fold_proof-concat : (p : List (List ℕ)) → All (λ x. length x ≡ 32) p → fold_proof_bytes hash m old size (concat p) ≡ fold_proof hash m old size p
  fold_proof-concat p each =
      fold_proof_whole (concat p) (concat-whole 32 (omega arith) p each) ∙ ap (fold_proof hash m old size) (cut-concat 32 (omega arith) p each)

  -- where flat bytes have a fold none is left over
  pub fold_proof_even : (b : List ℕ) → is_some (fold_proof_bytes hash m old size b) ≡ true → length b % 32 ≡ 0
  fold_proof_even b there = elim (cases_eq (length b % 32) 0) [
    | inl whole ↦ whole
    | inr rest ↦ absurd (false≢true (sym (ap is_some (fold_proof_rest b rest)) ∙ there))
  ]

  -- where flat bytes have a fold: as for digests
  pub fold_proof_bytes_parts : (b : List ℕ) → is_some (fold_proof_bytes hash m old size b) ≡ true
      → (0 < m) × (m ≤ size) × (length b ≡ 32 * proof_length m size) × (old_root hash m old size (cut 32 b) ≡ Some old)
  fold_proof_bytes_parts b there =
      let whole : length b % 32 ≡ 0 = fold_proof_even b there in
      let parts = fold_proof_parts (cut 32 b) (sym (ap is_some (fold_proof_whole b whole)) ∙ there) in
      let count : length b / 32 ≡ proof_length m size = sym (length-cut 32 b) ∙ parts.2 in
      (parts.0, parts.1, omega (arith, whole, count, div-add-mod' (length b) 32), parts.3)

  -- and the other way round
  pub fold_proof_bytes_there : (b : List ℕ) → length b ≡ 32 * proof_length m size → old_root hash m old size (cut 32 b) ≡ Some old → is_some (fold_proof_bytes hash m old size b) ≡ true
  fold_proof_bytes_there b long first =
      let whole : length b % 32 ≡ 0 = omega arith in
      ap is_some (fold_proof_whole b whole) ∙ fold_proof_there (cut 32 b) first

-- an old root folds along its proof to the new root
pub proof_gives_root : (hash : Hash) (m : ℕ) (ds : List (List ℕ)) → 0 < m → m ≤ length ds → fold_proof hash m (root hash (take m ds)) (length ds) (proof hash m ds) ≡ Some (root hash ds)
proof_gives_root hash m ds some le = fold_proof_gives hash m (root hash (take m ds)) (length ds) (proof hash m ds) (root hash ds) (sub_gives hash m true ds some le)

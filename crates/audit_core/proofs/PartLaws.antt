-- The first part of a proof that tells what isn't of the lists, looked for in one list of parts after another.
use Rattle.std.proofs.Common.{◌≡◌, ◌≢◌, ◌⊎◌, inr, ℕ, suc, ◌+◌, ◌-◌, ◌<◌, ◌≤◌, ◌/◌, Bool, true, false, List, [], ◌∷◌, ◌++◌, length, map, get_or, take, drop, replicate, Option, Some, None, refl, sym, ap, ◌∙◌, subst, arith}
use Rattle.std.specs.Prelude.{is_some}
use Rattle.std.specs.List.{AllByRecursion}
use Rattle.std.specs.Str.{bytes_eq}
use Rattle.std.proofs.lemmas.Bool.{false≢true}
use Rattle.std.proofs.lemmas.List.{get_or-map, length-map, take-map, drop_at, drop-replicate}
use Rattle.std.proofs.lemmas.Slice.Eq.{bytes_eq-Decides}
use Rattle.tree_model.specs.Tree.{Hash, leaf, mth, root, cut}
use Rattle.tree_model.specs.Path.{fold, fold_bytes}
use Rattle.tree_model.specs.Extension.{fold_proof, fold_proof_bytes}
use Rattle.tree_model.specs.Clash.{IsClash, Clashes, path_clash}
use Rattle.tree_model.proofs.Pieces.{length-cut, cut-width}
use Rattle.tree_model.proofs.Folds.{fold_bytes_whole, fold_bytes_even, fold_bytes_parts}
use Rattle.tree_model.proofs.ProofFolds.{fold_proof_whole, fold_proof_even, fold_proof_bytes_parts}
use Rattle.tree_model.proofs.PathClashes.{Makes, path_clashes}
use Rattle.tree_model.proofs.ProofClashes.{proof_clashes}
use Rattle.merkle_tree.proofs.Differing.{leaves_long}
use Rattle.merkle_tree.specs.declared.clash.Clash.{Clash}
use Rattle.merkle_tree.specs.Strings.{pair_of}
use Rattle.audit_core.specs.Parts.{Part, first_of_parts, path_part, leaf_part, extension_clash, extension_part, placed_parts, PathGives, ExtensionGives, Finds}

-- what is told the same is the same
pub told_same : (a b : List ℕ) → bytes_eq a b ≡ true → a ≡ b
told_same a b e = (bytes_eq-Decides a b).0 e

pub told_other : (a b : List ℕ) → bytes_eq a b ≡ false → a ≢ b
told_other a b e is = false≢true (sym e ∙ (bytes_eq-Decides a b).1 is)

pub same_told : (a b : List ℕ) → a ≡ b → bytes_eq a b ≡ true
same_told a b e = (bytes_eq-Decides a b).1 e

pub other_told : (a b : List ℕ) → a ≢ b → bytes_eq a b ≡ false
other_told a b other = by (bytes_eq a b) refl where
  by : (told : Bool) → bytes_eq a b ≡ told → told ≡ false
  by false e = refl
  by true e = absurd (other (told_same a b e))

-- ---- lists of parts

abbrev pub Agree : List Part → Type 0
Agree parts = AllByRecursion (λ part. part.0 ≡ true) parts

-- behind parts that agree it is found among the rest
first_behind : (front back : List Part) → Agree front → first_of_parts (front ++ back) ≡ first_of_parts back
first_behind [] back agree = refl
first_behind (part ∷ front) back agree = rw agree.0 (first_behind front back agree.1)

agree_append : (front back : List Part) → Agree front → Agree back → Agree (front ++ back)
agree_append [] back first second = second
agree_append (part ∷ front) back first second = (first.0, agree_append front back first.1 second)

-- where all agree nothing is found
pub first_none : (parts : List Part) → Agree parts → first_of_parts parts ≡ None
first_none [] agree = refl
first_none (part ∷ parts) agree = rw agree.0 (first_none parts agree.1)

-- what is found in front is found in all
first_kept : (front back : List Part) (pair : List ℕ × List ℕ) → first_of_parts front ≡ Some pair → first_of_parts (front ++ back) ≡ Some pair
first_kept [] back pair e = absurd cc
first_kept ((true, shown) ∷ front) back pair e = first_kept front back pair e
first_kept ((false, shown) ∷ front) back pair e = e

module _ (hash : Hash) where
  pub finds_front : (front back : List Part) (clash : Clash) → Finds hash front (Some clash) → Finds hash (front ++ back) (Some clash)
  finds_front front back clash it = record { found_is = first_kept front back (pair_of clash) it.found_is; clashes = it.clashes }

  pub finds_back : (front back : List Part) (found : Option Clash) → Finds hash front None → Finds hash back found → Finds hash (front ++ back) found
  finds_back front back None first second = agree_append front back first second
  finds_back front back (Some clash) first second = record { found_is = first_behind front back first ∙ second.found_is; clashes = second.clashes }

  -- one part
  pub one_agrees : (part : Part) → part.0 ≡ true → Finds hash (part ∷ []) None
  one_agrees part same = (same, tt)

  pub one_shows : (same : Bool) (strings : Option (List ℕ × List ℕ)) (clash : Clash) → same ≡ false → strings ≡ Some (pair_of clash) → IsClash hash (pair_of clash).0 (pair_of clash).1
      → Finds hash ((same, strings) ∷ []) (Some clash)
  one_shows same strings clash other is clashes = record { found_is = rw other is; clashes = clashes }

module _ (hash : Hash) (makes : Makes hash) (list : List (List ℕ)) where
  -- ---- what one part shows that leads to a list's root

  pub path_within : (digest : List ℕ) (n : ℕ) (path : List ℕ) → PathGives hash list digest n path → n < length list
  path_within digest n path folds = (fold_bytes_parts hash digest n (length list) path (ap is_some folds)).0

  pub path_shows : (digest : List ℕ) (n : ℕ) (path : List ℕ) → PathGives hash list digest n path
      → bytes_eq digest (get_or (map (leaf hash) list) n []) ≡ false → Clashes hash (path_clash hash digest n (map (leaf hash) list) (cut 32 path))
  path_shows digest n path folds other =
      let whole = fold_bytes_even hash digest n (length list) path (ap is_some folds) in
      path_clashes hash makes digest n (map (leaf hash) list) (cut 32 path) (leaves_long hash 0 [] [] makes list) (cut-width 32 path) (told_other _ _ other)
      (ap (λ j. fold hash digest n j (cut 32 path)) (length-map list (leaf hash)) ∙ sym (fold_bytes_whole hash digest n (length list) path whole) ∙ folds)

  -- the leaf's digest is the list's
  pub digest_is : (digest : List ℕ) (n : ℕ) → n < length list → bytes_eq digest (get_or (map (leaf hash) list) n []) ≡ true → digest ≡ leaf hash (get_or list n [])
  digest_is digest n within same = told_same _ _ same ∙ get_or-map (leaf hash) list n [] [] within

  pub leaf_shows : (told : List ℕ) (n : ℕ) → leaf hash told ≡ leaf hash (get_or list n []) → bytes_eq told (get_or list n []) ≡ false → Clashes hash (Some (0 ∷ told, 0 ∷ get_or list n []))
  leaf_shows told n one other =
      let differ : (0 ∷ told) ≢ (0 ∷ get_or list n []) = λ e. told_other told (get_or list n []) other (let tails : told ≡ get_or list n [] = cc in tails) in
      ((0 ∷ told, 0 ∷ get_or list n []), refl, record { differ = differ; one_digest = one })

  pub extension_shows : (m : ℕ) (old digests : List ℕ) → ExtensionGives hash list m old digests → bytes_eq old (mth hash (take m list)) ≡ false → Clashes hash (extension_clash hash list m old digests)
  extension_shows m old digests folds other =
      let whole = fold_proof_even hash m old (length list) digests (ap is_some folds) in
      proof_clashes hash makes old m (map (leaf hash) list) (cut 32 digests) (leaves_long hash 0 [] [] makes list) (cut-width 32 digests)
      (λ is. told_other _ _ other (is ∙ ap (root hash) (take-map (leaf hash) m list)))
      (ap (λ j. fold_proof hash m old j (cut 32 digests)) (length-map list (leaf hash)) ∙ sym (fold_proof_whole hash m old (length list) digests whole) ∙ folds)

  -- ---- parts in front of others either show two strings, or say what goes on

  abbrev pub Leads : Type 0 → List Part → Type 1
  Leads fact parts = (goal : Type 0) (rest : List Part) → (fact → goal ⊎ Clashes hash (first_of_parts rest)) → goal ⊎ Clashes hash (first_of_parts (parts ++ rest))

  one_part : (same : Bool) (pair : Option (List ℕ × List ℕ)) (rest : List Part) (goal : Type 0) → (same ≡ false → Clashes hash pair) → (same ≡ true → goal ⊎ Clashes hash (first_of_parts rest))
      → goal ⊎ Clashes hash (first_of_parts ((same, pair) ∷ rest))
  one_part true pair rest goal shows on = on refl
  one_part false pair rest goal shows on = inr (shows refl)

  pub path_leads_on : (digest : List ℕ) (n : ℕ) (path : List ℕ) → PathGives hash list digest n path → Leads (digest ≡ leaf hash (get_or list n [])) (path_part hash list digest n path ∷ [])
  path_leads_on digest n path folds goal rest on =
      one_part (bytes_eq digest (get_or (map (leaf hash) list) n [])) (path_clash hash digest n (map (leaf hash) list) (cut 32 path)) rest goal
      (path_shows digest n path folds) (λ same. on (digest_is digest n (path_within digest n path folds) same))

  pub placed_leads_on : (told : List ℕ) (n : ℕ) (path : List ℕ) → PathGives hash list (leaf hash told) n path → Leads (told ≡ get_or list n []) (placed_parts hash list told n path)
  placed_leads_on told n path folds goal rest on =
      path_leads_on (leaf hash told) n path folds goal (leaf_part list told n ∷ rest)
      (λ one. one_part (bytes_eq told (get_or list n [])) (Some (0 ∷ told, 0 ∷ get_or list n [])) rest goal (leaf_shows told n one) (λ same. on (told_same told (get_or list n []) same)))

  pub extension_leads_on : (m : ℕ) (old digests : List ℕ) → ExtensionGives hash list m old digests → Leads (old ≡ mth hash (take m list)) (extension_part hash list m old digests ∷ [])
  extension_leads_on m old digests folds goal rest on =
      one_part (bytes_eq old (mth hash (take m list))) (extension_clash hash list m old digests) rest goal
      (extension_shows m old digests folds) (λ same. on (told_same _ _ same))

-- ---- the same of flat bytes

module _ (hash : Hash) (width : ℕ) (flat : List ℕ) where
  abbrev list_of : List (List ℕ)
  list_of = cut width flat

  count_is : length list_of ≡ length flat / width
  count_is = length-cut width flat

  pub flat_within : (digest : List ℕ) (n : ℕ) (path : List ℕ) → PathGives hash list_of digest n path → n < length flat / width
  flat_within digest n path gives = subst (λ k. n < k) count_is (fold_bytes_parts hash digest n (length list_of) path (ap is_some gives)).0

  pub flat_path : (digest : List ℕ) (n : ℕ) (path : List ℕ) → PathGives hash list_of digest n path → fold_bytes hash digest n (length flat / width) path ≡ Some (mth hash list_of)
  flat_path digest n path gives = ap (λ k. fold_bytes hash digest n k path) (sym count_is) ∙ gives

  pub flat_most : (m : ℕ) (old digests : List ℕ) → ExtensionGives hash list_of m old digests → m ≤ length flat / width
  flat_most m old digests gives = subst (λ k. m ≤ k) count_is (fold_proof_bytes_parts hash m old (length list_of) digests (ap is_some gives)).1

  pub flat_extension : (m : ℕ) (old digests : List ℕ) → ExtensionGives hash list_of m old digests → fold_proof_bytes hash m old (length flat / width) digests ≡ Some (mth hash list_of)
  flat_extension m old digests gives = ap (λ k. fold_proof_bytes hash m old k digests) (sym count_is) ∙ gives

  module _ (digest : List ℕ) (n : ℕ) (path : List ℕ) (gives : PathGives hash list_of digest n path) where
    there : get_or (map (leaf hash) list_of) n [] ≡ leaf hash (get_or list_of n [])
    there = get_or-map (leaf hash) list_of n [] [] (subst (λ k. n < k) (sym count_is) (flat_within digest n path gives))

    pub leaf_same : bytes_eq (leaf hash (get_or list_of n [])) digest ≡ true → bytes_eq digest (get_or (map (leaf hash) list_of) n []) ≡ true
    leaf_same e = same_told _ _ (sym (there ∙ told_same _ _ e))

    pub leaf_not : bytes_eq (leaf hash (get_or list_of n [])) digest ≡ false → digest ≢ get_or (map (leaf hash) list_of) n []
    leaf_not e is = told_other _ _ e (sym (is ∙ there))

    pub leaf_back : bytes_eq digest (get_or (map (leaf hash) list_of) n []) ≡ true → digest ≡ leaf hash (get_or list_of n [])
    leaf_back e = told_same _ _ e ∙ there

-- ---- the string of a leaf

-- behind a string in bytes of zeros stand zeros
pub string_rest : (n : ℕ) (front back : List ℕ) → length front ≡ n → back ≡ drop ((1 + n) - 1) (drop 1 (replicate 175 0)) → drop (1 + n) (0 ∷ (front ++ back)) ≡ replicate (175 - (1 + n)) 0
string_rest n front back size is =
    let one : 1 + n ≡ suc n = omega arith in
    let fewer : (1 + n) - 1 ≡ n = omega arith in
    let left : 174 - n ≡ 175 - (1 + n) = omega arith in
    ap (λ k. drop k (0 ∷ (front ++ back))) one ∙ drop_at front back n size ∙ is ∙ ap (λ k. drop k (replicate 174 0)) fewer ∙ drop-replicate n 174 0 ∙ ap (λ k. replicate k 0) left

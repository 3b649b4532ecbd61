-- The first node that a path or a proof tells otherwise than a list, looked for in the two parts of the list.
use Rattle.std.proofs.Common.{◌≡◌, ◌≢◌, ℕ, ◌+◌, ◌-◌, ◌/◌, ◌%◌, ◌<◌, ◌≤◌, Bool, false, inl, inr, List, [], ◌∷◌, length, map, take, drop, get_or, All, Option, Some, None, refl, sym, ap, ap₂, ◌∙◌, subst, arith}
use Rattle.std.specs.Prelude.{option_and_then, is_some}
use Rattle.std.specs.Str.{bytes_eq}
use Rattle.std.proofs.lemmas.Bool.{cases_Bool}
use Rattle.std.proofs.lemmas.List.{length-map, take-map, drop-map}
use Rattle.std.proofs.lemmas.List.Elements.{All-map, All-from_get_or}
use Rattle.tree_model.specs.Tree.{Hash, leaf, mth, root, IsSplit, cut}
use Rattle.tree_model.specs.Path.{fold, fold_bytes}
use Rattle.tree_model.specs.Extension.{ext, fold_proof, fold_proof_bytes}
use Rattle.tree_model.specs.Clash.{IsClash, Clashes, node_bytes, or_below, path_clash, sub_clash, proof_clash}
use Rattle.tree_model.proofs.Pieces.{length-cut, cut-width}
use Rattle.tree_model.proofs.Folds.{fold_bytes_whole, fold_bytes_even}
use Rattle.tree_model.proofs.ProofFolds.{fold_proof_whole, fold_proof_even}
use Rattle.tree_model.proofs.PathClashes.{Makes, path_clash_none, path_clash_few, path_clash_left, path_clash_right, path_clashes}
use Rattle.tree_model.proofs.ProofClashes.{sub_clash_none, sub_clash_all, sub_clash_left, sub_clash_right, proof_clashes}
use Rattle.merkle_tree.specs.Part.{IsPart, leaves_of}
use Rattle.merkle_tree.proofs.Lasts.{cut_last, cut_none}

-- ---- what is told at one node

-- nothing in place of what is below shows that the strings are one
or_none : (told truth : List ℕ) (below : Option (List ℕ × List ℕ)) → or_below told truth None ≡ None → or_below told truth below ≡ below
or_none told truth below e = elim (cases_Bool (bytes_eq told truth)) [
  | inl same ↦ rw same refl
  | inr other ↦ absurd (let never : Some (told, truth) ≡ None = sym (rw other refl) ∙ e in cc)
]

-- and a pair that they differ
or_some : (told truth : List ℕ) (pair : List ℕ × List ℕ) (below : Option (List ℕ × List ℕ)) → or_below told truth None ≡ Some pair → or_below told truth below ≡ Some pair
or_some told truth pair below e = elim (cases_Bool (bytes_eq told truth)) [
  | inl same ↦ absurd (let never : None ≡ Some pair = sym (rw same refl) ∙ e in cc)
  | inr other ↦ rw other (rw other at e)
]

module _ {A : Type 0} (found : Option (List ℕ × List ℕ)) (strings : A → List ℕ) (truth : List ℕ) (below : Option (List ℕ × List ℕ)) (o : Option A) (is : found ≡ option_and_then (λ told. or_below (strings told) truth below) o) where
  -- where nothing is told nothing is found
  told_none : None ≡ o → None ≡ found
  told_none none = sym (rw (← none) at is)

  -- where another string is told the pair is found
  told_some : (x : A) (pair : List ℕ × List ℕ) → Some x ≡ o → Some pair ≡ or_below (strings x) truth None → Some pair ≡ found
  told_some x pair there differ = sym ((rw (← there) at is) ∙ or_some (strings x) truth pair below (sym differ))

  -- and else what is found below
  told_below : (x : A) (given : Option (List ℕ × List ℕ)) → Some x ≡ o → None ≡ or_below (strings x) truth None → given ≡ below → given ≡ found
  told_below x given there same later = later ∙ sym ((rw (← there) at is) ∙ or_none (strings x) truth below (sym same))

-- there are as many as pieces
pub length-leaves : (hash : Hash) (w : ℕ) (b : List ℕ) → length (leaves_of hash w b) ≡ length b / w
length-leaves hash w b = length-map (cut w b) (leaf hash) ∙ length-cut w b

module _ (hash : Hash) (w : ℕ) (b : List ℕ) (k : ℕ) (s : IsSplit k (length b / w)) (front back : List ℕ) (f : IsPart w front (take k (cut w b)) k (length b)) (g : IsPart w back (drop k (cut w b)) (length b / w - k) (length b))
    (path rest side : List ℕ) (whole : length path % 32 ≡ 0) (rest_is : rest ≡ take (length path - 32) path) (side_is : side ≡ drop (length path - 32) path) (some : length rest + 32 ≡ length path)
    (l r : List ℕ) (l_is : l ≡ mth hash (cut w front)) (r_is : r ≡ mth hash (cut w back)) where
  -- the leaves split where the bytes do
  split_leaves : IsSplit k (length (leaves_of hash w b))
  split_leaves = subst (IsSplit k) (sym (length-leaves hash w b)) s

  take-leaves : take k (leaves_of hash w b) ≡ leaves_of hash w front
  take-leaves = take-map (leaf hash) k (cut w b) ∙ ap (map (leaf hash)) (sym f.is)

  drop-leaves : drop k (leaves_of hash w b) ≡ leaves_of hash w back
  drop-leaves = drop-map (leaf hash) k (cut w b) ∙ ap (map (leaf hash)) (sym g.is)

  -- the string of the list's highest node
  top_is : node_bytes (root hash (take k (leaves_of hash w b))) (root hash (drop k (leaves_of hash w b))) ≡ node_bytes l r
  top_is = ap₂ (λ x y. node_bytes x y) (ap (root hash) take-leaves ∙ sym l_is) (ap (root hash) drop-leaves ∙ sym r_is)

  -- ---- a path
  module _ (d : List ℕ) (n : ℕ) where
    left_is : n < k → path_clash hash d n (leaves_of hash w b) (cut 32 path)
        ≡ option_and_then (λ told. or_below (node_bytes told side) (node_bytes l r) (path_clash hash d n (leaves_of hash w front) (cut 32 rest))) (fold hash d n k (cut 32 rest))
    left_is before =
        ap (path_clash hash d n (leaves_of hash w b)) (cut_last path rest side whole rest_is side_is some)
        ∙ path_clash_left hash d k n (leaves_of hash w b) (cut 32 rest) side split_leaves before
        ∙ ap₂ (λ t ds. option_and_then (λ told. or_below (node_bytes told side) t (path_clash hash d n ds (cut 32 rest))) (fold hash d n k (cut 32 rest))) top_is take-leaves

    right_is : k ≤ n → n < length b / w → path_clash hash d n (leaves_of hash w b) (cut 32 path)
        ≡ option_and_then (λ told. or_below (node_bytes side told) (node_bytes l r) (path_clash hash d (n - k) (leaves_of hash w back) (cut 32 rest))) (fold hash d (n - k) (length b / w - k) (cut 32 rest))
    right_is behind within =
        ap (path_clash hash d n (leaves_of hash w b)) (cut_last path rest side whole rest_is side_is some)
        ∙ path_clash_right hash d k n (leaves_of hash w b) (cut 32 rest) side split_leaves behind (omega (arith, length-leaves hash w b))
        ∙ ap₂ (λ t ds. option_and_then (λ told. or_below (node_bytes side told) t (path_clash hash d (n - k) ds (cut 32 rest))) (fold hash d (n - k) (length (leaves_of hash w b) - k) (cut 32 rest))) top_is drop-leaves
        ∙ ap (λ j. option_and_then (λ told. or_below (node_bytes side told) (node_bytes l r) (path_clash hash d (n - k) (leaves_of hash w back) (cut 32 rest))) (fold hash d (n - k) (j - k) (cut 32 rest))) (length-leaves hash w b)

    pub path_left_none : n < k → None ≡ fold hash d n k (cut 32 rest) → None ≡ path_clash hash d n (leaves_of hash w b) (cut 32 path)
    path_left_none before none = told_none _ (λ told. node_bytes told side) (node_bytes l r) (path_clash hash d n (leaves_of hash w front) (cut 32 rest)) (fold hash d n k (cut 32 rest)) (left_is before) none

    pub path_left_some : (told : List ℕ) (pair : List ℕ × List ℕ) → n < k → Some told ≡ fold hash d n k (cut 32 rest) → Some pair ≡ or_below (node_bytes told side) (node_bytes l r) None → Some pair ≡ path_clash hash d n (leaves_of hash w b) (cut 32 path)
    path_left_some told pair before there differ = told_some _ (λ x. node_bytes x side) (node_bytes l r) (path_clash hash d n (leaves_of hash w front) (cut 32 rest)) (fold hash d n k (cut 32 rest)) (left_is before) told pair there differ

    pub path_left_below : (told : List ℕ) (given : Option (List ℕ × List ℕ)) → n < k → Some told ≡ fold hash d n k (cut 32 rest) → None ≡ or_below (node_bytes told side) (node_bytes l r) None
        → given ≡ path_clash hash d n (leaves_of hash w front) (cut 32 rest) → given ≡ path_clash hash d n (leaves_of hash w b) (cut 32 path)
    path_left_below told given before there same later = told_below _ (λ x. node_bytes x side) (node_bytes l r) (path_clash hash d n (leaves_of hash w front) (cut 32 rest)) (fold hash d n k (cut 32 rest)) (left_is before) told given there same later

    pub path_right_none : k ≤ n → n < length b / w → None ≡ fold hash d (n - k) (length b / w - k) (cut 32 rest) → None ≡ path_clash hash d n (leaves_of hash w b) (cut 32 path)
    path_right_none behind within none = told_none _ (λ told. node_bytes side told) (node_bytes l r) (path_clash hash d (n - k) (leaves_of hash w back) (cut 32 rest)) (fold hash d (n - k) (length b / w - k) (cut 32 rest)) (right_is behind within) none

    pub path_right_some : (told : List ℕ) (pair : List ℕ × List ℕ) → k ≤ n → n < length b / w → Some told ≡ fold hash d (n - k) (length b / w - k) (cut 32 rest) → Some pair ≡ or_below (node_bytes side told) (node_bytes l r) None → Some pair ≡ path_clash hash d n (leaves_of hash w b) (cut 32 path)
    path_right_some told pair behind within there differ = told_some _ (λ x. node_bytes side x) (node_bytes l r) (path_clash hash d (n - k) (leaves_of hash w back) (cut 32 rest)) (fold hash d (n - k) (length b / w - k) (cut 32 rest)) (right_is behind within) told pair there differ

    pub path_right_below : (told : List ℕ) (given : Option (List ℕ × List ℕ)) → k ≤ n → n < length b / w → Some told ≡ fold hash d (n - k) (length b / w - k) (cut 32 rest) → None ≡ or_below (node_bytes side told) (node_bytes l r) None
        → given ≡ path_clash hash d (n - k) (leaves_of hash w back) (cut 32 rest) → given ≡ path_clash hash d n (leaves_of hash w b) (cut 32 path)
    path_right_below told given behind within there same later = told_below _ (λ x. node_bytes side x) (node_bytes l r) (path_clash hash d (n - k) (leaves_of hash w back) (cut 32 rest)) (fold hash d (n - k) (length b / w - k) (cut 32 rest)) (right_is behind within) told given there same later

  -- ---- a proof
  module _ (known : Bool) (old : List ℕ) (m : ℕ) (pos : 0 < m) where
    front_is : m ≤ k → sub_clash hash m known old (leaves_of hash w b) (cut 32 path)
        ≡ option_and_then (λ roots. or_below (node_bytes roots.1 side) (node_bytes l r) (sub_clash hash m known old (leaves_of hash w front) (cut 32 rest))) (ext hash m k known old (cut 32 rest))
    front_is before =
        ap (sub_clash hash m known old (leaves_of hash w b)) (cut_last path rest side whole rest_is side_is some)
        ∙ sub_clash_left hash old k m known (leaves_of hash w b) (cut 32 rest) side split_leaves pos before
        ∙ ap₂ (λ t ds. option_and_then (λ roots. or_below (node_bytes roots.1 side) t (sub_clash hash m known old ds (cut 32 rest))) (ext hash m k known old (cut 32 rest))) top_is take-leaves

    back_is : k < m → m < length b / w → sub_clash hash m known old (leaves_of hash w b) (cut 32 path)
        ≡ option_and_then (λ roots. or_below (node_bytes side roots.1) (node_bytes l r) (sub_clash hash (m - k) false old (leaves_of hash w back) (cut 32 rest))) (ext hash (m - k) (length b / w - k) false old (cut 32 rest))
    back_is behind within =
        ap (sub_clash hash m known old (leaves_of hash w b)) (cut_last path rest side whole rest_is side_is some)
        ∙ sub_clash_right hash old k m known (leaves_of hash w b) (cut 32 rest) side split_leaves pos behind (omega (arith, length-leaves hash w b))
        ∙ ap₂ (λ t ds. option_and_then (λ roots. or_below (node_bytes side roots.1) t (sub_clash hash (m - k) false old ds (cut 32 rest))) (ext hash (m - k) (length (leaves_of hash w b) - k) false old (cut 32 rest))) top_is drop-leaves
        ∙ ap (λ j. option_and_then (λ roots. or_below (node_bytes side roots.1) (node_bytes l r) (sub_clash hash (m - k) false old (leaves_of hash w back) (cut 32 rest))) (ext hash (m - k) (j - k) false old (cut 32 rest))) (length-leaves hash w b)

    pub proof_front_none : m ≤ k → None ≡ ext hash m k known old (cut 32 rest) → None ≡ sub_clash hash m known old (leaves_of hash w b) (cut 32 path)
    proof_front_none before none = told_none _ (λ roots. node_bytes roots.1 side) (node_bytes l r) (sub_clash hash m known old (leaves_of hash w front) (cut 32 rest)) (ext hash m k known old (cut 32 rest)) (front_is before) none

    pub proof_front_some : (roots pair : List ℕ × List ℕ) → m ≤ k → Some roots ≡ ext hash m k known old (cut 32 rest) → Some pair ≡ or_below (node_bytes roots.1 side) (node_bytes l r) None → Some pair ≡ sub_clash hash m known old (leaves_of hash w b) (cut 32 path)
    proof_front_some roots pair before there differ = told_some _ (λ x. node_bytes x.1 side) (node_bytes l r) (sub_clash hash m known old (leaves_of hash w front) (cut 32 rest)) (ext hash m k known old (cut 32 rest)) (front_is before) roots pair there differ

    pub proof_front_below : (roots : List ℕ × List ℕ) (given : Option (List ℕ × List ℕ)) → m ≤ k → Some roots ≡ ext hash m k known old (cut 32 rest) → None ≡ or_below (node_bytes roots.1 side) (node_bytes l r) None
        → given ≡ sub_clash hash m known old (leaves_of hash w front) (cut 32 rest) → given ≡ sub_clash hash m known old (leaves_of hash w b) (cut 32 path)
    proof_front_below roots given before there same later = told_below _ (λ x. node_bytes x.1 side) (node_bytes l r) (sub_clash hash m known old (leaves_of hash w front) (cut 32 rest)) (ext hash m k known old (cut 32 rest)) (front_is before) roots given there same later

    pub proof_back_none : k < m → m < length b / w → None ≡ ext hash (m - k) (length b / w - k) false old (cut 32 rest) → None ≡ sub_clash hash m known old (leaves_of hash w b) (cut 32 path)
    proof_back_none behind within none = told_none _ (λ roots. node_bytes side roots.1) (node_bytes l r) (sub_clash hash (m - k) false old (leaves_of hash w back) (cut 32 rest)) (ext hash (m - k) (length b / w - k) false old (cut 32 rest)) (back_is behind within) none

    pub proof_back_some : (roots pair : List ℕ × List ℕ) → k < m → m < length b / w → Some roots ≡ ext hash (m - k) (length b / w - k) false old (cut 32 rest) → Some pair ≡ or_below (node_bytes side roots.1) (node_bytes l r) None → Some pair ≡ sub_clash hash m known old (leaves_of hash w b) (cut 32 path)
    proof_back_some roots pair behind within there differ = told_some _ (λ x. node_bytes side x.1) (node_bytes l r) (sub_clash hash (m - k) false old (leaves_of hash w back) (cut 32 rest)) (ext hash (m - k) (length b / w - k) false old (cut 32 rest)) (back_is behind within) roots pair there differ

    pub proof_back_below : (roots : List ℕ × List ℕ) (given : Option (List ℕ × List ℕ)) → k < m → m < length b / w → Some roots ≡ ext hash (m - k) (length b / w - k) false old (cut 32 rest) → None ≡ or_below (node_bytes side roots.1) (node_bytes l r) None
        → given ≡ sub_clash hash (m - k) false old (leaves_of hash w back) (cut 32 rest) → given ≡ sub_clash hash m known old (leaves_of hash w b) (cut 32 path)
    proof_back_below roots given behind within there same later = told_below _ (λ x. node_bytes side x.1) (node_bytes l r) (sub_clash hash (m - k) false old (leaves_of hash w back) (cut 32 rest)) (ext hash (m - k) (length b / w - k) false old (cut 32 rest)) (back_is behind within) roots given there same later

module _ (hash : Hash) (w : ℕ) (b path : List ℕ) where
  -- one leaf has no node
  pub path_alone : (d : List ℕ) (n : ℕ) → length b / w ≡ 1 → path_clash hash d n (leaves_of hash w b) (cut 32 path) ≡ None
  path_alone d n one = path_clash_few hash d n (leaves_of hash w b) (cut 32 path) (omega (arith, length-leaves hash w b))

  -- no digest tells one
  pub path_without : (d : List ℕ) (n : ℕ) → length path < 32 → length path % 32 ≡ 0 → path_clash hash d n (leaves_of hash w b) (cut 32 path) ≡ None
  path_without d n few whole = ap (path_clash hash d n (leaves_of hash w b)) (cut_none path few whole) ∙ path_clash_none hash d n (leaves_of hash w b)

  pub proof_all : (m : ℕ) (known : Bool) (old : List ℕ) → m ≡ length b / w → sub_clash hash m known old (leaves_of hash w b) (cut 32 path) ≡ None
  proof_all m known old is = sub_clash_all hash old m known (leaves_of hash w b) (cut 32 path) (omega (arith, length-leaves hash w b))

  pub proof_without : (m : ℕ) (known : Bool) (old : List ℕ) → length path < 32 → length path % 32 ≡ 0 → sub_clash hash m known old (leaves_of hash w b) (cut 32 path) ≡ None
  proof_without m known old few whole = ap (sub_clash hash m known old (leaves_of hash w b)) (cut_none path few whole) ∙ sub_clash_none hash old m known (leaves_of hash w b)

  -- the digests of leaves have 32 bytes
  pub leaves_long : Makes hash → (xs : List (List ℕ)) → All (λ d. length d ≡ 32) (map (leaf hash) xs)
  leaves_long makes xs = All-map (λ d. length d ≡ 32) (leaf hash) xs (All-from_get_or (λ x. length (leaf hash x) ≡ 32) xs [] (λ i within. makes (0 ∷ get_or xs i [])))

  -- a path that folds another digest to the root clashes with the list
  pub path_shows : Makes hash → (d : List ℕ) (n : ℕ) → d ≢ get_or (leaves_of hash w b) n [] → fold_bytes hash d n (length b / w) path ≡ Some (mth hash (cut w b))
      → Clashes hash (path_clash hash d n (leaves_of hash w b) (cut 32 path))
  path_shows makes d n other gives =
      let whole : length path % 32 ≡ 0 = fold_bytes_even hash d n (length b / w) path (ap is_some gives) in
      path_clashes hash makes d n (leaves_of hash w b) (cut 32 path) (leaves_long makes (cut w b)) (cut-width 32 path) other
      (ap (λ j. fold hash d n j (cut 32 path)) (length-leaves hash w b) ∙ sym (fold_bytes_whole hash d n (length b / w) path whole) ∙ gives)

  -- a proof that folds another old root to the root does
  pub proof_shows : Makes hash → (m : ℕ) (old : List ℕ) → old ≢ mth hash (take m (cut w b)) → fold_proof_bytes hash m old (length b / w) path ≡ Some (mth hash (cut w b))
      → Clashes hash (proof_clash hash m old (leaves_of hash w b) (cut 32 path))
  proof_shows makes m old other gives =
      let whole : length path % 32 ≡ 0 = fold_proof_even hash m old (length b / w) path (ap is_some gives) in
      proof_clashes hash makes old m (leaves_of hash w b) (cut 32 path) (leaves_long makes (cut w b)) (cut-width 32 path)
      (λ is. other (is ∙ ap (root hash) (take-map (leaf hash) m (cut w b))))
      (ap (λ j. fold_proof hash m old j (cut 32 path)) (length-leaves hash w b) ∙ sym (fold_proof_whole hash m old (length b / w) path whole) ∙ gives)

-- the pair that is found is the one that clashes
pub is_clash : (hash : Hash) (found : Option (List ℕ × List ℕ)) (pair : List ℕ × List ℕ) → Some pair ≡ found → Clashes hash found → IsClash hash pair.0 pair.1
is_clash hash found pair e s =
    let both : Some s.0 ≡ Some pair = sym s.1 ∙ sym e in
    let same : s.0 ≡ pair = cc in
    subst (λ (x : List ℕ × List ℕ). IsClash hash x.0 x.1) same s.2

-- where one clashes one is found
pub not_none : (hash : Hash) (found : Option (List ℕ × List ℕ)) → None ≡ found → Clashes hash found → ⊥
not_none hash found e s = let never : None ≡ Some s.0 = e ∙ s.1 in absurd cc

-- What a path tells otherwise than a list, by splits, and that it clashes where it gives the list's root from another
-- digest than the leaf's.
use Rattle.std.proofs.Common.{◌≡◌, ◌≢◌, ◌⊎◌, ℕ, zero, suc, ◌+◌, ◌-◌, ◌^◌, ◌<◌, ◌≤◌, inl, inr, List, [], ◌∷◌, ◌++◌, length, get_or, take, drop, reverse, All, Option, Some, None, refl, sym, ap, ◌∙◌, subst, arith, le-leb, length-take, length-drop, length-append, take_at, drop_at}
use Rattle.std.specs.Prelude.{option_map, option_and_then, is_some}
use Rattle.std.specs.Str.{bytes_eq}
use Rattle.std.proofs.lemmas.Bool.{cases_lt, cases_Bool, lt-leb, lt-ltb, le-ltb, false≢true}
use Rattle.std.proofs.lemmas.List.{reverse-append, get_or-take, get_or-drop}
use Rattle.std.proofs.lemmas.List.Elements.{All-head, All-pop, All-take, All-drop}
use Rattle.std.proofs.lemmas.Slice.Eq.{bytes_eq-Decides}
use Rattle.tree_model.specs.Tree.{Hash, node, root_at, root, IsSplit}
use Rattle.tree_model.specs.Path.{fold}
use Rattle.tree_model.specs.Clash.{Clashes, node_bytes, or_below, path_clash_at, path_clash}
use Rattle.tree_model.proofs.Splits.{pow_mono, le_pow, by_split}
use Rattle.tree_model.proofs.Levels.{root_enough, root_one, root_split}
use Rattle.tree_model.proofs.Folds.{fold_one, fold_long, fold_short, fold_left, fold_right, fold_enough, fold_within}
use Rattle.tree_model.proofs.Extensions.{held, more, fits_front, fits_back}

-- each digest that a hash makes has 32 bytes
abbrev pub Makes : Hash → Type 0
Makes hash = (bytes : List ℕ) → length (hash bytes) ≡ 32

-- each of some digests has
abbrev pub AreDigests : List (List ℕ) → Type 0
AreDigests ds = All (λ d. length d ≡ 32) ds

-- ---- the strings of a node

-- two strings of nodes are one where both parts are
pub parts_of : (a b x y : List ℕ) → length a ≡ length b → node_bytes a x ≡ node_bytes b y → (a ≡ b) × (x ≡ y)
parts_of a b x y len e =
    let tails : a ++ x ≡ b ++ y = cc in
    let first : a ≡ b = sym (take_at a x (length a) refl) ∙ ap (take (length a)) tails ∙ take_at b y (length a) (sym len) in
    let second : x ≡ y = sym (drop_at a x (length a) refl) ∙ ap (drop (length a)) tails ∙ drop_at b y (length a) (sym len) in
    (first, second)

-- the parts in front are as long as one another where those behind are
pub front_long : (a b x y : List ℕ) → length x ≡ length y → node_bytes a x ≡ node_bytes b y → length a ≡ length b
front_long a b x y len e = omega (arith, length-append a x, length-append b y, ap length e)

-- where they differ they are what is found
pub or_told : (told truth : List ℕ) (below : Option (List ℕ × List ℕ)) → told ≢ truth → or_below told truth below ≡ Some (told, truth)
or_told told truth below other = elim (cases_Bool (bytes_eq told truth)) [
  | inl same ↦ absurd (other ((bytes_eq-Decides told truth).0 same))
  | inr differ ↦ rw differ refl
]

-- else it is what is below
pub or_next : (told truth : List ℕ) (below : Option (List ℕ × List ℕ)) → told ≡ truth → or_below told truth below ≡ below
or_next told truth below same = rw ((bytes_eq-Decides told truth).1 same) refl

-- two strings with one digest either differ, or what is below clashes
pub shown : (hash : Hash) (told truth : List ℕ) (below : Option (List ℕ × List ℕ)) → hash told ≡ hash truth → (told ≡ truth → Clashes hash below) → Clashes hash (or_below told truth below)
shown hash told truth below one later = elim (cases_Bool (bytes_eq told truth)) [
  | inl same ↦ rw same (later ((bytes_eq-Decides told truth).0 same))
  | inr other ↦
      let differ : told ≢ truth = λ e. false≢true (sym other ∙ (bytes_eq-Decides told truth).1 e) in
      rw other ((told, truth), refl, record { differ = differ; one_digest = one })
]

-- ---- the end of a list

-- no digests, or some and a last one
abbrev pub Ends : List (List ℕ) → Type 0
Ends p = (p ≡ []) ⊎ ((q : List (List ℕ)) × (s : List ℕ) × (p ≡ q ++ s ∷ []))

pub ends : (p : List (List ℕ)) → Ends p
ends [] = inl refl
ends (x ∷ p) = elim (ends p) [
  | inl none ↦ inr ([], x, ap (λ t. x ∷ t) none)
  | inr some ↦ inr (x ∷ some.0, some.1, ap (λ t. x ∷ t) some.2)
]

-- what was rewritten
pub some_map : {A B : Type 0} (f : A → B) (o : Option A) (y : B) → option_map f o ≡ Some y → (x : A) × (o ≡ Some x) × (f x ≡ y)
some_map f None y e = absurd cc
some_map f (Some x) y e = (x, refl, cc)

-- ---- paths

module _ (hash : Hash) (d : List ℕ) where
  -- a level that is not needed changes nothing
  path_clash_same : (h n : ℕ) (ds p : List (List ℕ)) → length ds ≤ 2 ^ h → path_clash_at hash (suc h) d n ds p ≡ path_clash_at hash h d n ds p
  unfolding path_clash_at
  path_clash_same zero n ds [] fits = refl
  path_clash_same (suc h) n ds [] fits = refl
  path_clash_same h n ds (s ∷ p) fits = rw (le-leb (length ds) (2 ^ h) fits) refl

  -- more levels than hold the leaves change nothing
  path_clash_up : (g h n : ℕ) (ds p : List (List ℕ)) → h ≤ g → length ds ≤ 2 ^ h → path_clash_at hash g d n ds p ≡ path_clash_at hash h d n ds p
  path_clash_up zero h n ds p le fits = ap (λ l. path_clash_at hash l d n ds p) (omega arith)
  path_clash_up (suc g) h n ds p le fits = elim (cases_lt g h) [
    | inl above ↦ ap (λ l. path_clash_at hash l d n ds p) (omega arith)
    | inr within ↦ path_clash_same g n ds p (omega (arith, pow_mono h g within)) ∙ path_clash_up g h n ds p within fits
  ]

  -- the pair at any number of levels that hold the leaves
  pub path_clash_enough : (h n : ℕ) (ds p : List (List ℕ)) → length ds ≤ 2 ^ h → path_clash_at hash h d n ds (reverse p) ≡ path_clash hash d n ds p
  unfolding path_clash
  path_clash_enough h n ds p fits = elim (cases_lt h (length ds)) [
    | inl below ↦ sym (path_clash_up (length ds) h n ds (reverse p) (omega arith) fits)
    | inr above ↦ path_clash_up h (length ds) n ds (reverse p) above (le_pow (length ds))
  ]

  -- there is none along no digest
  path_clash_at_none : (h n : ℕ) (ds : List (List ℕ)) → path_clash_at hash h d n ds [] ≡ None
  unfolding path_clash_at
  path_clash_at_none zero n ds = refl
  path_clash_at_none (suc h) n ds = refl

  pub path_clash_none : (n : ℕ) (ds : List (List ℕ)) → path_clash hash d n ds [] ≡ None
  unfolding path_clash
  path_clash_none n ds = path_clash_at_none (length ds) n ds

  -- nor of one leaf
  pub path_clash_few : (n : ℕ) (ds p : List (List ℕ)) → length ds ≤ 1 → path_clash hash d n ds p ≡ None
  path_clash_few n ds p few = sym (path_clash_enough 0 n ds p few) ∙ unfold path_clash_at in refl

  module _ (k n : ℕ) (ds p : List (List ℕ)) (side : List ℕ) (s : IsSplit k (length ds)) where
    -- the string of the list's highest node
    abbrev pub top : List ℕ
    top = node_bytes (root hash (take k ds)) (root hash (drop k ds))

    -- in front of the split: the strings of the highest node, or what is found in the part in front
    pub path_clash_left : n < k → path_clash hash d n ds (p ++ side ∷ [])
        ≡ option_and_then (λ left. or_below (node_bytes left side) top (path_clash hash d n (take k ds) p)) (fold hash d n k p)
    unfolding path_clash_at
    path_clash_left front =
        let h = s.level in
        let low : n < 2 ^ h = omega (arith, s.power) in
        sym (path_clash_enough (suc h) n ds (p ++ side ∷ []) (held k (length ds) s))
        ∙ rw (
          reverse-append p (side ∷ []),
          lt-leb (length ds) (2 ^ h) (more k (length ds) s),
          lt-ltb n (2 ^ h) low,
          fold_enough hash d h n (2 ^ h) p low (omega arith),
          root_enough hash h (take (2 ^ h) ds) (fits_front hash k n ds s),
          root_enough hash h (drop (2 ^ h) ds) (fits_back hash k n ds s),
          path_clash_enough h n (take (2 ^ h) ds) p (fits_front hash k n ds s),
        )
        (ap (λ j. option_and_then (λ left. or_below (node_bytes left side) (node_bytes (root hash (take j ds)) (root hash (drop j ds))) (path_clash hash d n (take j ds) p)) (fold hash d n j p)) (sym s.power))

    -- behind it: or what is found in the part behind
    pub path_clash_right : k ≤ n → n < length ds → path_clash hash d n ds (p ++ side ∷ [])
        ≡ option_and_then (λ right. or_below (node_bytes side right) top (path_clash hash d (n - k) (drop k ds) p)) (fold hash d (n - k) (length ds - k) p)
    unfolding path_clash_at
    path_clash_right back within =
        let h = s.level in
        let high : 2 ^ h ≤ n = omega (arith, s.power) in
        sym (path_clash_enough (suc h) n ds (p ++ side ∷ []) (held k (length ds) s))
        ∙ rw (
          reverse-append p (side ∷ []),
          lt-leb (length ds) (2 ^ h) (more k (length ds) s),
          le-ltb n (2 ^ h) high,
          fold_enough hash d h (n - 2 ^ h) (length ds - 2 ^ h) p (omega arith) (omega (arith, s.power, s.half)),
          root_enough hash h (take (2 ^ h) ds) (fits_front hash k n ds s),
          root_enough hash h (drop (2 ^ h) ds) (fits_back hash k n ds s),
          path_clash_enough h (n - 2 ^ h) (drop (2 ^ h) ds) p (fits_back hash k n ds s),
        )
        (ap (λ j. option_and_then (λ right. or_below (node_bytes side right) (node_bytes (root hash (take j ds)) (root hash (drop j ds))) (path_clash hash d (n - j) (drop j ds) p)) (fold hash d (n - j) (length ds - j) p)) (sym s.power))

module _ (hash : Hash) (makes : Makes hash) where
  -- the root over some digests is one
  RootLong : ℕ → Type 0
  RootLong n = (ds : List (List ℕ)) → length ds ≡ n → AreDigests ds → length (root hash ds) ≡ 32

  root_long_one : RootLong 1
  unfolding RootLong root root_at
  root_long_one [] len all = absurd (omega arith)
  root_long_one (d ∷ []) len all = All-head (λ x. length x ≡ 32) d [] all
  root_long_one (d ∷ e ∷ ds) len all = absurd (omega arith)

  root_long_more : (n k : ℕ) → 1 < n → 0 < k → IsSplit k n → RootLong k → RootLong (n - k) → RootLong n
  unfolding RootLong
  root_long_more n k many pos s low high ds len all = rw (root_split hash k ds (subst (IsSplit k) (sym len) s)) (makes _)

  pub root_long : (ds : List (List ℕ)) → 0 < length ds → AreDigests ds → length (root hash ds) ≡ 32
  unfolding RootLong
  root_long ds some all = by_split RootLong root_long_one root_long_more (length ds) some ds refl all

  -- a path that gives the root of a list from another digest than the leaf's clashes with the list
  PathClashes : ℕ → Type 0
  PathClashes size = (d : List ℕ) (n : ℕ) (ds p : List (List ℕ)) → length ds ≡ size → n < size → AreDigests ds → AreDigests p
      → d ≢ get_or ds n [] → fold hash d n size p ≡ Some (root hash ds) → Clashes hash (path_clash hash d n ds p)

  path_clashes_one : PathClashes 1
  unfolding PathClashes
  path_clashes_one d n [] p len within all each other e = absurd (omega arith)
  path_clashes_one d n (x ∷ []) p len within all each other e =
      let first : n ≡ 0 = omega arith in
      let e0 : fold hash d 0 1 p ≡ Some x = ap (λ j. fold hash d j 1 p) (sym first) ∙ e ∙ ap Some (root_one hash x) in
      let differs : d ≢ x = λ is. other (is ∙ ap (λ j. get_or (x ∷ []) j []) (sym first)) in
      absurd (elim (ends p) [
        | inl none ↦
            let same : Some d ≡ Some x = sym (fold_one hash d) ∙ ap (fold hash d 0 1) (sym none) ∙ e0 in
            let is : d ≡ x = cc in
            differs is
        | inr q ↦ let never : None ≡ Some x = sym (fold_long hash d q.1 q.0) ∙ ap (fold hash d 0 1) (sym q.2) ∙ e0 in cc
      ])
  path_clashes_one d n (x ∷ y ∷ ds) p len within all each other e = absurd (omega arith)

  path_clashes_more : (size k : ℕ) → 1 < size → 0 < k → IsSplit k size → PathClashes k → PathClashes (size - k) → PathClashes size
  unfolding PathClashes
  path_clashes_more size k many pos s low high d n ds p len within all each other e =
      let t : IsSplit k (length ds) = subst (IsSplit k) (sym len) s in
      let front : length (take k ds) ≡ k = omega (arith, length-take k ds, t.below) in
      let back : length (drop k ds) ≡ size - k = omega (arith, length-drop k ds) in
      let below : k < size = s.below in
      let l = root hash (take k ds) in
      let r = root hash (drop k ds) in
      let left_long : length l ≡ 32 = root_long (take k ds) (omega arith) (All-take (λ x. length x ≡ 32) k ds all) in
      let right_long : length r ≡ 32 = root_long (drop k ds) (omega arith) (All-drop (λ x. length x ≡ 32) k ds all) in
      let whole : root hash ds ≡ node hash l r = root_split hash k ds t in
      elim (ends p) [
        | inl none ↦ absurd (let never : None ≡ Some (root hash ds) = sym (fold_short hash d n size many) ∙ ap (fold hash d n size) (sym none) ∙ e in cc)
        | inr q ↦
            let digests = All-pop (λ x. length x ≡ 32) p q.0 (Some q.1) q.2 each in
            let side_long : length q.1 ≡ 32 = digests.1 in
            elim (cases_lt n k) [
              | inl before ↦
                  let m = some_map (λ x. node hash x q.1) (fold hash d n k q.0) (root hash ds) (sym (fold_left hash d k n size q.1 q.0 s before) ∙ ap (fold hash d n size) (sym q.2) ∙ e) in
                  let other_front : d ≢ get_or (take k ds) n [] = λ is. other (is ∙ get_or-take k ds n [] before) in
                  let found : Clashes hash (or_below (node_bytes m.0 q.1) (node_bytes l r) (path_clash hash d n (take k ds) q.0)) =
                  shown hash (node_bytes m.0 q.1) (node_bytes l r) (path_clash hash d n (take k ds) q.0) (m.2 ∙ whole)
                  (λ same. low d n (take k ds) q.0 front before (All-take (λ x. length x ≡ 32) k ds all) digests.0 other_front (m.1 ∙ ap Some (parts_of m.0 l q.1 r (front_long m.0 l q.1 r (side_long ∙ sym right_long) same) same).0)) in
                  rw (q.2, path_clash_left hash d k n ds q.0 q.1 t before, m.1) found
              | inr behind ↦
                  let m = some_map (λ x. node hash q.1 x) (fold hash d (n - k) (size - k) q.0) (root hash ds) (sym (fold_right hash d k n size q.1 q.0 s behind) ∙ ap (fold hash d n size) (sym q.2) ∙ e) in
                  let place : k + (n - k) ≡ n = omega arith in
                  let other_back : d ≢ get_or (drop k ds) (n - k) [] = λ is. other (is ∙ get_or-drop k ds (n - k) [] ∙ ap (λ i. get_or ds i []) place) in
                  let rest : length ds - k ≡ size - k = omega arith in
                  let found : Clashes hash (or_below (node_bytes q.1 m.0) (node_bytes l r) (path_clash hash d (n - k) (drop k ds) q.0)) =
                  shown hash (node_bytes q.1 m.0) (node_bytes l r) (path_clash hash d (n - k) (drop k ds) q.0) (m.2 ∙ whole)
                  (λ same. high d (n - k) (drop k ds) q.0 back (omega arith) (All-drop (λ x. length x ≡ 32) k ds all) digests.0 other_back (m.1 ∙ ap Some (parts_of q.1 l m.0 r (side_long ∙ sym left_long) same).1)) in
                  rw (q.2, path_clash_right hash d k n ds q.0 q.1 t behind (omega arith), rest, m.1) found
            ]
      ]

  pub path_clashes : (d : List ℕ) (n : ℕ) (ds p : List (List ℕ)) → AreDigests ds → AreDigests p
      → d ≢ get_or ds n [] → fold hash d n (length ds) p ≡ Some (root hash ds) → Clashes hash (path_clash hash d n ds p)
  unfolding PathClashes
  path_clashes d n ds p all each other e =
      let within : n < length ds = fold_within hash d n (length ds) p (ap is_some e) in
      by_split PathClashes path_clashes_one path_clashes_more (length ds) (omega arith) d n ds p refl within all each other e

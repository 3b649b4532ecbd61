-- Proofs that one tree is the beginning of another do not depend on the number of levels, split where the RFC says, and
-- give both roots.
use Rattle.std.proofs.Common.{◌≡◌, ℕ, zero, suc, ◌+◌, ◌-◌, ◌^◌, ◌<◌, ◌≤◌, Bool, true, false, cond, inl, inr, eqb, List, [], ◌∷◌, ◌++◌, length, take, drop, reverse, Some, None, refl, sym, ap, ap₂, ◌∙◌, subst, arith, le-leb, length-take, length-drop}
use Rattle.std.specs.Prelude.{option_map, is_some}
use Rattle.std.proofs.lemmas.Bool.{cases_lt, lt-leb, lt-ltb, ne_eqb, eq-eqb, eqb-true, false≢true}
use Rattle.std.proofs.lemmas.List.{reverse-append, length-reverse, take_all, take-take, drop-take}
use Rattle.std.proofs.Math.Dec.{eqb-suc-suc}
use Rattle.tree_model.specs.Tree.{Hash, node, root, IsSplit}
use Rattle.tree_model.specs.Extension.{sub_at, sub, sub_length_at, sub_length, both, ext_at, ext}
use Rattle.tree_model.proofs.Splits.{pow_twice, pow_mono, le_pow, split_of, by_split}
use Rattle.tree_model.proofs.Levels.{root_enough, root_split}
use Rattle.tree_model.proofs.Folds.{is_some-map}

-- what a split says of its level
module _ (k n : ℕ) (s : IsSplit k n) where
  -- all leaves fit into one level more
  pub held : n ≤ 2 ^ suc s.level
  held = omega (arith, pow_twice s.level, s.power, s.half)

  -- and not into its own
  pub more : 2 ^ s.level < n
  more = omega (arith, s.power, s.below)

module _ (hash : Hash) (known : Bool) where
  -- a level that is not needed changes nothing
  pub sub_at_same : (h m : ℕ) (ds : List (List ℕ)) → length ds ≤ 2 ^ h → sub_at hash (suc h) m known ds ≡ sub_at hash h m known ds
  unfolding sub_at
  sub_at_same h m ds fits = rw (le-leb (length ds) (2 ^ h) fits) refl

  -- more levels than hold the leaves change nothing
  sub_up : (g h m : ℕ) (ds : List (List ℕ)) → h ≤ g → length ds ≤ 2 ^ h → sub_at hash g m known ds ≡ sub_at hash h m known ds
  sub_up zero h m ds le fits = ap (λ l. sub_at hash l m known ds) (omega arith)
  sub_up (suc g) h m ds le fits = elim (cases_lt g h) [
    | inl above ↦ ap (λ l. sub_at hash l m known ds) (omega arith)
    | inr within ↦ sub_at_same g m ds (omega (arith, pow_mono h g within)) ∙ sub_up g h m ds within fits
  ]

  -- the digests at any number of levels that hold the leaves
  pub sub_enough : (h m : ℕ) (ds : List (List ℕ)) → length ds ≤ 2 ^ h → sub_at hash h m known ds ≡ sub hash m known ds
  unfolding sub
  sub_enough h m ds fits = elim (cases_lt h (length ds)) [
    | inl below ↦ sym (sub_up (length ds) h m ds (omega arith) fits)
    | inr above ↦ sub_up h (length ds) m ds above (le_pow (length ds))
  ]

  -- of all leaves: their root, where it is not known
  pub sub_all : (m : ℕ) (ds : List (List ℕ)) → length ds ≤ m → sub hash m known ds ≡ cond known [] (root hash ds ∷ [])
  unfolding sub_at
  sub_all m ds le = elim (cases_lt 1 (length ds)) [
    | inr few ↦ sym (sub_enough 0 m ds few) ∙ ap (λ r. cond known [] (r ∷ [])) (root_enough hash 0 ds few)
    | inl many ↦
        let s = split_of (length ds) many in
        let h = s.1.level in
        let fits : length ds ≤ 2 ^ suc h = held s.0 (length ds) s.1 in
        sym (sub_enough (suc h) m ds fits)
        ∙ rw (lt-leb (length ds) (2 ^ h) (more s.0 (length ds) s.1), le-leb (length ds) m le) (ap (λ r. cond known [] (r ∷ [])) (root_enough hash (suc h) ds fits))
  ]

module _ (hash : Hash) (k m : ℕ) (ds : List (List ℕ)) (s : IsSplit k (length ds)) where
  -- the part in front fits into the split's level
  pub fits_front : length (take (2 ^ s.level) ds) ≤ 2 ^ s.level
  fits_front = omega (arith, length-take (2 ^ s.level) ds)

  -- the part behind does
  pub fits_back : length (drop (2 ^ s.level) ds) ≤ 2 ^ s.level
  fits_back = omega (arith, length-drop (2 ^ s.level) ds, s.power, s.half)

  -- up to the split: the digests of the part in front, and the root of the part behind
  pub sub_left : (known : Bool) → m ≤ k → sub hash m known ds ≡ sub hash m known (take k ds) ++ root hash (drop k ds) ∷ []
  unfolding sub_at
  sub_left known front =
      let h = s.level in
      let part : m < length ds = omega (arith, s.below) in
      let side : m ≤ 2 ^ h = omega (arith, s.power) in
      sym (sub_enough hash known (suc h) m ds (held k (length ds) s))
      ∙ rw (lt-leb (length ds) (2 ^ h) (more k (length ds) s), lt-leb (length ds) m part, le-leb m (2 ^ h) side)
      (ap₂ (λ p r. p ++ r ∷ []) (sub_enough hash known h m (take (2 ^ h) ds) fits_front) (root_enough hash h (drop (2 ^ h) ds) fits_back)
      ∙ ap (λ j. sub hash m known (take j ds) ++ root hash (drop j ds) ∷ []) (sym s.power))

  -- behind it: the digests of the part behind, of which nothing is known, and the root of the part in front
  pub sub_right : (known : Bool) → k < m → m < length ds → sub hash m known ds ≡ sub hash (m - k) false (drop k ds) ++ root hash (take k ds) ∷ []
  unfolding sub_at
  sub_right known behind part =
      let h = s.level in
      let side : 2 ^ h < m = omega (arith, s.power) in
      sym (sub_enough hash known (suc h) m ds (held k (length ds) s))
      ∙ rw (lt-leb (length ds) (2 ^ h) (more k (length ds) s), lt-leb (length ds) m part, lt-leb m (2 ^ h) side)
      (ap₂ (λ p r. p ++ r ∷ []) (sub_enough hash false h (m - 2 ^ h) (drop (2 ^ h) ds) fits_back) (root_enough hash h (take (2 ^ h) ds) fits_front)
      ∙ ap (λ j. sub hash (m - j) false (drop j ds) ++ root hash (take j ds) ∷ []) (sym s.power))

-- the known root stands along no digest
pub both_some : (old : List ℕ) (p : List (List ℕ)) → 0 < length p → both true old p ≡ None
unfolding both
both_some old [] some = absurd (omega arith)
both_some old (d ∷ p) some = refl

-- two digests are one root in no case
pub both_more : (known : Bool) (old : List ℕ) (p : List (List ℕ)) → 1 < length p → both known old p ≡ None
unfolding both
both_more known old [] some = absurd (omega arith)
both_more known old (d ∷ []) some = absurd (omega arith)
both_more true old (d ∷ e ∷ p) some = refl
both_more false old (d ∷ e ∷ p) some = refl

-- one digest or none stand in either order
both-reverse : (known : Bool) (old : List ℕ) (p : List (List ℕ)) → both known old (reverse p) ≡ both known old p
both-reverse known old [] = refl
both-reverse known old (d ∷ []) = refl
both-reverse true old (d ∷ e ∷ p) = both_more true old (reverse (d ∷ e ∷ p)) (omega (arith, length-reverse (d ∷ e ∷ p))) ∙ sym (both_more true old (d ∷ e ∷ p) (omega arith))
both-reverse false old (d ∷ e ∷ p) = both_more false old (reverse (d ∷ e ∷ p)) (omega (arith, length-reverse (d ∷ e ∷ p))) ∙ sym (both_more false old (d ∷ e ∷ p) (omega arith))

module _ (hash : Hash) (known : Bool) (old : List ℕ) where
  -- a level that is not needed changes nothing
  ext_at_same : (h m size : ℕ) (p : List (List ℕ)) → size ≤ 2 ^ h → ext_at hash (suc h) m size known old p ≡ ext_at hash h m size known old p
  unfolding ext_at
  ext_at_same h m size [] fits = rw (le-leb size (2 ^ h) fits) refl
  ext_at_same h m size (s ∷ p) fits = rw (le-leb size (2 ^ h) fits) refl

  -- of all leaves
  ext_at_all : (h m size : ℕ) (p : List (List ℕ)) → 2 ^ h < size → size ≤ m → ext_at hash (suc h) m size known old p ≡ both known old p
  unfolding ext_at
  ext_at_all h m size [] many le = rw (lt-leb size (2 ^ h) many, le-leb size m le) refl
  ext_at_all h m size (s ∷ p) many le = rw (lt-leb size (2 ^ h) many, le-leb size m le) refl

  -- a level that is needed wants a digest
  ext_at_short : (h m size : ℕ) → 2 ^ h < size → m < size → ext_at hash (suc h) m size known old [] ≡ None
  unfolding ext_at
  ext_at_short h m size many part = rw (lt-leb size (2 ^ h) many, lt-leb size m part) refl

  -- up to the split that digest stands behind
  ext_at_left : (h m size : ℕ) (s : List ℕ) (p : List (List ℕ)) → 2 ^ h < size → m ≤ 2 ^ h → ext_at hash (suc h) m size known old (s ∷ p) ≡ option_map (λ roots. (roots.0, node hash roots.1 s)) (ext_at hash h m (2 ^ h) known old p)
  unfolding ext_at
  ext_at_left h m size s p many front = let part : m < size = omega arith in rw (lt-leb size (2 ^ h) many, lt-leb size m part, le-leb m (2 ^ h) front) refl

  -- behind the split it stands in front
  ext_at_right : (h m size : ℕ) (s : List ℕ) (p : List (List ℕ)) → 2 ^ h < m → m < size → ext_at hash (suc h) m size known old (s ∷ p) ≡ option_map (λ roots. (node hash s roots.0, node hash s roots.1)) (ext_at hash h (m - 2 ^ h) (size - 2 ^ h) false old p)
  unfolding ext_at
  ext_at_right h m size s p behind part = let many : 2 ^ h < size = omega arith in rw (lt-leb size (2 ^ h) many, lt-leb size m part, lt-leb m (2 ^ h) behind) refl

  -- more levels than hold the leaves change nothing
  ext_up : (g h m size : ℕ) (p : List (List ℕ)) → h ≤ g → size ≤ 2 ^ h → ext_at hash g m size known old p ≡ ext_at hash h m size known old p
  ext_up zero h m size p le fits = ap (λ l. ext_at hash l m size known old p) (omega arith)
  ext_up (suc g) h m size p le fits = elim (cases_lt g h) [
    | inl above ↦ ap (λ l. ext_at hash l m size known old p) (omega arith)
    | inr within ↦ ext_at_same g m size p (omega (arith, pow_mono h g within)) ∙ ext_up g h m size p within fits
  ]

  -- the roots at any number of levels that hold the leaves
  pub ext_enough : (h m size : ℕ) (p : List (List ℕ)) → 0 < m → m ≤ size → size ≤ 2 ^ h → ext_at hash h m size known old (reverse p) ≡ ext hash m size known old p
  unfolding ext
  ext_enough h m size p some le fits = rw (lt-ltb 0 m some, le-leb m size le) (elim (cases_lt h size) [
    | inl below ↦ sym (ext_up size h m size (reverse p) (omega arith) fits)
    | inr above ↦ ext_up h size m size (reverse p) above (le_pow size)
  ])

  -- no leaves have no root that is extended
  pub ext_none : (size : ℕ) (p : List (List ℕ)) → ext hash 0 size known old p ≡ None
  unfolding ext
  ext_none size p = refl

  -- nor have more than there are
  pub ext_beyond : (m size : ℕ) (p : List (List ℕ)) → size < m → ext hash m size known old p ≡ None
  unfolding ext
  ext_beyond m size p beyond = let some : 0 < m = omega arith in rw (lt-ltb 0 m some, lt-leb m size beyond) refl

  -- of all leaves
  pub ext_all : (size : ℕ) (p : List (List ℕ)) → 0 < size → ext hash size size known old p ≡ both known old p
  unfolding ext_at
  ext_all size p some = elim (cases_lt 1 size) [
    | inr few ↦ sym (ext_enough 0 size size p some (omega arith) few) ∙ both-reverse known old p
    | inl many ↦
        let s = split_of size many in
        sym (ext_enough (suc s.1.level) size size p some (omega arith) (held s.0 size s.1))
        ∙ ext_at_all s.1.level size size (reverse p) (more s.0 size s.1) (omega arith) ∙ both-reverse known old p
  ]

  -- fewer leaves are not extended without a digest
  pub ext_short : (m size : ℕ) → m < size → ext hash m size known old [] ≡ None
  ext_short m size part = elim (cases_lt 0 m) [
    | inr none ↦ ap (λ j. ext hash j size known old []) (omega arith) ∙ ext_none size []
    | inl some ↦
        let s = split_of size (omega arith) in
        sym (ext_enough (suc s.1.level) m size [] some (omega arith) (held s.0 size s.1))
        ∙ ext_at_short s.1.level m size (more s.0 size s.1) part
  ]

module _ (hash : Hash) (k m size : ℕ) (known : Bool) (old side : List ℕ) (p : List (List ℕ)) (s : IsSplit k size) where
  -- up to the split: the old root of the part in front, and a node over its new root and the last digest
  pub ext_left : m ≤ k → ext hash m size known old (p ++ side ∷ []) ≡ option_map (λ roots. (roots.0, node hash roots.1 side)) (ext hash m k known old p)
  ext_left front = elim (cases_lt 0 m) [
    | inr none ↦
        let at : m ≡ 0 = omega arith in
        rw at (ext_none hash known old size (p ++ side ∷ []) ∙ sym (ap (option_map (λ roots. (roots.0, node hash roots.1 side))) (ext_none hash known old k p)))
    | inl some ↦
        let h = s.level in
        sym (ext_enough hash known old (suc h) m size (p ++ side ∷ []) some (omega (arith, s.below)) (held k size s))
        ∙ ap (ext_at hash (suc h) m size known old) (reverse-append p (side ∷ []))
        ∙ ext_at_left hash known old h m size side (reverse p) (more k size s) (omega (arith, s.power))
        ∙ ap (λ j. option_map (λ roots. (roots.0, node hash roots.1 side)) (ext_at hash h m j known old (reverse p))) (sym s.power)
        ∙ ap (option_map (λ roots. (roots.0, node hash roots.1 side))) (ext_enough hash known old h m k p some front (omega (arith, s.power)))
  ]

  -- behind it: nodes over the last digest and both roots of the part behind, of which nothing is known
  pub ext_right : k < m → m < size → ext hash m size known old (p ++ side ∷ []) ≡ option_map (λ roots. (node hash side roots.0, node hash side roots.1)) (ext hash (m - k) (size - k) false old p)
  ext_right behind part =
      let h = s.level in
      sym (ext_enough hash known old (suc h) m size (p ++ side ∷ []) (omega arith) (omega arith) (held k size s))
      ∙ ap (ext_at hash (suc h) m size known old) (reverse-append p (side ∷ []))
      ∙ ext_at_right hash known old h m size side (reverse p) (omega (arith, s.power)) part
      ∙ ap (λ j. option_map (λ roots. (node hash side roots.0, node hash side roots.1)) (ext_at hash h (m - j) (size - j) false old (reverse p))) (sym s.power)
      ∙ ap (option_map (λ roots. (node hash side roots.0, node hash side roots.1))) (ext_enough hash false old h (m - k) (size - k) p (omega arith) (omega arith) (omega (arith, s.power, s.half)))

-- ---- how many digests

-- a level that is not needed adds no digest
sub_length_at_same : (known : Bool) (h m size : ℕ) → size ≤ 2 ^ h → sub_length_at (suc h) m known size ≡ sub_length_at h m known size
unfolding sub_length_at
sub_length_at_same known h m size fits = rw (le-leb size (2 ^ h) fits) refl

-- of all leaves there is one at most
sub_length_at_all : (known : Bool) (h m size : ℕ) → 2 ^ h < size → size ≤ m → sub_length_at (suc h) m known size ≡ cond known 0 1
unfolding sub_length_at
sub_length_at_all known h m size many le = rw (lt-leb size (2 ^ h) many, le-leb size m le) refl

-- a level that is needed adds one, up to the split
sub_length_at_left : (known : Bool) (h m size : ℕ) → 2 ^ h < size → m ≤ 2 ^ h → sub_length_at (suc h) m known size ≡ suc (sub_length_at h m known (2 ^ h))
unfolding sub_length_at
sub_length_at_left known h m size many front = let part : m < size = omega arith in rw (lt-leb size (2 ^ h) many, lt-leb size m part, le-leb m (2 ^ h) front) refl

-- and behind it
sub_length_at_right : (known : Bool) (h m size : ℕ) → 2 ^ h < m → m < size → sub_length_at (suc h) m known size ≡ suc (sub_length_at h (m - 2 ^ h) false (size - 2 ^ h))
unfolding sub_length_at
sub_length_at_right known h m size behind part = let many : 2 ^ h < size = omega arith in rw (lt-leb size (2 ^ h) many, lt-leb size m part, lt-leb m (2 ^ h) behind) refl

-- both roots are there exactly where there is one digest or none
both_count : (known : Bool) (old : List ℕ) (p : List (List ℕ)) → is_some (both known old p) ≡ eqb (length p) (cond known 0 1)
unfolding both
both_count true old [] = refl
both_count true old (d ∷ p) = sym (ne_eqb (suc (length p)) 0 (λ e. omega arith))
both_count false old [] = sym (ne_eqb 0 1 (λ e. omega arith))
both_count false old (d ∷ []) = refl
both_count false old (d ∷ e ∷ p) = sym (ne_eqb (suc (suc (length p))) 1 (λ is. omega arith))

module _ (hash : Hash) (old : List ℕ) where
  -- the roots are there exactly where there are as many digests as the length says
  abbrev Counts : ℕ → Type 0
  Counts h = (m size : ℕ) (known : Bool) (p : List (List ℕ)) → is_some (ext_at hash h m size known old p) ≡ eqb (length p) (sub_length_at h m known size)

  -- so it is with a level more, of fewer leaves than all
  ext_at_count_part : (h m size : ℕ) (known : Bool) (p : List (List ℕ)) → Counts h → 2 ^ h < size → m < size → is_some (ext_at hash (suc h) m size known old p) ≡ eqb (length p) (sub_length_at (suc h) m known size)
  ext_at_count_part h m size known [] below many part =
      ap is_some (ext_at_short hash known old h m size many part) ∙ sym (ne_eqb 0 (sub_length_at (suc h) m known size) (elim (cases_lt (2 ^ h) m) [
        | inr front ↦ λ e. omega (arith, e, sub_length_at_left known h m size many front)
        | inl behind ↦ λ e. omega (arith, e, sub_length_at_right known h m size behind part)
      ]))
  ext_at_count_part h m size known (s ∷ p) below many part = elim (cases_lt (2 ^ h) m) [
    | inr front ↦
        ap is_some (ext_at_left hash known old h m size s p many front) ∙ is_some-map (λ roots. (roots.0, node hash roots.1 s)) (ext_at hash h m (2 ^ h) known old p)
        ∙ below m (2 ^ h) known p ∙ sym (eqb-suc-suc (length p) (sub_length_at h m known (2 ^ h)))
        ∙ ap (eqb (suc (length p))) (sym (sub_length_at_left known h m size many front))
    | inl behind ↦
        ap is_some (ext_at_right hash known old h m size s p behind part) ∙ is_some-map (λ roots. (node hash s roots.0, node hash s roots.1)) (ext_at hash h (m - 2 ^ h) (size - 2 ^ h) false old p)
        ∙ below (m - 2 ^ h) (size - 2 ^ h) false p ∙ sym (eqb-suc-suc (length p) (sub_length_at h (m - 2 ^ h) false (size - 2 ^ h)))
        ∙ ap (eqb (suc (length p))) (sym (sub_length_at_right known h m size behind part))
  ]

  -- so it is at each number of levels
  ext_at_count : (h : ℕ) → Counts h
  unfolding ext_at sub_length_at
  ext_at_count zero m size known p = both_count known old p
  ext_at_count (suc h) m size known p = elim (cases_lt (2 ^ h) size) [
    | inr fits ↦ ap is_some (ext_at_same hash known old h m size p fits) ∙ ext_at_count h m size known p ∙ ap (eqb (length p)) (sym (sub_length_at_same known h m size fits))
    | inl many ↦ elim (cases_lt m size) [
      | inr all ↦ ap is_some (ext_at_all hash known old h m size p many all) ∙ both_count known old p ∙ ap (eqb (length p)) (sym (sub_length_at_all known h m size many all))
      | inl part ↦ ext_at_count_part h m size known p (ext_at_count h) many part
    ]
  ]

  -- the roots of some of the leaves are there exactly where there are as many digests
  pub ext_count : (m size : ℕ) (known : Bool) (p : List (List ℕ)) → 0 < m → m ≤ size → is_some (ext hash m size known old p) ≡ eqb (length p) (sub_length m known size)
  unfolding ext sub_length
  ext_count m size known p some le =
      rw (lt-ltb 0 m some, le-leb m size le) (ext_at_count size m size known (reverse p) ∙ ap (λ l. eqb l (sub_length_at size m known size)) (length-reverse p))

  -- where there are roots, m is neither 0 nor above the size, and there are as many digests
  pub ext_parts : (m size : ℕ) (known : Bool) (p : List (List ℕ)) → is_some (ext hash m size known old p) ≡ true → (0 < m) × (m ≤ size) × (length p ≡ sub_length m known size)
  ext_parts m size known p there = elim (cases_lt 0 m) [
    | inr none ↦ absurd (false≢true (sym (ap is_some (ap (λ j. ext hash j size known old p) (omega arith) ∙ ext_none hash known old size p)) ∙ there))
    | inl some ↦ elim (cases_lt size m) [
      | inl beyond ↦ absurd (false≢true (sym (ap is_some (ext_beyond hash known old m size p beyond)) ∙ there))
      | inr le ↦ (some, le, eqb-true (length p) (sub_length m known size) (sym (ext_count m size known p some le) ∙ there))
    ]
  ]

  -- and the other way round
  pub ext_there : (m size : ℕ) (known : Bool) (p : List (List ℕ)) → 0 < m → m ≤ size → length p ≡ sub_length m known size → is_some (ext hash m size known old p) ≡ true
  ext_there m size known p some le count = ext_count m size known p some le ∙ eq-eqb (length p) (sub_length m known size) count

module _ (hash : Hash) where
  -- the digests of all leaves give their root, twice
  both_gives : (known : Bool) (old r : List ℕ) → (known ≡ true → old ≡ r) → both known old (cond known [] (r ∷ [])) ≡ Some (r, r)
  unfolding both
  both_gives true old r is = rw (is refl) refl
  both_gives false old r is = refl

  -- the digests of some leaves give both roots, with the old one where it is known
  Gives : ℕ → Type 0
  Gives size = (ds : List (List ℕ)) (m : ℕ) (known : Bool) (old : List ℕ) → length ds ≡ size → 0 < m → m ≤ size
      → (known ≡ true → old ≡ root hash (take m ds)) → ext hash m size known old (sub hash m known ds) ≡ Some (root hash (take m ds), root hash ds)

  -- of all
  gives_all : (ds : List (List ℕ)) (m size : ℕ) (known : Bool) (old : List ℕ) → length ds ≡ size → 0 < m → m ≡ size
      → (known ≡ true → old ≡ root hash (take m ds)) → ext hash m size known old (sub hash m known ds) ≡ Some (root hash (take m ds), root hash ds)
  gives_all ds m size known old len some is old_is =
      let all : take m ds ≡ ds = take_all m ds (omega arith) in
      let old_all : known ≡ true → old ≡ root hash ds = λ e. old_is e ∙ ap (root hash) all in
      ap (λ j. ext hash m j known old (sub hash m known ds)) (sym is)
      ∙ ext_all hash known old m (sub hash m known ds) some
      ∙ ap (both known old) (sub_all hash known m ds (omega arith))
      ∙ both_gives known old (root hash ds) old_all
      ∙ ap (λ t. Some (root hash t, root hash ds)) (sym all)

  gives_one : Gives 1
  unfolding Gives
  gives_one ds m known old len some le old_is = gives_all ds m 1 known old len some (omega arith) old_is

  gives_more : (size k : ℕ) → 1 < size → 0 < k → IsSplit k size → Gives k → Gives (size - k) → Gives size
  unfolding Gives
  gives_more size k many pos s low high ds m known old len some le old_is =
      let t : IsSplit k (length ds) = subst (IsSplit k) (sym len) s in
      elim (cases_lt m size) [
        | inr all ↦ gives_all ds m size known old len some (omega arith) old_is
        | inl part ↦ elim (cases_lt k m) [
          | inr front ↦
              let same : take m (take k ds) ≡ take m ds = take-take m k ds front in
              let old_front : known ≡ true → old ≡ root hash (take m (take k ds)) = λ e. old_is e ∙ ap (root hash) (sym same) in
              let count : length (take k ds) ≡ k = omega (arith, length-take k ds, s.below) in
              ap (ext hash m size known old) (sub_left hash k m ds t known front)
              ∙ ext_left hash k m size known old (root hash (drop k ds)) (sub hash m known (take k ds)) s front
              ∙ ap (option_map (λ roots. (roots.0, node hash roots.1 (root hash (drop k ds))))) (low (take k ds) m known old count some front old_front)
              ∙ ap₂ (λ a b. Some (root hash a, b)) same (sym (root_split hash k ds t))
          | inl behind ↦
              let old_split : IsSplit k (length (take m ds)) = record { level = s.level; power = s.power; below = omega (arith, length-take m ds); half = omega (arith, length-take m ds, s.half) } in
              let front : take k (take m ds) ≡ take k ds = take-take k m ds (omega arith) in
              let sum : m ≡ k + (m - k) = omega arith in
              let back : drop k (take m ds) ≡ take (m - k) (drop k ds) = ap (λ i. drop k (take i ds)) sum ∙ drop-take k (m - k) ds in
              let old_root : root hash (take m ds) ≡ node hash (root hash (take k ds)) (root hash (take (m - k) (drop k ds))) =
              root_split hash k (take m ds) old_split ∙ ap₂ (λ a b. node hash (root hash a) (root hash b)) front back in
              ap (ext hash m size known old) (sub_right hash k m ds t known behind (omega arith))
              ∙ ext_right hash k m size known old (root hash (take k ds)) (sub hash (m - k) false (drop k ds)) s behind part
              ∙ ap (option_map (λ roots. (node hash (root hash (take k ds)) roots.0, node hash (root hash (take k ds)) roots.1)))
              (high (drop k ds) (m - k) false old (omega (arith, length-drop k ds)) (omega arith) (omega arith) (λ e. absurd (false≢true e)))
              ∙ ap₂ (λ a b. Some (a, b)) (sym old_root) (sym (root_split hash k ds t))
        ]
      ]

  -- the digests with the old root give both roots
  pub sub_gives : (m : ℕ) (known : Bool) (ds : List (List ℕ)) → 0 < m → m ≤ length ds → ext hash m (length ds) known (root hash (take m ds)) (sub hash m known ds) ≡ Some (root hash (take m ds), root hash ds)
  unfolding Gives
  sub_gives m known ds some le = by_split Gives gives_one gives_more (length ds) (omega arith) ds m known (root hash (take m ds)) refl some le (λ e. refl)

-- a made proof has as many digests as its length says
pub length-sub : (hash : Hash) (m : ℕ) (known : Bool) (ds : List (List ℕ)) → 0 < m → m ≤ length ds → length (sub hash m known ds) ≡ sub_length m known (length ds)
length-sub hash m known ds some le =
    let gives : ext hash m (length ds) known (root hash (take m ds)) (sub hash m known ds) ≡ Some (root hash (take m ds), root hash ds) = sub_gives hash m known ds some le in
    (ext_parts hash (root hash (take m ds)) m (length ds) known (sub hash m known ds) (ap is_some gives)).2

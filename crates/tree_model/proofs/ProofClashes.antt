-- What a proof tells otherwise than a list, by splits, and that it clashes where it gives the list's root from another
-- old root than that of the list's first leaves.
use Rattle.std.proofs.Common.{◌≡◌, ◌≢◌, ℕ, zero, suc, ◌+◌, ◌-◌, ◌^◌, ◌<◌, ◌≤◌, Bool, true, false, inl, inr, List, [], ◌∷◌, ◌++◌, length, take, drop, reverse, Some, None, refl, sym, ap, ap₂, ◌∙◌, subst, arith, le-leb, length-take, length-drop, take_all, take-take}
use Rattle.std.specs.Prelude.{option_and_then, is_some}
use Rattle.std.proofs.lemmas.Bool.{cases_lt, lt-leb}
use Rattle.std.proofs.lemmas.List.{reverse-append, drop-take}
use Rattle.std.proofs.lemmas.List.Elements.{All-pop, All-take, All-drop}
use Rattle.tree_model.specs.Tree.{Hash, node, root, IsSplit}
use Rattle.tree_model.specs.Extension.{both, ext, fold_proof}
use Rattle.tree_model.specs.Clash.{Clashes, node_bytes, or_below, proof_clash_at, sub_clash, proof_clash}
use Rattle.tree_model.proofs.Splits.{pow_mono, le_pow, by_split}
use Rattle.tree_model.proofs.Levels.{root_enough, root_split}
use Rattle.tree_model.proofs.Extensions.{held, more, fits_front, fits_back, ext_enough, ext_all, ext_short, ext_left, ext_right, ext_parts}
use Rattle.tree_model.proofs.ProofFolds.{fold_proof_roots}
use Rattle.tree_model.proofs.PathClashes.{Makes, AreDigests, parts_of, front_long, shown, ends, root_long, some_map}

module _ (hash : Hash) (old : List ℕ) where
  -- a level that is not needed changes nothing
  sub_clash_same : (h m : ℕ) (known : Bool) (ds p : List (List ℕ)) → length ds ≤ 2 ^ h → proof_clash_at hash (suc h) m known old ds p ≡ proof_clash_at hash h m known old ds p
  unfolding proof_clash_at
  sub_clash_same zero m known ds [] fits = refl
  sub_clash_same (suc h) m known ds [] fits = refl
  sub_clash_same h m known ds (s ∷ p) fits = rw (le-leb (length ds) (2 ^ h) fits) refl

  -- more levels than hold the leaves change nothing
  sub_clash_up : (g h m : ℕ) (known : Bool) (ds p : List (List ℕ)) → h ≤ g → length ds ≤ 2 ^ h → proof_clash_at hash g m known old ds p ≡ proof_clash_at hash h m known old ds p
  sub_clash_up zero h m known ds p le fits = ap (λ l. proof_clash_at hash l m known old ds p) (omega arith)
  sub_clash_up (suc g) h m known ds p le fits = elim (cases_lt g h) [
    | inl above ↦ ap (λ l. proof_clash_at hash l m known old ds p) (omega arith)
    | inr within ↦ sub_clash_same g m known ds p (omega (arith, pow_mono h g within)) ∙ sub_clash_up g h m known ds p within fits
  ]

  -- the pair at any number of levels that hold the leaves
  pub sub_clash_enough : (h m : ℕ) (known : Bool) (ds p : List (List ℕ)) → length ds ≤ 2 ^ h → proof_clash_at hash h m known old ds (reverse p) ≡ sub_clash hash m known old ds p
  unfolding sub_clash
  sub_clash_enough h m known ds p fits = elim (cases_lt h (length ds)) [
    | inl below ↦ sym (sub_clash_up (length ds) h m known ds (reverse p) (omega arith) fits)
    | inr above ↦ sub_clash_up h (length ds) m known ds (reverse p) above (le_pow (length ds))
  ]

  -- there is none along no digest
  sub_clash_at_none : (h m : ℕ) (known : Bool) (ds : List (List ℕ)) → proof_clash_at hash h m known old ds [] ≡ None
  unfolding proof_clash_at
  sub_clash_at_none zero m known ds = refl
  sub_clash_at_none (suc h) m known ds = refl

  pub sub_clash_none : (m : ℕ) (known : Bool) (ds : List (List ℕ)) → sub_clash hash m known old ds [] ≡ None
  unfolding sub_clash
  sub_clash_none m known ds = sub_clash_at_none (length ds) m known ds

  -- nor where the first leaves are all
  sub_clash_at_all : (h m : ℕ) (known : Bool) (ds p : List (List ℕ)) → length ds ≤ m → proof_clash_at hash h m known old ds p ≡ None
  unfolding proof_clash_at
  sub_clash_at_all zero m known ds p all = refl
  sub_clash_at_all (suc h) m known ds [] all = refl
  sub_clash_at_all (suc h) m known ds (s ∷ p) all = elim (cases_lt (2 ^ h) (length ds)) [
    | inl many ↦ rw (lt-leb (length ds) (2 ^ h) many, le-leb (length ds) m all) refl
    | inr fits ↦ sub_clash_same h m known ds (s ∷ p) fits ∙ sub_clash_at_all h m known ds (s ∷ p) all
  ]

  pub sub_clash_all : (m : ℕ) (known : Bool) (ds p : List (List ℕ)) → length ds ≤ m → sub_clash hash m known old ds p ≡ None
  unfolding sub_clash
  sub_clash_all m known ds p all = sub_clash_at_all (length ds) m known ds (reverse p) all

  module _ (k m : ℕ) (known : Bool) (ds p : List (List ℕ)) (side : List ℕ) (s : IsSplit k (length ds)) (some : 0 < m) where
    -- the string of the list's highest node
    top : List ℕ
    top = node_bytes (root hash (take k ds)) (root hash (drop k ds))

    -- up to the split: the strings of the highest node, or what is found in the part in front
    pub sub_clash_left : m ≤ k → sub_clash hash m known old ds (p ++ side ∷ [])
        ≡ option_and_then (λ roots. or_below (node_bytes roots.1 side) (node_bytes (root hash (take k ds)) (root hash (drop k ds))) (sub_clash hash m known old (take k ds) p)) (ext hash m k known old p)
    unfolding proof_clash_at
    sub_clash_left front =
        let h = s.level in
        let low : m ≤ 2 ^ h = omega (arith, s.power) in
        let part : m < length ds = omega (arith, s.below) in
        sym (sub_clash_enough (suc h) m known ds (p ++ side ∷ []) (held k (length ds) s))
        ∙ rw (
          reverse-append p (side ∷ []),
          lt-leb (length ds) (2 ^ h) (more k (length ds) s),
          lt-leb (length ds) m part,
          le-leb m (2 ^ h) low,
          ext_enough hash known old h m (2 ^ h) p some low (omega arith),
          root_enough hash h (take (2 ^ h) ds) (fits_front hash k m ds s),
          root_enough hash h (drop (2 ^ h) ds) (fits_back hash k m ds s),
          sub_clash_enough h m known (take (2 ^ h) ds) p (fits_front hash k m ds s),
        )
        (ap (λ j. option_and_then (λ roots. or_below (node_bytes roots.1 side) (node_bytes (root hash (take j ds)) (root hash (drop j ds))) (sub_clash hash m known old (take j ds) p)) (ext hash m j known old p)) (sym s.power))

    -- behind it: or what is found in the part behind
    pub sub_clash_right : k < m → m < length ds → sub_clash hash m known old ds (p ++ side ∷ [])
        ≡ option_and_then (λ roots. or_below (node_bytes side roots.1) (node_bytes (root hash (take k ds)) (root hash (drop k ds))) (sub_clash hash (m - k) false old (drop k ds) p)) (ext hash (m - k) (length ds - k) false old p)
    unfolding proof_clash_at
    sub_clash_right behind part =
        let h = s.level in
        let high : 2 ^ h < m = omega (arith, s.power) in
        sym (sub_clash_enough (suc h) m known ds (p ++ side ∷ []) (held k (length ds) s))
        ∙ rw (
          reverse-append p (side ∷ []),
          lt-leb (length ds) (2 ^ h) (more k (length ds) s),
          lt-leb (length ds) m part,
          lt-leb m (2 ^ h) high,
          ext_enough hash false old h (m - 2 ^ h) (length ds - 2 ^ h) p (omega arith) (omega arith) (omega (arith, s.power, s.half)),
          root_enough hash h (take (2 ^ h) ds) (fits_front hash k m ds s),
          root_enough hash h (drop (2 ^ h) ds) (fits_back hash k m ds s),
          sub_clash_enough h (m - 2 ^ h) false (drop (2 ^ h) ds) p (fits_back hash k m ds s),
        )
        (ap (λ j. option_and_then (λ roots. or_below (node_bytes side roots.1) (node_bytes (root hash (take j ds)) (root hash (drop j ds))) (sub_clash hash (m - j) false old (drop j ds) p)) (ext hash (m - j) (length ds - j) false old p)) (sym s.power))

some_is : (x y : List ℕ × List ℕ) → Some x ≡ Some y → x ≡ y
some_is x y e = cc

-- where all leaves are the first, both roots are one
both_same : (known : Bool) (old : List ℕ) (p : List (List ℕ)) (o w : List ℕ) → both known old p ≡ Some (o, w) → o ≡ w
unfolding both
both_same true old [] o w e = let pair = some_is (old, old) (o, w) e in sym (ap (λ x. x.0) pair) ∙ ap (λ x. x.1) pair
both_same true old (d ∷ p) o w e = absurd cc
both_same false old [] o w e = absurd cc
both_same false old (d ∷ []) o w e = let pair = some_is (d, d) (o, w) e in sym (ap (λ x. x.0) pair) ∙ ap (λ x. x.1) pair
both_same false old (d ∷ f ∷ p) o w e = absurd cc

module _ (hash : Hash) (makes : Makes hash) (old : List ℕ) where
  -- digests that give the root of a list and another old root than the list's clash with the list
  SubClashes : ℕ → Type 0
  SubClashes size = (m : ℕ) (known : Bool) (ds p : List (List ℕ)) (o : List ℕ) → length ds ≡ size → 0 < m → m ≤ size → AreDigests ds → AreDigests p
      → o ≢ root hash (take m ds) → ext hash m size known old p ≡ Some (o, root hash ds) → Clashes hash (sub_clash hash m known old ds p)

  -- they don't where the first leaves are all
  never_all : (m size : ℕ) (known : Bool) (ds p : List (List ℕ)) (o : List ℕ) → length ds ≡ size → 0 < m → m ≡ size
      → o ≢ root hash (take m ds) → ext hash m size known old p ≡ Some (o, root hash ds) → ⊥
  never_all m size known ds p o len some is other e =
      let roots : both known old p ≡ Some (o, root hash ds) = sym (ext_all hash known old m p some) ∙ ap (λ j. ext hash m j known old p) is ∙ e in
      let all : take m ds ≡ ds = take_all m ds (omega arith) in
      other (both_same known old p o (root hash ds) roots ∙ ap (root hash) (sym all))

  sub_clashes_one : SubClashes 1
  unfolding SubClashes
  sub_clashes_one m known ds p o len some le all each other e = absurd (never_all m 1 known ds p o len some (omega arith) other e)

  sub_clashes_more : (size k : ℕ) → 1 < size → 0 < k → IsSplit k size → SubClashes k → SubClashes (size - k) → SubClashes size
  unfolding SubClashes
  sub_clashes_more size k many pos s low high m known ds p o len some le all each other e =
      let t : IsSplit k (length ds) = subst (IsSplit k) (sym len) s in
      let below : k < size = s.below in
      let front : length (take k ds) ≡ k = omega (arith, length-take k ds, t.below) in
      let back : length (drop k ds) ≡ size - k = omega (arith, length-drop k ds) in
      let l = root hash (take k ds) in
      let r = root hash (drop k ds) in
      let left_long : length l ≡ 32 = root_long hash makes (take k ds) (omega arith) (All-take (λ x. length x ≡ 32) k ds all) in
      let right_long : length r ≡ 32 = root_long hash makes (drop k ds) (omega arith) (All-drop (λ x. length x ≡ 32) k ds all) in
      let whole : root hash ds ≡ node hash l r = root_split hash k ds t in
      elim (cases_lt m size) [
        | inr not_part ↦ absurd (never_all m size known ds p o len some (omega arith) other e)
        | inl part ↦ elim (ends p) [
          | inl none ↦ absurd (let never : None ≡ Some (o, root hash ds) = sym (ext_short hash known old m size part) ∙ ap (ext hash m size known old) (sym none) ∙ e in cc)
          | inr q ↦
              let digests = All-pop (λ x. length x ≡ 32) p q.0 (Some q.1) q.2 each in
              let side_long : length q.1 ≡ 32 = digests.1 in
              elim (cases_lt k m) [
                | inr before ↦
                    let made = some_map (λ roots. (roots.0, node hash roots.1 q.1)) (ext hash m k known old q.0) (o, root hash ds) (sym (ext_left hash k m size known old q.1 q.0 s before) ∙ ap (ext hash m size known old) (sym q.2) ∙ e) in
                    let first : made.0.0 ≡ o = ap (λ x. x.0) made.2 in
                    let second : node hash made.0.1 q.1 ≡ root hash ds = ap (λ x. x.1) made.2 in
                    let part_is : take m (take k ds) ≡ take m ds = take-take m k ds before in
                    let other_front : made.0.0 ≢ root hash (take m (take k ds)) = λ is. other (sym first ∙ is ∙ ap (root hash) part_is) in
                    let found : Clashes hash (or_below (node_bytes made.0.1 q.1) (node_bytes l r) (sub_clash hash m known old (take k ds) q.0)) =
                    shown hash (node_bytes made.0.1 q.1) (node_bytes l r) (sub_clash hash m known old (take k ds) q.0) (second ∙ whole)
                    (λ same. low m known (take k ds) q.0 made.0.0 front some before (All-take (λ x. length x ≡ 32) k ds all) digests.0 other_front
                    (made.1 ∙ ap (λ w. Some (made.0.0, w)) (parts_of made.0.1 l q.1 r (front_long made.0.1 l q.1 r (side_long ∙ sym right_long) same) same).0)) in
                    rw (q.2, sub_clash_left hash old k m known ds q.0 q.1 t some before, made.1) found
                | inl behind ↦
                    let made = some_map (λ roots. (node hash q.1 roots.0, node hash q.1 roots.1)) (ext hash (m - k) (size - k) false old q.0) (o, root hash ds) (sym (ext_right hash k m size known old q.1 q.0 s behind part) ∙ ap (ext hash m size known old) (sym q.2) ∙ e) in
                    let first : node hash q.1 made.0.0 ≡ o = ap (λ x. x.0) made.2 in
                    let second : node hash q.1 made.0.1 ≡ root hash ds = ap (λ x. x.1) made.2 in
                    let old_split : IsSplit k (length (take m ds)) = record { level = s.level; power = s.power; below = omega (arith, length-take m ds); half = omega (arith, length-take m ds, s.half) } in
                    let front_is : take k (take m ds) ≡ take k ds = take-take k m ds (omega arith) in
                    let sum : m ≡ k + (m - k) = omega arith in
                    let back_is : drop k (take m ds) ≡ take (m - k) (drop k ds) = ap (λ i. drop k (take i ds)) sum ∙ drop-take k (m - k) ds in
                    let old_is : root hash (take m ds) ≡ node hash l (root hash (take (m - k) (drop k ds))) =
                    root_split hash k (take m ds) old_split ∙ ap₂ (λ a b. node hash (root hash a) (root hash b)) front_is back_is in
                    let rest : length ds - k ≡ size - k = omega arith in
                    let found : Clashes hash (or_below (node_bytes q.1 made.0.1) (node_bytes l r) (sub_clash hash (m - k) false old (drop k ds) q.0)) =
                    shown hash (node_bytes q.1 made.0.1) (node_bytes l r) (sub_clash hash (m - k) false old (drop k ds) q.0) (second ∙ whole)
                    (λ same.
                    let parts = parts_of q.1 l made.0.1 r (side_long ∙ sym left_long) same in
                    let other_back : made.0.0 ≢ root hash (take (m - k) (drop k ds)) = λ is. other (sym first ∙ ap₂ (λ a b. node hash a b) parts.0 is ∙ sym old_is) in
                    high (m - k) false (drop k ds) q.0 made.0.0 back (omega arith) (omega arith) (All-drop (λ x. length x ≡ 32) k ds all) digests.0 other_back
                    (made.1 ∙ ap (λ w. Some (made.0.0, w)) parts.1)) in
                    rw (q.2, sub_clash_right hash old k m known ds q.0 q.1 t some behind (omega arith), rest, made.1) found
              ]
        ]
      ]

  -- a proof that gives the root of a list from another old root than that of its first m leaves clashes with the list
  pub proof_clashes : (m : ℕ) (ds p : List (List ℕ)) → AreDigests ds → AreDigests p
      → old ≢ root hash (take m ds) → fold_proof hash m old (length ds) p ≡ Some (root hash ds) → Clashes hash (proof_clash hash m old ds p)
  unfolding SubClashes
  proof_clashes m ds p all each other e =
      let roots : ext hash m (length ds) true old p ≡ Some (old, root hash ds) = fold_proof_roots hash m old (length ds) p (root hash ds) e in
      let parts = ext_parts hash old m (length ds) true p (ap is_some roots) in
      by_split SubClashes sub_clashes_one sub_clashes_more (length ds) (omega (arith, parts.0, parts.1)) m true ds p old refl parts.0 parts.1 all each other roots

-- Two lists of leaves with one root are one, or show a clash.
use Rattle.std.proofs.Common.{◌≡◌, ℕ, zero, suc, ◌-◌, ◌^◌, ◌<◌, ◌≤◌, inl, inr, List, [], ◌∷◌, ◌++◌, length, map, get_or, take, drop, None, refl, sym, ap, ap₂, ◌∙◌, subst, arith, le-leb, length-take, length-drop, take-append-drop}
use Rattle.std.proofs.lemmas.Bool.{cases_lt, lt-leb}
use Rattle.std.proofs.lemmas.List.{length-map}
use Rattle.std.proofs.lemmas.List.Elements.{All-map, All-from_get_or}
use Rattle.tree_model.specs.Tree.{Hash, leaf, mth, IsSplit}
use Rattle.tree_model.specs.Clash.{node_bytes, or_below}
use Rattle.tree_model.proofs.Splits.{pow_twice, pow_mono, le_pow}
use Rattle.tree_model.proofs.Levels.{root_one, mth_split}
use Rattle.tree_model.proofs.PathClashes.{Makes, parts_of, root_long}
use Rattle.std.specs.Option.{option_or}
use Rattle.chain_sign.specs.Lists.{lists_clash_at, lists_clash}
use Rattle.chain_sign.proofs.Found.{Found, found_else, found_below}

module _ (hash : Hash) (makes : Makes hash) where
  pub mth_long : (xs : List (List ℕ)) → 0 < length xs → length (mth hash xs) ≡ 32
  mth_long xs some =
      root_long hash makes (map (leaf hash) xs) (omega (arith, length-map xs (leaf hash)))
      (All-map (λ d. length d ≡ 32) (leaf hash) xs (All-from_get_or (λ x. length (leaf hash x) ≡ 32) xs [] (λ i within. makes (0 ∷ get_or xs i []))))

  mth_one : (x : List ℕ) → mth hash (x ∷ []) ≡ hash (0 ∷ x)
  mth_one x = root_one hash (leaf hash x)

  lists_found_at : (h : ℕ) (xs ys : List (List ℕ)) → length xs ≡ length ys → 0 < length xs → length xs ≤ 2 ^ h → mth hash xs ≡ mth hash ys → Found hash (lists_clash_at hash h xs ys) (xs ≡ ys)
  unfolding lists_clash_at
  lists_found_at zero [] ys len some fits e = absurd (omega arith)
  lists_found_at zero (x ∷ []) [] len some fits e = absurd (omega arith)
  lists_found_at zero (x ∷ []) (y ∷ []) len some fits e =
      found_below hash (x ∷ [] ≡ y ∷ []) (0 ∷ x) (0 ∷ y) None (sym (mth_one x) ∙ e ∙ mth_one y) (λ same. let one : x ≡ y = cc in ap (λ t. t ∷ []) one)
  lists_found_at zero (x ∷ []) (y ∷ z ∷ ys) len some fits e = absurd (omega arith)
  lists_found_at zero (x ∷ w ∷ xs) ys len some fits e = absurd (omega arith)
  lists_found_at (suc h) xs ys len some fits e = elim (cases_lt (2 ^ h) (length xs)) [
    | inr few ↦ rw (le-leb (length xs) (2 ^ h) few) (lists_found_at h xs ys len some few e)
    | inl more ↦
        let k : ℕ = 2 ^ h in
        let s : IsSplit k (length xs) = record { level = h; power = refl; below = more; half = omega (arith, pow_twice h) } in
        let t : IsSplit k (length ys) = subst (IsSplit k) len s in
        let xf : length (take k xs) ≡ k = omega (arith, length-take k xs) in
        let yf : length (take k ys) ≡ k = omega (arith, length-take k ys) in
        let xb : length (drop k xs) ≡ length xs - k = length-drop k xs in
        let yb : length (drop k ys) ≡ length ys - k = length-drop k ys in
        let pos : 0 < k = omega (arith, pow_twice h) in
        rw (lt-leb (length xs) (2 ^ h) more)
        (found_below hash (xs ≡ ys) (node_bytes (mth hash (take k xs)) (mth hash (drop k xs))) (node_bytes (mth hash (take k ys)) (mth hash (drop k ys)))
        (option_or (lists_clash_at hash h (take k xs) (take k ys)) (lists_clash_at hash h (drop k xs) (drop k ys)))
        (sym (mth_split hash k xs s) ∙ e ∙ mth_split hash k ys t)
        (λ same.
        let parts = parts_of (mth hash (take k xs)) (mth hash (take k ys)) (mth hash (drop k xs)) (mth hash (drop k ys))
        (mth_long (take k xs) (omega arith) ∙ sym (mth_long (take k ys) (omega arith))) same in
        found_else hash (take k xs ≡ take k ys) (drop k xs ≡ drop k ys) (xs ≡ ys)
        (lists_clash_at hash h (take k xs) (take k ys)) (lists_clash_at hash h (drop k xs) (drop k ys))
        (lists_found_at h (take k xs) (take k ys) (omega arith) (omega arith) (omega arith) parts.0)
        (λ one. lists_found_at h (drop k xs) (drop k ys) (omega arith) (omega arith) (omega (arith, pow_twice h)) parts.1)
        (λ front back. sym (take-append-drop k xs) ∙ ap₂ (λ a b. a ++ b) front back ∙ take-append-drop k ys)))
  ]

  -- two lists of one length with one root are one, or show a clash
  pub lists_found : (xs ys : List (List ℕ)) → length xs ≡ length ys → 0 < length xs → mth hash xs ≡ mth hash ys → Found hash (lists_clash hash xs ys) (xs ≡ ys)
  unfolding lists_clash
  lists_found xs ys len some e = lists_found_at (length xs) xs ys len some (le_pow (length xs)) e

-- ---- by splits

module _ (hash : Hash) where
  lists_clash_same : (h : ℕ) (xs ys : List (List ℕ)) → length xs ≤ 2 ^ h → lists_clash_at hash (suc h) xs ys ≡ lists_clash_at hash h xs ys
  unfolding lists_clash_at
  lists_clash_same h xs ys fits = rw (le-leb (length xs) (2 ^ h) fits) refl

  lists_clash_up : (g h : ℕ) (xs ys : List (List ℕ)) → h ≤ g → length xs ≤ 2 ^ h → lists_clash_at hash g xs ys ≡ lists_clash_at hash h xs ys
  lists_clash_up zero h xs ys le fits = ap (λ l. lists_clash_at hash l xs ys) (omega arith)
  lists_clash_up (suc g) h xs ys le fits = elim (cases_lt g h) [
    | inl above ↦ ap (λ l. lists_clash_at hash l xs ys) (omega arith)
    | inr within ↦ lists_clash_same g xs ys (omega (arith, pow_mono h g within)) ∙ lists_clash_up g h xs ys within fits
  ]

  lists_clash_enough : (h : ℕ) (xs ys : List (List ℕ)) → length xs ≤ 2 ^ h → lists_clash_at hash h xs ys ≡ lists_clash hash xs ys
  unfolding lists_clash
  lists_clash_enough h xs ys fits = elim (cases_lt h (length xs)) [
    | inl below ↦ sym (lists_clash_up (length xs) h xs ys (omega arith) fits)
    | inr above ↦ lists_clash_up h (length xs) xs ys above (le_pow (length xs))
  ]

  -- one leaf: its string
  pub lists_clash_one : (x y : List ℕ) → lists_clash hash (x ∷ []) (y ∷ []) ≡ or_below (0 ∷ x) (0 ∷ y) None
  lists_clash_one x y = sym (lists_clash_enough 0 (x ∷ []) (y ∷ []) (omega arith)) ∙ unfold lists_clash_at in refl

  -- at a level that splits
  lists_clash_node : (h : ℕ) (xs ys : List (List ℕ)) → 2 ^ h < length xs
      → lists_clash_at hash (suc h) xs ys ≡ or_below (node_bytes (mth hash (take (2 ^ h) xs)) (mth hash (drop (2 ^ h) xs))) (node_bytes (mth hash (take (2 ^ h) ys)) (mth hash (drop (2 ^ h) ys)))
      (option_or (lists_clash_at hash h (take (2 ^ h) xs) (take (2 ^ h) ys)) (lists_clash_at hash h (drop (2 ^ h) xs) (drop (2 ^ h) ys)))
  unfolding lists_clash_at
  lists_clash_node h xs ys more = rw (lt-leb (length xs) (2 ^ h) more) refl

  -- more leaves: the string of the highest node, and then both sides
  pub lists_clash_split : (k : ℕ) (xs ys : List (List ℕ)) → IsSplit k (length xs)
      → lists_clash hash xs ys ≡ or_below (node_bytes (mth hash (take k xs)) (mth hash (drop k xs))) (node_bytes (mth hash (take k ys)) (mth hash (drop k ys)))
      (option_or (lists_clash hash (take k xs) (take k ys)) (lists_clash hash (drop k xs) (drop k ys)))
  lists_clash_split k xs ys s =
      let h = s.level in
      let is : 2 ^ h ≡ k = sym s.power in
      let fits : length xs ≤ 2 ^ suc h = omega (arith, pow_twice h, s.half) in
      let more : 2 ^ h < length xs = omega (arith, s.below) in
      let front : length (take k xs) ≤ 2 ^ h = omega (arith, length-take k xs) in
      let back : length (drop k xs) ≤ 2 ^ h = omega (arith, length-drop k xs, s.half) in
      sym (lists_clash_enough (suc h) xs ys fits) ∙ lists_clash_node h xs ys more
      ∙ ap (λ j. or_below (node_bytes (mth hash (take j xs)) (mth hash (drop j xs))) (node_bytes (mth hash (take j ys)) (mth hash (drop j ys))) (option_or (lists_clash_at hash h (take j xs) (take j ys)) (lists_clash_at hash h (drop j xs) (drop j ys)))) is
      ∙ ap₂ (λ a b. or_below (node_bytes (mth hash (take k xs)) (mth hash (drop k xs))) (node_bytes (mth hash (take k ys)) (mth hash (drop k ys))) (option_or a b)) (lists_clash_enough h (take k xs) (take k ys) front) (lists_clash_enough h (drop k xs) (drop k ys) back)

-- A consistency proof, from the leaves up: past the levels at which the older tree has an even number of nodes, then the
-- older tree's last node, where it isn't the whole older tree, and that node's path.
use Rattle.std.proofs.Common.{◌≡◌, ◌⊎◌, ℕ, zero, suc, ◌+◌, ◌-◌, ◌*◌, ◌/◌, ◌%◌, ◌^◌, ◌<◌, ◌≤◌, Bool, true, false, inl, inr, List, [], ◌∷◌, ◌++◌, length, take, drop, refl, sym, ap, ap₂, ◌∙◌, arith, le-leb, length-take-le, length-drop, append_assoc, take-take, drop-drop, pow_pos}
use Rattle.std.proofs.lemmas.Bool.{cases_lt, cases_eq, lt-leb}
use Rattle.std.specs.Prelude.{if◌then◌else◌, nat_le}
use Rattle.tree_model.specs.Tree.{Hash, root_at}
use Rattle.tree_model.specs.Path.{path_at, path}
use Rattle.tree_model.specs.Extension.{sub_at, proof}
use Rattle.tree_model.specs.Halves.{halve, own_part}
use Rattle.std.proofs.lemmas.List.{drop-take}
use Rattle.tree_model.proofs.Extensions.{sub_at_same, sub_enough}
use Rattle.tree_model.proofs.Paths.{path_at_same, path_at_left, path_at_right, path_enough}
use Rattle.tree_model.proofs.Splits.{pow_twice, le_pow}
use Rattle.tree_model.proofs.Halves.{length-halve, halve-take, halve-drop, root_at_halve}

-- the last of the first m digests stands in front
own_take : (known : Bool) (k m : ℕ) (ds : List (List ℕ)) → 0 < m → m ≤ k → own_part known m (take k ds) ≡ own_part known m ds
unfolding own_part
own_take known k m ds some le =
    let rest : k ≡ (m - 1) + (k - (m - 1)) = omega arith in
    let same : take 1 (drop (m - 1) (take k ds)) ≡ take 1 (drop (m - 1) ds) =
    ap (take 1) (ap (λ j. drop (m - 1) (take j ds)) rest ∙ drop-take (m - 1) (k - (m - 1)) ds) ∙ take-take 1 (k - (m - 1)) (drop (m - 1) ds) (omega arith) in
    ap (λ t. if known then (if nat_le m 1 then [] else t) else t) same

-- or behind
own_drop : (known : Bool) (k m : ℕ) (ds : List (List ℕ)) → 0 < k → k < m → own_part false (m - k) (drop k ds) ≡ own_part known m ds
unfolding own_part
own_drop true k m ds some lt =
    let place : k + ((m - k) - 1) ≡ m - 1 = omega arith in
    rw (lt-leb m 1 (omega arith)) (ap (take 1) (drop-drop ((m - k) - 1) k ds ∙ ap (λ j. drop j ds) place))
own_drop false k m ds some lt =
    let place : k + ((m - k) - 1) ≡ m - 1 = omega arith in
    ap (take 1) (drop-drop ((m - k) - 1) k ds ∙ ap (λ j. drop j ds) place)

module _ (hash : Hash) where
  -- the older tree is all of it
  pub sub_at_all : (h m : ℕ) (known : Bool) (ds : List (List ℕ)) → 2 ^ h < length ds → length ds ≤ m → sub_at hash (suc h) m known ds ≡ (if known then [] else root_at hash (suc h) ds ∷ [])
  unfolding sub_at
  sub_at_all h m known ds more all = rw (lt-leb (length ds) (2 ^ h) more, le-leb (length ds) m all) refl

  -- it ends in front of the split
  pub sub_at_left : (h m : ℕ) (known : Bool) (ds : List (List ℕ)) → 2 ^ h < length ds → m < length ds → m ≤ 2 ^ h → sub_at hash (suc h) m known ds ≡ sub_at hash h m known (take (2 ^ h) ds) ++ root_at hash h (drop (2 ^ h) ds) ∷ []
  unfolding sub_at
  sub_at_left h m known ds more some front = rw (lt-leb (length ds) (2 ^ h) more, lt-leb (length ds) m some, le-leb m (2 ^ h) front) refl

  -- or behind it
  pub sub_at_right : (h m : ℕ) (known : Bool) (ds : List (List ℕ)) → 2 ^ h < length ds → m < length ds → 2 ^ h < m → sub_at hash (suc h) m known ds ≡ sub_at hash h (m - 2 ^ h) false (drop (2 ^ h) ds) ++ root_at hash h (take (2 ^ h) ds) ∷ []
  unfolding sub_at
  sub_at_right h m known ds more some back = rw (lt-leb (length ds) (2 ^ h) more, lt-leb (length ds) m some, lt-leb m (2 ^ h) back) refl

  -- an even number of leaves: the proof is that of the next level
  pub sub_at_halve : (h m : ℕ) (known : Bool) (ds : List (List ℕ)) → length ds ≤ 2 ^ suc h → 0 < m → m ≤ length ds → m % 2 ≡ 0 → sub_at hash (suc h) m known ds ≡ sub_at hash h (m / 2) known (halve hash ds)
  unfolding sub_at root_at halve
  sub_at_halve zero m known [] fits some within even = absurd (omega arith)
  sub_at_halve zero m known (x ∷ []) fits some within even = absurd (omega arith)
  sub_at_halve zero m known (x ∷ y ∷ []) fits some within even = let two : m ≡ 2 = omega arith in rw two refl
  sub_at_halve zero m known (x ∷ y ∷ z ∷ rest) fits some within even = absurd (omega arith)
  sub_at_halve (suc h) m known ds fits some within even =
      let twice : 2 ^ suc h ≡ 2 * 2 ^ h = pow_twice h in
      let half : length (halve hash ds) ≡ (length ds + 1) / 2 = length-halve hash ds in
      elim (cases_lt (2 ^ suc h) (length ds)) [
        | inr small ↦
            sub_at_same hash known (suc h) m ds small ∙ sub_at_halve h m known ds small some within even
            ∙ sym (sub_at_same hash known h (m / 2) (halve hash ds) (omega (arith, half, twice)))
        | inl more ↦
            let front : halve hash (take (2 ^ suc h) ds) ≡ take (2 ^ h) (halve hash ds) = ap (λ j. halve hash (take j ds)) twice ∙ halve-take hash (2 ^ h) ds in
            let back : halve hash (drop (2 ^ suc h) ds) ≡ drop (2 ^ h) (halve hash ds) = ap (λ j. halve hash (drop j ds)) twice ∙ halve-drop hash (2 ^ h) ds in
            let len_front : length (take (2 ^ suc h) ds) ≡ 2 ^ suc h = length-take-le (2 ^ suc h) ds (omega arith) in
            let len_back : length (drop (2 ^ suc h) ds) ≡ length ds - 2 ^ suc h = length-drop (2 ^ suc h) ds in
            let root_front : root_at hash (suc h) (take (2 ^ suc h) ds) ≡ root_at hash h (take (2 ^ h) (halve hash ds)) = root_at_halve hash h (take (2 ^ suc h) ds) (omega (arith, len_front)) ∙ ap (root_at hash h) front in
            let root_back : root_at hash (suc h) (drop (2 ^ suc h) ds) ≡ root_at hash h (drop (2 ^ h) (halve hash ds)) = root_at_halve hash h (drop (2 ^ suc h) ds) (omega (arith, len_back, pow_twice (suc h))) ∙ ap (root_at hash h) back in
            elim (cases_lt m (length ds)) [
              | inr all ↦
                  sub_at_all (suc h) m known ds more all
                  ∙ ap (λ t. if known then [] else t ∷ []) (root_at_halve hash (suc h) ds fits)
                  ∙ sym (sub_at_all h (m / 2) known (halve hash ds) (omega (arith, half, twice)) (omega (arith, half)))
              | inl less ↦ elim (cases_lt (2 ^ suc h) m) [
                | inr left ↦
                    sub_at_left (suc h) m known ds more less left
                    ∙ ap₂ (λ p r. p ++ r ∷ []) (sub_at_halve h m known (take (2 ^ suc h) ds) (omega (arith, len_front)) some (omega (arith, len_front)) even ∙ ap (sub_at hash h (m / 2) known) front) root_back
                    ∙ sym (sub_at_left h (m / 2) known (halve hash ds) (omega (arith, half, twice)) (omega (arith, half)) (omega (arith, twice)))
                | inl right ↦
                    let less_half : (m - 2 ^ suc h) / 2 ≡ m / 2 - 2 ^ h = omega (arith, twice) in
                    sub_at_right (suc h) m known ds more less right
                    ∙ ap₂ (λ p r. p ++ r ∷ []) (sub_at_halve h (m - 2 ^ suc h) false (drop (2 ^ suc h) ds) (omega (arith, len_back, pow_twice (suc h))) (omega arith) (omega (arith, len_back)) (omega (arith, twice))
                    ∙ ap₂ (λ j t. sub_at hash h j false t) less_half back) root_front
                    ∙ sym (sub_at_right h (m / 2) known (halve hash ds) (omega (arith, half, twice)) (omega (arith, half)) (omega (arith, twice)))
              ]
            ]
      ]

  -- where the older tree has an even number of nodes, the proof is that of the next level
  pub proof-halve : (m : ℕ) (ds : List (List ℕ)) → 0 < m → m ≤ length ds → m % 2 ≡ 0 → proof hash m ds ≡ proof hash (m / 2) (halve hash ds)
  proof-halve m ds some within even =
      let n = length ds in
      let fits : length ds ≤ 2 ^ suc n = omega (arith, le_pow n, pow_twice n) in
      sym (sub_enough hash true (suc n) m ds fits) ∙ sub_at_halve n m true ds fits some within even
      ∙ sub_enough hash true n (m / 2) (halve hash ds) (omega (arith, length-halve hash ds, le_pow n))

  -- more levels hold an even number
  even_pow : (h : ℕ) → (h ≡ 0 → ⊥) → 2 ^ h % 2 ≡ 0
  even_pow zero some = absurd (some refl)
  even_pow (suc h) some = omega (arith, pow_twice h)

  -- where it has an odd number: its last node, unless that is the whole older tree, and the path of that node
  pub sub_at_odd : (h m : ℕ) (known : Bool) (ds : List (List ℕ)) → length ds ≤ 2 ^ h → m % 2 ≡ 1 → (m < length ds) ⊎ ((m ≡ 1) × (length ds ≡ 1)) → sub_at hash h m known ds ≡ own_part known m ds ++ path_at hash h (m - 1) ds
  unfolding sub_at path_at own_part root_at
  sub_at_odd zero m known ds fits odd (inl less) = absurd (omega arith)
  sub_at_odd zero m true ds fits odd (inr one) = rw one.0 refl
  sub_at_odd zero m false [] fits odd (inr one) = absurd (omega (arith, one.1))
  sub_at_odd zero m false (x ∷ ds) fits odd (inr one) = rw one.0 refl
  sub_at_odd (suc h) m known ds fits odd where_is = elim (cases_lt (2 ^ h) (length ds)) [
    | inr small ↦
        sub_at_same hash known h m ds small ∙ sub_at_odd h m known ds small odd where_is
        ∙ ap (λ t. own_part known m ds ++ t) (sym (path_at_same hash h (m - 1) ds small))
    | inl more ↦
        let pos : 0 < 2 ^ h = pow_pos h in
        let less : m < length ds = elim where_is [ inl l ↦ l | inr one ↦ omega (arith, one.0) ] in
        let len_front : length (take (2 ^ h) ds) ≡ 2 ^ h = length-take-le (2 ^ h) ds (omega arith) in
        let len_back : length (drop (2 ^ h) ds) ≡ length ds - 2 ^ h = length-drop (2 ^ h) ds in
        elim (cases_lt (2 ^ h) m) [
          | inr left ↦
              let front : (m < length (take (2 ^ h) ds)) ⊎ ((m ≡ 1) × (length (take (2 ^ h) ds) ≡ 1)) = elim (cases_lt m (2 ^ h)) [
                | inl l ↦ inl (omega (arith, len_front))
                | inr e ↦ elim (cases_eq h 0) [
                  | inl none ↦ let one : 2 ^ h ≡ 1 = ap (λ j. 2 ^ j) none in inr (omega (arith, one), omega (arith, one, len_front))
                  | inr some ↦ absurd (omega (arith, even_pow h some))
                ]
              ] in
              sub_at_left h m known ds more less left
              ∙ ap (λ p. p ++ root_at hash h (drop (2 ^ h) ds) ∷ []) (sub_at_odd h m known (take (2 ^ h) ds) (omega (arith, len_front)) odd front ∙ ap (λ o. o ++ path_at hash h (m - 1) (take (2 ^ h) ds)) (own_take known (2 ^ h) m ds (omega arith) left))
              ∙ append_assoc (own_part known m ds) (path_at hash h (m - 1) (take (2 ^ h) ds)) (root_at hash h (drop (2 ^ h) ds) ∷ [])
              ∙ ap (λ t. own_part known m ds ++ t) (sym (path_at_left hash h (m - 1) ds more (omega arith)))
          | inl right ↦
              let some : h ≡ 0 → ⊥ = λ none. let one : 2 ^ h ≡ 1 = ap (λ j. 2 ^ j) none in omega (arith, one, pow_twice h) in
              let place : (m - 2 ^ h) - 1 ≡ (m - 1) - 2 ^ h = omega arith in
              sub_at_right h m known ds more less right
              ∙ ap (λ p. p ++ root_at hash h (take (2 ^ h) ds) ∷ []) (sub_at_odd h (m - 2 ^ h) false (drop (2 ^ h) ds) (omega (arith, len_back, pow_twice h)) (omega (arith, even_pow h some)) (inl (omega (arith, len_back)))
              ∙ ap₂ (λ o j. o ++ path_at hash h j (drop (2 ^ h) ds)) (own_drop known (2 ^ h) m ds pos right) place)
              ∙ append_assoc (own_part known m ds) (path_at hash h ((m - 1) - 2 ^ h) (drop (2 ^ h) ds)) (root_at hash h (take (2 ^ h) ds) ∷ [])
              ∙ ap (λ t. own_part known m ds ++ t) (sym (path_at_right hash h (m - 1) ds more (omega arith)))
        ]
  ]

  -- the same of the proof
  pub proof-odd : (m : ℕ) (ds : List (List ℕ)) → m < length ds → m % 2 ≡ 1 → proof hash m ds ≡ own_part true m ds ++ path hash (m - 1) ds
  proof-odd m ds less odd =
      let n = length ds in
      sym (sub_enough hash true n m ds (le_pow n)) ∙ sub_at_odd n m true ds (le_pow n) odd (inl less)
      ∙ ap (λ t. own_part true m ds ++ t) (path_enough hash n (m - 1) ds (le_pow n))

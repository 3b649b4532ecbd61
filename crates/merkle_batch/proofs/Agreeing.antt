-- What lists have in common where one tree stands for them.
use Rattle.std.proofs.Common.{◌≡◌, ℕ, ◌+◌, ◌-◌, ◌*◌, ◌/◌, ◌%◌, ◌≤◌, inl, inr, Option, Some, List, [], ◌∷◌, ◌++◌, length, get_or, take, drop, refl, sym, ap, ap₂, ◌∙◌, arith, length-take-le, length-drop, drop-drop, take-append-drop}
use Rattle.std.proofs.lemmas.List.{drop-take, nil_from_length}
use Rattle.std.proofs.lemmas.Bool.{cases_eq}
use Rattle.tree_model.specs.Tree.{Hash, root}
use Rattle.tree_model.specs.Halves.{pairs, edge, joined_node}
use Rattle.tree_model.specs.Peaks.{peaks}
use Rattle.tree_model.proofs.Halves.{length-pairs, root-halve}
use Rattle.tree_model.proofs.Peaks.{peaks-pairs, pairs-take, pairs-drop}
use Rattle.merkle_batch.specs.Rows.{Row, first_of, KeepsNodes}
use Rattle.merkle_batch.proofs.Keeping.{join_even, join_odd}
use Rattle.merkle_batch.proofs.Peaking.{same_front, same_back}

module _ (p : ℕ) (ds : List (List ℕ)) (floor : p ≤ length ds) where
  -- what of the first p stands behind the last whole pair
  pub odd_part : drop (2 * (length (take p ds) / 2)) (take p ds) ≡ take (p - first_of p) (drop (first_of p) ds)
  odd_part =
      let len : length (take p ds) ≡ p = length-take-le p ds floor in
      let sum : p ≡ first_of p + (p - first_of p) = omega arith in
      ap (λ j. drop (2 * (j / 2)) (take p ds)) len ∙ ap (λ j. drop (first_of p) (take j ds)) sum ∙ drop-take (first_of p) (p - first_of p) ds

  -- it is as long as the first p are odd
  pub length_odd : length (take (p - first_of p) (drop (first_of p) ds)) ≡ p - first_of p
  length_odd = length-take-le (p - first_of p) (drop (first_of p) ds) (omega (arith, length-drop (first_of p) ds))

  -- behind the last whole pair stand that part and the rest
  pub odd_rest : drop (first_of p) ds ≡ take (p - first_of p) (drop (first_of p) ds) ++ drop p ds
  odd_rest =
      let sum : first_of p + (p - first_of p) ≡ p = omega arith in
      sym (take-append-drop (p - first_of p) (drop (first_of p) ds))
      ∙ ap (λ t. take (p - first_of p) (drop (first_of p) ds) ++ t) (drop-drop (p - first_of p) (first_of p) ds ∙ ap (λ j. drop j ds) sum)

  -- the peaks of the first p: those of the next level, and that part
  pub front_peaks : (hash : Hash) → peaks hash (take p ds) ≡ peaks hash (take (p / 2) (pairs hash ds)) ++ take (p - first_of p) (drop (first_of p) ds)
  front_peaks hash = peaks-pairs hash (take p ds) ∙ ap₂ (λ a b. peaks hash a ++ b) (pairs-take hash p ds) odd_part

  -- the nodes above from the floor on
  pub above_floor : (hash : Hash) → drop (p / 2) (pairs hash ds) ≡ pairs hash (drop (first_of p) ds)
  above_floor hash = sym (pairs-drop hash (p / 2) ds)

-- lists that the same rows keep have the same peaks before the floor
pub same_peaks : (hash : Hash) (p : ℕ) (rows : List Row) (ds es : List (List ℕ)) → p ≤ length ds → p ≤ length es → KeepsNodes hash p rows ds → KeepsNodes hash p rows es → peaks hash (take p ds) ≡ peaks hash (take p es)
unfolding KeepsNodes
same_peaks hash p [] ds es fits within one two = ap (λ t. peaks hash (take p t)) (one ∙ sym two)
same_peaks hash p (row ∷ rows) ds es fits within one two =
    front_peaks p ds fits hash
    ∙ ap₂ (λ a b. a ++ b)
    (same_peaks hash (p / 2) rows (pairs hash ds) (pairs hash es) (omega (arith, length-pairs hash ds)) (omega (arith, length-pairs hash es)) one.1 two.1)
    (ap (take (p - first_of p)) (sym one.0 ∙ two.0))
    ∙ sym (front_peaks p es within hash)

-- and the same root
pub same_roots : (hash : Hash) (p : ℕ) (rows : List Row) (ds es : List (List ℕ)) (behind : Option (List ℕ)) → p ≤ length ds → p ≤ length es → KeepsNodes hash p rows ds → KeepsNodes hash p rows es → root hash (take p ds ++ edge behind) ≡ root hash (take p es ++ edge behind)
unfolding KeepsNodes
same_roots hash p [] ds es behind fits within one two = ap (λ t. root hash (take p t ++ edge behind)) (one ∙ sym two)
same_roots hash p (row ∷ rows) ds es behind fits within one two =
    let fits_up : p / 2 ≤ length (pairs hash ds) = omega (arith, length-pairs hash ds) in
    let within_up : p / 2 ≤ length (pairs hash es) = omega (arith, length-pairs hash es) in
    root-halve hash (take p ds ++ edge behind)
    ∙ elim (cases_eq (p % 2) 0) [
      | inl even ↦
          ap (root hash) (join_even hash p ds fits row p fits one.0 behind even)
          ∙ same_roots hash (p / 2) rows (pairs hash ds) (pairs hash es) behind fits_up within_up one.1 two.1
          ∙ ap (root hash) (sym (join_even hash p es within row p within two.0 behind even))
      | inr odd ↦
          let x = joined_node hash (get_or row.nodes 0 []) behind in
          ap (root hash) (join_odd hash p ds fits row p fits one.0 behind 0 x (omega arith) (omega arith) refl)
          ∙ same_roots hash (p / 2) rows (pairs hash ds) (pairs hash es) (Some x) fits_up within_up one.1 two.1
          ∙ ap (root hash) (sym (join_odd hash p es within row p within two.0 behind 0 x (omega arith) (omega arith) refl))
    ]
    ∙ sym (root-halve hash (take p es ++ edge behind))

-- a list with the same leaves from the floor on and the same peaks before it is kept as well
pub same_keeps : (hash : Hash) (p : ℕ) (rows : List Row) (ds es : List (List ℕ)) → p ≤ length ds → length ds ≡ length es → drop p ds ≡ drop p es → peaks hash (take p ds) ≡ peaks hash (take p es) → KeepsNodes hash p rows ds → KeepsNodes hash p rows es
unfolding KeepsNodes
same_keeps hash p [] ds es fits len leaves tops one = nil_from_length es (sym len ∙ ap length one)
same_keeps hash p (row ∷ rows) ds es fits len leaves tops one =
    let within : p ≤ length es = omega arith in
    let both = sym (front_peaks p ds fits hash) ∙ tops ∙ front_peaks p es within hash in
    let count = length_odd p ds fits ∙ sym (length_odd p es within) in
    let up = peaks hash (take (p / 2) (pairs hash ds)) in
    let other = peaks hash (take (p / 2) (pairs hash es)) in
    let odd = take (p - first_of p) (drop (first_of p) ds) in
    let even = take (p - first_of p) (drop (first_of p) es) in
    let here : drop (first_of p) ds ≡ drop (first_of p) es = odd_rest p ds fits ∙ ap₂ (λ a b. a ++ b) (same_back up odd other even both count) leaves ∙ sym (odd_rest p es within) in (
      one.0 ∙ here,
      same_keeps hash (p / 2) rows (pairs hash ds) (pairs hash es) (omega (arith, length-pairs hash ds)) (omega (arith, length-pairs hash ds, length-pairs hash es))
          (above_floor p ds fits hash ∙ ap (pairs hash) here ∙ sym (above_floor p es within hash))
          (same_front up odd other even both count) one.1,
    )

-- they have the same leaves from the floor on
pub same_leaves : (hash : Hash) (p : ℕ) (rows : List Row) (ds es : List (List ℕ)) → KeepsNodes hash p rows ds → KeepsNodes hash p rows es → drop p ds ≡ drop p es
unfolding KeepsNodes
same_leaves hash p [] ds es one two = ap (drop p) (one ∙ sym two)
same_leaves hash p (row ∷ rows) ds es one two =
    let sum : first_of p + (p - first_of p) ≡ p = omega arith in
    ap (λ j. drop j ds) (sym sum) ∙ sym (drop-drop (p - first_of p) (first_of p) ds) ∙ ap (drop (p - first_of p)) (sym one.0 ∙ two.0)
    ∙ drop-drop (p - first_of p) (first_of p) es ∙ ap (λ j. drop j es) sum

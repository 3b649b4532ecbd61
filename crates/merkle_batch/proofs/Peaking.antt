-- Peaks read from rows, and rows made from peaks.
use Rattle.std.proofs.Common.{◌≡◌, ℕ, suc, ◌+◌, ◌*◌, ◌/◌, ◌%◌, ◌≤◌, List, [], ◌∷◌, ◌++◌, length, take, drop, refl, sym, ap, ap₂, ◌∙◌, subst, arith, length-append, length-drop, append_assoc, take_at, drop_at, take-append-drop, take-take}
use Rattle.std.proofs.lemmas.List.{append-nil, drop_all, nil_from_length}
use Rattle.std.proofs.Math.Seq.{take-nil}
use Rattle.tree_model.specs.Tree.{Hash}
use Rattle.tree_model.specs.Halves.{pairs}
use Rattle.tree_model.specs.Peaks.{peaks}
use Rattle.tree_model.proofs.Peaks.{peaks-pairs, pairs-take, peaks_none}
use Rattle.tree_model.proofs.Halves.{length-pairs}
use Rattle.merkle_batch.specs.Rows.{Row, KeepsNodes, HasCounted, HasRoom, Levels, StandsFor}
use Rattle.merkle_batch.proofs.Keeping.{stands_of}

-- no peaks above the last row
pub peaks_end : (hash : Hash) (count : ℕ) (ds old : List (List ℕ)) → ds ≡ [] → old ≡ old ++ peaks hash (take count ds)
peaks_end hash count ds old none =
    sym (append-nil old) ∙ ap (λ t. old ++ t) (sym (ap (peaks hash) (ap (take count) none ∙ take-nil count) ∙ peaks_none hash))

-- the peaks of the levels above, and an odd last node
pub peaks_up : (hash : Hash) (count : ℕ) (ds old mid new side : List (List ℕ)) → mid ≡ old ++ peaks hash (take (count / 2) (pairs hash ds)) → new ≡ mid ++ side
    → drop (2 * (length (take count ds) / 2)) (take count ds) ≡ side → new ≡ old ++ peaks hash (take count ds)
peaks_up hash count ds old mid new side above more odd =
    let front = take count ds in
    more ∙ ap (λ t. t ++ side) above ∙ append_assoc old (peaks hash (take (count / 2) (pairs hash ds))) side
    ∙ ap (λ t. old ++ t) (ap₂ (λ a b. a ++ b) (ap (peaks hash) (sym (pairs-take hash count ds))) (sym odd) ∙ sym (peaks-pairs hash front))

-- two lists with equal ends of one length
pub same_front : {A : Type 0} (a b c d : List A) → a ++ b ≡ c ++ d → length b ≡ length d → a ≡ c
same_front a b c d is len =
    let count : length a ≡ length c = omega (arith, ap length is, length-append a b, length-append c d, len) in
    sym (take_at a b (length a) refl) ∙ ap (take (length a)) is ∙ take_at c d (length a) (sym count)

pub same_back : {A : Type 0} (a b c d : List A) → a ++ b ≡ c ++ d → length b ≡ length d → b ≡ d
same_back a b c d is len =
    let count : length a ≡ length c = omega (arith, ap length is, length-append a b, length-append c d, len) in
    sym (drop_at a b (length a) refl) ∙ ap (drop (length a)) is ∙ drop_at c d (length a) (sym count)

-- no peaks make no rows
pub no_rows : (rows : List Row) → drop (length rows) rows ≡ []
no_rows rows = drop_all (length rows) rows (omega arith)

pub none_counts : (p : ℕ) (rows : List Row) → p ≡ 0 → HasCounted p p (drop (length rows) rows)
unfolding HasCounted
none_counts p rows none = rw (no_rows rows) none

pub none_room : (rows : List Row) → HasRoom 0 (drop (length rows) rows)
unfolding HasRoom
none_room rows = rw (no_rows rows) refl

pub none_keeps : (hash : Hash) (p : ℕ) (rows : List Row) (ds : List (List ℕ)) → p ≡ 0 → length ds ≡ p → KeepsNodes hash p (drop (length rows) rows) ds
unfolding KeepsNodes
none_keeps hash p rows ds none len = rw (no_rows rows) (nil_from_length ds (len ∙ none))

module _ (old mid after : List Row) (row : Row) (push : mid ≡ old ++ row ∷ []) (front : take (length mid) after ≡ mid) where
  -- the rows behind the old ones
  pub behind : drop (length old) after ≡ row ∷ drop (length mid) after
  behind =
      let all : old ++ row ∷ drop (length mid) after ≡ after =
      sym (append_assoc old (row ∷ []) (drop (length mid) after)) ∙ ap (λ t. t ++ drop (length mid) after) (sym push ∙ sym front) ∙ take-append-drop (length mid) after in
      sym (ap (drop (length old)) all) ∙ drop_at old (row ∷ drop (length mid) after) (length old) refl

  -- the old ones stay
  pub in_front : take (length old) after ≡ old
  in_front =
      let more : length mid ≡ suc (length old) = omega (arith, ap length push, length-append old (row ∷ [])) in
      sym (take-take (length old) (length mid) after (omega (arith, more))) ∙ ap (take (length old)) (front ∙ push) ∙ take_at old (row ∷ []) (length old) refl

  module _ (p : ℕ) (len : length row.nodes ≡ p % 2) where
    -- the row and those above it count
    pub more_counts : HasCounted (p / 2) (p / 2) (drop (length mid) after) → HasCounted p p (drop (length old) after)
    unfolding HasCounted
    more_counts above = subst (HasCounted p p) (sym behind) (omega (arith, len), above)

    -- and have room
    pub more_room : length row.nodes ≤ row.room → HasRoom 0 (drop (length mid) after) → HasRoom 0 (drop (length old) after)
    unfolding HasRoom
    more_room room above =
        let none : (length row.nodes % 2 + 0) / 2 ≡ 0 = omega arith in
        subst (HasRoom 0) (sym behind) (omega (arith, room), subst (λ j. HasRoom j (drop (length mid) after)) (sym none) above)

    -- and keep the nodes over each list with these peaks
    pub more_keeps : (hash : Hash) (ds all rest : List (List ℕ)) → length ds ≡ p → all ≡ peaks hash ds → (p % 2 ≤ length all → all ≡ rest ++ row.nodes)
        → (length (pairs hash ds) ≡ p / 2 → rest ≡ peaks hash (pairs hash ds) → KeepsNodes hash (p / 2) (drop (length mid) after) (pairs hash ds)) → KeepsNodes hash p (drop (length old) after) ds
    unfolding KeepsNodes
    more_keeps hash ds all rest size is parts above =
        let back : length (drop (2 * (length ds / 2)) ds) ≡ p % 2 = omega (arith, length-drop (2 * (length ds / 2)) ds, size) in
        let both = is ∙ peaks-pairs hash ds in
        let count : length all ≡ length (peaks hash (pairs hash ds)) + p % 2 = omega (arith, ap length both, length-append (peaks hash (pairs hash ds)) (drop (2 * (length ds / 2)) ds), back) in
        let cut = sym (parts (omega (arith, count))) ∙ both in
        let same : length row.nodes ≡ length (drop (2 * (length ds / 2)) ds) = omega (arith, len, back) in
        let here = same_back rest row.nodes (peaks hash (pairs hash ds)) (drop (2 * (length ds / 2)) ds) cut same in
        let up = same_front rest row.nodes (peaks hash (pairs hash ds)) (drop (2 * (length ds / 2)) ds) cut same in
        subst (λ t. KeepsNodes hash p t ds) (sym behind)
        (here ∙ ap (λ j. drop (2 * (j / 2)) ds) size, above (omega (arith, length-pairs hash ds, size)) up)

-- a tree made from peaks
pub stands_peaks : (hash : Hash) (tree : Levels) (p : ℕ) (ds : List (List ℕ)) → tree.size ≡ p → tree.floor ≡ p → length ds ≡ p → KeepsNodes hash p tree.rows ds → StandsFor hash tree ds
stands_peaks hash tree p ds size floor len keeps = stands_of hash tree ds (len ∙ sym size) (subst (λ q. KeepsNodes hash q tree.rows ds) (sym floor) keeps)

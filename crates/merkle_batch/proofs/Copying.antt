-- Rows that were made for a stretch: copied from those of a tree, or made from its leaves.
use Rattle.std.proofs.Common.{◌≡◌, ℕ, ◌+◌, ◌-◌, ◌*◌, ◌/◌, ◌%◌, ◌<◌, ◌≤◌, List, [], ◌∷◌, ◌++◌, length, get_or, take, drop, map, refl, sym, ap, ◌∙◌, subst, arith, append_assoc, length-drop, length-take-le, take_all, drop-drop, drop_at, count_ones}
use Rattle.std.specs.Prelude.{Result, Ok, Err, IfOk, OnOk}
use Rattle.std.proofs.lemmas.List.{drop-take, drop_all, length-map, map_more, take-map, drop-map}
use Rattle.std.proofs.Math.Seq.{drop-nil}
use Rattle.tree_model.specs.Tree.{Hash, node}
use Rattle.tree_model.specs.Halves.{pairs}
use Rattle.tree_model.specs.RootFrom.{last_peak, other_peaks}
use Rattle.tree_model.proofs.Halves.{length-pairs}
use Rattle.tree_model.proofs.Peaks.{pairs-drop, pairs-take}
use Rattle.tree_model.proofs.PeakHalves.{length-last_peak, length-other_peaks}
use Rattle.merkle_batch.specs.Rows.{Row, first_of, HasCounted}
use Rattle.merkle_batch.specs.Over.{KeepsOver}
use Rattle.merkle_batch.specs.Stretches.{lowest, HoldsNodes}
use Rattle.merkle_batch.proofs.Peaking.{behind}
use Rattle.merkle_batch.proofs.Stretching.{pairs_both}

-- what an answer shows, where each value that it may have shows it
pub on_if : {A E : Type 0} {P Q : A → Type 0} (r : Result A E) → ((a : A) → P a → Q a) → IfOk r P → IfOk r Q
on_if (Ok a) f p = f a p
on_if (Err e) f p = p

-- three facts of an answer
pub on_all : {A E W X Y Z : Type 0} (r : Result A E) → (W → Y → Z → X) → OnOk r W → OnOk r Y → OnOk r Z → OnOk r X
on_all (Ok a) f w y z = f w y z
on_all (Err e) f w y z = w

module _ (hash : Hash) where
  -- no nodes have no pairs
  pub pairs_none : pairs hash [] ≡ []
  unfolding pairs
  pairs_none = refl

  -- one pair more
  pub pairs_step : {A : Type 0} (f : A → List ℕ) (xs : List A) (k : ℕ) (d e : A) (x : List ℕ) → k < length xs / 2 → x ≡ node hash (f (get_or xs (2 * k) d)) (f (get_or xs (2 * k + 1) e))
      → pairs hash (map f (take (2 * k) xs)) ++ x ∷ [] ≡ pairs hash (map f (take (2 * (k + 1)) xs))
  unfolding pairs
  pairs_step f xs k d e x within made =
      let us = map f (take (2 * k) xs) in
      let a = f (get_or xs (2 * k) d) in
      let b = f (get_or xs (2 * k + 1) e) in
      let twice : 2 * (k + 1) ≡ 2 * k + 1 + 1 = omega arith in
      let even : length us % 2 ≡ 0 = omega (arith, length-map (take (2 * k) xs) f, length-take-le (2 * k) xs (omega arith)) in
      let list : map f (take (2 * (k + 1)) xs) ≡ us ++ (a ∷ b ∷ []) =
      ap (λ j. map f (take j xs)) twice ∙ map_more f xs (2 * k + 1) e (omega arith) ∙ ap (λ t. t ++ b ∷ []) (map_more f xs (2 * k) d (omega arith)) ∙ append_assoc us (a ∷ []) (b ∷ []) in
      sym (ap (pairs hash) list ∙ pairs_both hash us (a ∷ b ∷ []) even ∙ ap (λ t. pairs hash us ++ t ∷ []) (sym made))

  -- an odd last node is in no pair
  pub pairs_whole : {A : Type 0} (f : A → List ℕ) (xs : List A) (k : ℕ) → k ≡ length xs / 2 → pairs hash (map f (take (2 * k) xs)) ≡ pairs hash (map f xs)
  pairs_whole f xs k is =
      let half : 2 * k / 2 ≡ k = omega arith in
      ap (pairs hash) (sym (take-map f (2 * k) xs)) ∙ pairs-take hash (2 * k) (map f xs) ∙ ap (λ j. take j (pairs hash (map f xs))) half
      ∙ take_all k (pairs hash (map f xs)) (omega (arith, length-pairs hash (map f xs), length-map xs f, is))

-- the lowest of the rows that were put behind others
pub lowest_behind : (old mid after : List Row) (row : Row) → mid ≡ old ++ row ∷ [] → take (length mid) after ≡ mid → lowest (drop (length old) after) ≡ row.nodes
unfolding lowest
lowest_behind old mid after row push front = ap lowest (behind old mid after row push front)

-- where none was put, there are none
pub lowest_end : (rows : List Row) → lowest (drop (length rows) rows) ≡ []
unfolding lowest
lowest_end rows = ap lowest (drop_all (length rows) rows (omega arith))

pub holds_end : (hash : Hash) (start : ℕ) (rows : List Row) → HoldsNodes hash start (drop (length rows) rows)
unfolding HoldsNodes
holds_end hash start rows = subst (HoldsNodes hash start) (sym (drop_all (length rows) rows (omega arith))) tt

-- a row and those above it hold nodes
pub holds_behind : (hash : Hash) (start : ℕ) (old mid after : List Row) (row : Row) → mid ≡ old ++ row ∷ [] → take (length mid) after ≡ mid
    → lowest (drop (length mid) after) ≡ pairs hash (drop (start % 2) row.nodes) → HoldsNodes hash (start / 2 + start % 2) (drop (length mid) after) → HoldsNodes hash start (drop (length old) after)
unfolding HoldsNodes
holds_behind hash start old mid after row push front here above = subst (HoldsNodes hash start) (sym (behind old mid after row push front)) (here, above)

-- the lowest row keeps nodes of its level
lowest_over : (hash : Hash) (p floor : ℕ) (rows : List Row) (ps xs : List (List ℕ)) → KeepsOver hash p floor rows ps xs → lowest rows ≡ drop (first_of floor - first_of p) (last_peak p ps ++ xs)
unfolding KeepsOver lowest
lowest_over hash p floor [] ps xs keeps =
    let none : last_peak p ps ≡ [] = ap (last_peak p) keeps.1 ∙ drop-nil (length {A = List ℕ} [] - p % 2) in
    sym (ap (drop (first_of floor - first_of p)) (ap (λ t. t ++ xs) none ∙ keeps.2) ∙ drop-nil (first_of floor - first_of p))
lowest_over hash p floor (row ∷ rows) ps xs keeps = keeps.0

-- from the floor on these are those behind the peaks
pub lowest_from : (hash : Hash) (p floor j : ℕ) (rows : List Row) (ps xs : List (List ℕ)) → length ps ≡ count_ones p → p ≤ floor → floor ≤ j → KeepsOver hash p floor rows ps xs
    → drop (j - first_of floor) (lowest rows) ≡ drop (j - p) xs
lowest_from hash p floor j rows ps xs count le low keeps =
    let one : length (last_peak p ps) ≡ p % 2 = length-last_peak ps p count in
    let far : (first_of floor - first_of p) + (j - first_of floor) ≡ p % 2 + (j - p) = omega arith in
    ap (drop (j - first_of floor)) (lowest_over hash p floor rows ps xs keeps) ∙ drop-drop (j - first_of floor) (first_of floor - first_of p) (last_peak p ps ++ xs)
    ∙ ap (λ i. drop i (last_peak p ps ++ xs)) far ∙ sym (drop-drop (j - p) (p % 2) (last_peak p ps ++ xs))
    ∙ ap (drop (j - p)) (drop_at (last_peak p ps) xs (p % 2) one)

-- all nodes of a level stand in front of the end of the lowest row
pub lowest_count : (p count : ℕ) (rows : List Row) → p ≤ count → HasCounted p count rows → first_of p + length (lowest rows) ≡ count
unfolding HasCounted lowest
lowest_count p count [] low counts = omega (arith, counts, low)
lowest_count p count (row ∷ rows) low counts = counts.0

-- the copied nodes, counted from the first of their level
pub copied_nodes : (p from to : ℕ) (nodes copied : List (List ℕ)) → p ≤ from → copied ≡ take (to - p / 2 * 2 - (from - p / 2 * 2)) (drop (from - p / 2 * 2) nodes) → copied ≡ take (to - from) (drop (from - first_of p) nodes)
copied_nodes p from to nodes copied low is =
    let skip : from - p / 2 * 2 ≡ from - first_of p = omega arith in
    let len : to - p / 2 * 2 - (from - p / 2 * 2) ≡ to - from = omega arith in
    is ∙ ap (λ j. take j (drop (from - p / 2 * 2) nodes)) len ∙ ap (λ j. take (to - from) (drop j nodes)) skip

-- where none is copied
pub copied_none : (p from to : ℕ) (rows copies : List Row) → to ≤ from → lowest (drop (length copies) copies) ≡ take (to - from) (drop (from - first_of p) (lowest rows))
copied_none p from to rows copies none =
    let zero_len : to - from ≡ 0 = omega arith in
    lowest_end copies ∙ sym (ap (λ j. take j (drop (from - first_of p) (lowest rows))) zero_len)

module _ (hash : Hash) (q p : ℕ) (ps xs : List (List ℕ)) (count : length ps ≡ count_ones q) (le : q ≤ p) (from to : ℕ) (low : p ≤ from) (some : from < to) where
  -- the copied nodes of a level are those over the pairs of the level below
  pub copied_pairs : (row : Row) (rows : List Row) (copied up : List (List ℕ)) → copied ≡ take (to - from) (drop (from - first_of p) row.nodes)
      → up ≡ take (to / 2 - (from / 2 + from % 2)) (drop (from / 2 + from % 2 - first_of (p / 2)) (lowest rows)) → row.nodes ≡ drop (first_of p - first_of q) (last_peak q ps ++ xs)
      → KeepsOver hash (q / 2) (p / 2) rows (other_peaks q ps) (pairs hash (last_peak q ps ++ xs)) → up ≡ pairs hash (drop (from % 2) copied)
  copied_pairs row rows copied up here there is keeps =
      let c = last_peak q ps ++ xs in
      let next = from / 2 + from % 2 in
      let last = to - from - from % 2 in
      let skip : (first_of p - first_of q) + (from - first_of p) ≡ from - first_of q = omega arith in
      let parts : to - from ≡ from % 2 + last = omega arith in
      let far : (from - first_of q) + from % 2 ≡ 2 * (next - q / 2) = omega arith in
      let half : last / 2 ≡ to / 2 - next = omega arith in
      let mine : drop (from % 2) copied ≡ take last (drop (2 * (next - q / 2)) c) =
      ap (drop (from % 2)) (here ∙ ap (λ t. take (to - from) (drop (from - first_of p) t)) is ∙ ap (take (to - from)) (drop-drop (from - first_of p) (first_of p - first_of q) c ∙ ap (λ j. drop j c) skip) ∙ ap (λ j. take j (drop (from - first_of q) c)) parts)
      ∙ drop-take (from % 2) last (drop (from - first_of q) c) ∙ ap (take last) (drop-drop (from % 2) (from - first_of q) c ∙ ap (λ j. drop j c) far) in
      let over : pairs hash (drop (from % 2) copied) ≡ take (to / 2 - next) (drop (next - q / 2) (pairs hash c)) =
      ap (pairs hash) mine ∙ pairs-take hash last (drop (2 * (next - q / 2)) c) ∙ ap (λ t. take (last / 2) t) (pairs-drop hash (next - q / 2) c) ∙ ap (λ j. take j (drop (next - q / 2) (pairs hash c))) half in
      there ∙ ap (take (to / 2 - next)) (lowest_from hash (q / 2) (p / 2) next rows (other_peaks q ps) (pairs hash c) (length-other_peaks ps q count) (omega arith) (omega arith) keeps) ∙ sym over

-- the nodes from a place on, of those of a row
pub nodes_from : {A : Type 0} (f : A → List ℕ) (xs : List A) (nodes : List (List ℕ)) (n : ℕ) → map f xs ≡ nodes → map f (take (length xs - n) (drop n xs)) ≡ drop n nodes
nodes_from f xs nodes n is =
    ap (map f) (take_all (length xs - n) (drop n xs) (omega (arith, length-drop n xs))) ∙ sym (drop-map f n xs) ∙ ap (drop n) is

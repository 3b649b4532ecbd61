-- What a tree stands for as the leaves of a stretch are added, and that it always stands for something.
use Rattle.std.proofs.Common.{◌≡◌, ℕ, ◌+◌, ◌-◌, ◌/◌, ◌%◌, ◌≤◌, List, [], ◌∷◌, ◌++◌, length, drop, refl, sym, ap, ◌∙◌, subst, arith, length-append, length-drop, drop-drop, count_ones}
use Rattle.std.proofs.lemmas.Nat.{ones_le_self}
use Rattle.std.specs.Int.Count.{ones_step}
use Rattle.std.proofs.Math.Seq.{drop-nil}
use Rattle.tree_model.specs.Tree.{Hash}
use Rattle.tree_model.specs.Halves.{pairs}
use Rattle.tree_model.specs.RootFrom.{last_peak, other_peaks}
use Rattle.tree_model.proofs.Halves.{length-pairs}
use Rattle.tree_model.proofs.PeakHalves.{length-other_peaks}
use Rattle.merkle_batch.specs.Rows.{Row, first_of, KeepsNodes, HasCounted, Grown, Forgot, Levels, StandsFor}
use Rattle.merkle_batch.specs.Over.{KeepsOver, StandsOver, IsOverSome}
use Rattle.merkle_batch.specs.Stretches.{lowest}
use Rattle.merkle_batch.proofs.Keeping.{stands_size, stands_keeps, stands_of}
use Rattle.merkle_batch.proofs.Over.{length-level, peaks_over, over_ones, over_floor, over_size, over_keeps, over_of, over_more, over_grown, over_forgot}

-- rows that keep nodes over a list keep them over no peaks and that list
keeps_over : (hash : Hash) (p : ℕ) (rows : List Row) (ds : List (List ℕ)) → KeepsNodes hash p rows ds → KeepsOver hash 0 p rows [] ds
unfolding KeepsNodes KeepsOver
keeps_over hash p [] ds keeps = (refl, refl, keeps)
keeps_over hash p (row ∷ rows) ds keeps =
    let all : first_of p ≡ first_of p - first_of 0 = omega arith in
    (keeps.0 ∙ ap (λ j. drop j ds) all, keeps_over hash (p / 2) rows (pairs hash ds) keeps.1)

-- and the other way round
over_nodes : (hash : Hash) (p : ℕ) (rows : List Row) (ds : List (List ℕ)) → KeepsOver hash 0 p rows [] ds → KeepsNodes hash p rows ds
unfolding KeepsNodes KeepsOver
over_nodes hash p [] ds keeps = keeps.2
over_nodes hash p (row ∷ rows) ds keeps =
    let all : first_of p - first_of 0 ≡ first_of p = omega arith in
    (keeps.0 ∙ ap (λ j. drop j ds) all, over_nodes hash (p / 2) rows (pairs hash ds) keeps.1)

-- from the floor on the lowest row keeps the leaves
pub lowest_nodes : (hash : Hash) (p j : ℕ) (rows : List Row) (ds : List (List ℕ)) → p ≤ j → KeepsNodes hash p rows ds → drop (j - first_of p) (lowest rows) ≡ drop j ds
unfolding KeepsNodes lowest
lowest_nodes hash p j [] ds low keeps = drop-nil (j - first_of p) ∙ sym (ap (drop j) keeps ∙ drop-nil j)
lowest_nodes hash p j (row ∷ rows) ds low keeps =
    let far : first_of p + (j - first_of p) ≡ j = omega arith in
    ap (drop (j - first_of p)) keeps.0 ∙ drop-drop (j - first_of p) (first_of p) ds ∙ ap (λ i. drop i ds) far

-- rows that keep nodes count them
over_counts : (hash : Hash) (p floor : ℕ) (rows : List Row) (ps xs : List (List ℕ)) → length ps ≡ count_ones p → p ≤ floor → floor ≤ p + length xs → KeepsOver hash p floor rows ps xs → HasCounted floor (p + length xs) rows
unfolding KeepsOver HasCounted
over_counts hash p floor [] ps xs count le fits keeps = omega (arith, keeps.0, ap length keeps.2)
over_counts hash p floor (row ∷ rows) ps xs count le fits keeps =
    let k = first_of floor - first_of p in
    let c = last_peak p ps ++ xs in
    let len : length c ≡ p % 2 + length xs = length-level p ps xs count in
    let half : length (pairs hash c) ≡ (p % 2 + length xs) / 2 = omega (arith, length-pairs hash c, len) in
    let up : p / 2 + length (pairs hash c) ≡ (p + length xs) / 2 = omega (arith, half) in (
      omega (arith, ap length keeps.0, length-drop k c, len),
      subst (λ n. HasCounted (floor / 2) n rows) up (over_counts hash (p / 2) (floor / 2) rows (other_peaks p ps) (pairs hash c) (length-other_peaks ps p count) (omega arith) (omega (arith, half)) keeps.1),
    )

-- rows that keep only peaks keep them over some peaks
peaks_some : (hash : Hash) (p : ℕ) (rows : List Row) → HasCounted p p rows → (ps : List (List ℕ)) × (length ps ≡ count_ones p) × KeepsOver hash p p rows ps []
unfolding HasCounted KeepsOver
peaks_some hash p [] counts =
    let few : count_ones 0 ≡ 0 = omega (arith, ones_le_self 0) in
    ([], sym (ap (λ j. count_ones j) counts ∙ few), (counts, refl, refl))
peaks_some hash p (row ∷ rows) counts =
    let up = peaks_some hash (p / 2) rows counts.1 in
    let odd : length row.nodes ≡ p % 2 = omega (arith, counts.0) in
    let all : length (up.0 ++ row.nodes) ≡ count_ones p = omega (arith, length-append up.0 row.nodes, odd, up.1, ones_step p) in
    (up.0 ++ row.nodes, all, peaks_over hash p row rows (up.0 ++ row.nodes) up.0 all odd refl (λ len. up.2))

module _ (hash : Hash) (tree : Levels) where
  -- a tree that stands for something
  pub over_some_of : (p : ℕ) (ps xs : List (List ℕ)) → StandsOver hash tree p ps xs → IsOverSome hash tree
  unfolding IsOverSome
  over_some_of p ps xs stands = (p, ps, xs, stands)

  -- a tree that was made of peaks
  pub some_peaks : (p : ℕ) → tree.size ≡ p → tree.floor ≡ p → HasCounted p p tree.rows → IsOverSome hash tree
  some_peaks p size floor counts =
      let some = peaks_some hash p tree.rows counts in
      over_some_of p some.0 [] (over_of hash tree p some.0 [] some.1 (omega (arith, floor)) (omega (arith, size)) (subst (λ f. KeepsOver hash p f tree.rows some.0 []) (sym floor) some.2))

  -- it counts its leaves
  pub some_counts : tree.floor ≤ tree.size → IsOverSome hash tree → HasCounted tree.floor tree.size tree.rows
  unfolding IsOverSome
  some_counts floor some =
      let stands = some.3 in
      let size = over_size hash tree some.0 some.1 some.2 stands in
      subst (λ n. HasCounted tree.floor n tree.rows) size
      (over_counts hash some.0 tree.floor tree.rows some.1 some.2 (over_ones hash tree some.0 some.1 some.2 stands) (over_floor hash tree some.0 some.1 some.2 stands) (omega (arith, size, floor)) (over_keeps hash tree some.0 some.1 some.2 stands))

-- what it stands for shows what follows from any
pub some_gives : {X : Type 0} (hash : Hash) (tree : Levels) → IsOverSome hash tree → ((p : ℕ) (ps xs : List (List ℕ)) → length ps ≡ count_ones p → p ≤ tree.floor → KeepsOver hash p tree.floor tree.rows ps xs → X) → X
unfolding IsOverSome
some_gives hash tree some gives =
    gives some.0 some.1 some.2 (over_ones hash tree some.0 some.1 some.2 some.3) (over_floor hash tree some.0 some.1 some.2 some.3) (over_keeps hash tree some.0 some.1 some.2 some.3)

module _ (hash : Hash) (old new : Levels) where
  -- it does so after a leaf was added
  pub some_more : (x : List ℕ) → old.floor ≤ old.size → new.size ≡ old.size + 1 → new.floor ≡ old.floor
      → ((q f : ℕ) (qs es : List (List ℕ)) → length qs ≡ count_ones q → q ≤ f → f ≤ q + length es → KeepsOver hash q f old.rows qs es → KeepsOver hash q f new.rows qs (es ++ x ∷ []))
      → IsOverSome hash old → IsOverSome hash new
  unfolding IsOverSome
  some_more x floor size same keeps some = (some.0, some.1, some.2 ++ x ∷ [], over_more hash old new x floor size same keeps some.0 some.1 some.2 some.3)

  -- after it has grown
  pub some_grown : new.size ≡ old.size → new.floor ≡ old.floor → Grown old.rows new.rows → IsOverSome hash old → IsOverSome hash new
  unfolding IsOverSome
  some_grown size floor grown some = (some.0, some.1, some.2, over_grown hash old new size floor grown some.0 some.1 some.2 some.3)

  -- and after it has forgotten
  pub some_forgot : old.floor ≤ new.floor → new.size ≡ old.size → Forgot old.floor new.floor old.rows new.rows → IsOverSome hash old → IsOverSome hash new
  unfolding IsOverSome
  some_forgot le size forgot some = (some.0, some.1, some.2, over_forgot hash old new le size forgot some.0 some.1 some.2 some.3)

  module _ (leaves : List (List ℕ)) (floor : old.floor ≤ old.size) (size : new.size ≡ old.size + length leaves) (same : new.floor ≡ old.floor)
      (keeps : (q f : ℕ) (qs es : List (List ℕ)) → length qs ≡ count_ones q → q ≤ f → f ≤ q + length es → KeepsOver hash q f old.rows qs es → KeepsOver hash q f new.rows qs (es ++ leaves))
    where
      -- the leaves of a stretch more, over peaks
      pub over_joined : (p : ℕ) (ps xs : List (List ℕ)) → StandsOver hash old p ps xs → StandsOver hash new p ps (xs ++ leaves)
      over_joined p ps xs stands =
          let ones = over_ones hash old p ps xs stands in
          let low = over_floor hash old p ps xs stands in
          let len = over_size hash old p ps xs stands in
          over_of hash new p ps (xs ++ leaves) ones (omega (arith, low, same)) (omega (arith, len, size, length-append xs leaves))
          (subst (λ f. KeepsOver hash p f new.rows ps (xs ++ leaves)) (sym same) (keeps p old.floor ps xs ones low (omega (arith, len, floor)) (over_keeps hash old p ps xs stands)))

      -- and of a list
      pub stands_joined : (ds : List (List ℕ)) → StandsFor hash old ds → StandsFor hash new (ds ++ leaves)
      stands_joined ds stands =
          let few : count_ones 0 ≡ 0 = omega (arith, ones_le_self 0) in
          let len = stands_size hash old ds stands in
          stands_of hash new (ds ++ leaves) (omega (arith, len, size, length-append ds leaves))
          (subst (λ p. KeepsNodes hash p new.rows (ds ++ leaves)) (sym same)
          (over_nodes hash old.floor new.rows (ds ++ leaves) (keeps 0 old.floor [] ds (sym few) (omega arith) (omega (arith, len, floor)) (keeps_over hash old.floor old.rows ds (stands_keeps hash old ds stands)))))

      -- it stands for something after they were added
      pub some_joined : IsOverSome hash old → IsOverSome hash new
      unfolding IsOverSome
      some_joined some = (some.0, some.1, some.2 ++ leaves, over_joined some.0 some.1 some.2 some.3)

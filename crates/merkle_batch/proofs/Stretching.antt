-- Rows to which the nodes of a stretch are added, and rows that hold a stretch.
use Rattle.std.proofs.Common.{◌≡◌, ℕ, suc, ◌+◌, ◌-◌, ◌/◌, ◌%◌, ◌<◌, ◌≤◌, Option, Some, None, List, [], ◌∷◌, ◌++◌, length, get_or, set, take, drop, map, refl, sym, ap, ap₂, ◌∙◌, subst, arith, append_assoc, length-append, length-drop, length-take-le, take-append-drop, take_all, count_ones}
use Rattle.std.proofs.lemmas.List.{append-nil, nil_from_length, drop-append-le, get_or_append_left, drop_all, drop-set-lt}
use Rattle.std.proofs.Math.Seq.{drop-nil}
use Rattle.tree_model.specs.Tree.{Hash, node}
use Rattle.tree_model.specs.Halves.{pairs, edge}
use Rattle.tree_model.specs.RootFrom.{last_peak, other_peaks}
use Rattle.tree_model.proofs.Halves.{length-pairs}
use Rattle.tree_model.proofs.Rising.{pairs_more, pairs_next}
use Rattle.tree_model.proofs.PeakHalves.{length-other_peaks}
use Rattle.merkle_batch.specs.Rows.{Row, first_of, HasCounted, HasRoom}
use Rattle.merkle_batch.specs.Over.{KeepsOver}
use Rattle.merkle_batch.specs.Stretches.{lowest, HoldsNodes}
use Rattle.merkle_batch.proofs.Climbing.{parts, above}
use Rattle.merkle_batch.proofs.Placing.{at_level, after_set}
use Rattle.merkle_batch.proofs.Over.{length-level}

-- at most one digest stands at the edge
pub edge_few : (o : Option (List ℕ)) → length (edge o) ≤ 1
edge_few None = omega arith
edge_few (Some d) = omega arith

-- of no values there are none
pub none_mapped : {A : Type 0} (f : A → List ℕ) (xs : List A) → length xs < 1 → length (map f xs) < 1
none_mapped f [] few = omega arith
none_mapped f (x ∷ rest) few = absurd (omega arith)

-- values are the first and those behind it
pub head_rest : {A : Type 0} (f : A → List ℕ) (xs : List A) (d : A) → 1 ≤ length xs → map f xs ≡ f (get_or xs 0 d) ∷ map f (take (length xs - 1) (drop 1 xs))
head_rest f [] d some = absurd (omega arith)
head_rest f (x ∷ rest) d some = ap (λ t. f x ∷ map f t) (sym (take_all (length (x ∷ rest) - 1) rest (omega arith)))

module _ (hash : Hash) where
  -- the pairs of an even number of nodes, and of those behind them
  pub pairs_both : (us vs : List (List ℕ)) → length us % 2 ≡ 0 → pairs hash (us ++ vs) ≡ pairs hash us ++ pairs hash vs
  unfolding pairs
  pairs_both [] vs even = refl
  pairs_both (x ∷ []) vs even = absurd (omega arith)
  pairs_both (x ∷ y ∷ rest) vs even = ap (λ t. node hash x y ∷ t) (pairs_both rest vs (omega arith))

  module _ (old new : List (List ℕ)) (d : List ℕ) (push : new ≡ old ++ d ∷ []) where
    len_more : length new ≡ suc (length old)
    len_more = omega (arith, ap length push, length-append old (d ∷ []))

    -- a node that makes a pair
    pub push_pair : (left x : List ℕ) → length new % 2 ≡ 0 → left ≡ get_or new (length new - 2) [] → x ≡ node hash left d → pairs hash new ≡ pairs hash old ++ x ∷ []
    push_pair left x even is made =
        let place : length new - 2 ≡ length old - 1 = omega (arith, len_more) in
        let last : left ≡ get_or old (length old - 1) [] =
        is ∙ ap (λ t. get_or t (length new - 2) []) push ∙ get_or_append_left old (d ∷ []) [] (length new - 2) (omega (arith, len_more, even)) ∙ ap (λ j. get_or old j []) place in
        ap (pairs hash) push ∙ pairs_next hash old d (omega (arith, len_more, even)) ∙ ap (λ t. pairs hash old ++ t ∷ []) (ap (λ l. node hash l d) (sym last) ∙ sym made)

    -- one that makes none
    pub push_one : length new % 2 ≡ 1 → pairs hash new ≡ pairs hash old ++ []
    push_one odd = ap (pairs hash) push ∙ pairs_more hash old d (omega (arith, len_more, odd)) ∙ sym (append-nil (pairs hash old))

  module _ (old mid es js ns : List (List ℕ)) (start : ℕ) (seam : mid ≡ old ++ es) (up : pairs hash mid ≡ pairs hash old ++ js) (place : start % 2 ≡ (length old + length es) % 2) where
    len_mid : length mid ≡ length old + length es
    len_mid = ap length seam ∙ length-append old es

    -- nodes behind an even number
    pub extend_even : (new : List (List ℕ)) → new ≡ mid ++ ns → start % 2 ≡ 0 → pairs hash new ≡ pairs hash old ++ (js ++ pairs hash (drop (start % 2) ns))
    extend_even new more even =
        ap (pairs hash) more ∙ pairs_both mid ns (omega (arith, len_mid, place, even)) ∙ ap (λ t. t ++ pairs hash ns) up ∙ append_assoc (pairs hash old) js (pairs hash ns)
        ∙ ap (λ j. pairs hash old ++ (js ++ pairs hash (drop j ns))) (sym even)

    module _ (odd : start % 2 ≡ 0 → ⊥) (few : length es ≤ 1) where
      -- the node at the seam makes no pair where the next one does
      none_joined : js ≡ []
      none_joined =
          let one : start % 2 ≡ 1 = omega (arith, odd) in
          let both : length mid / 2 ≡ length old / 2 + length js =
          sym (length-pairs hash mid) ∙ ap length up ∙ length-append (pairs hash old) js ∙ ap (λ j. j + length js) (length-pairs hash old) in
          nil_from_length js (omega (arith, both, len_mid, place, one, few))

      -- no nodes
      pub extend_none : length ns < 1 → pairs hash mid ≡ pairs hash old ++ pairs hash (drop (start % 2) ns)
      unfolding pairs
      extend_none none =
          let back : drop (start % 2) ns ≡ [] = ap (drop (start % 2)) (nil_from_length ns (omega (arith, none))) ∙ drop-nil (start % 2) in
          up ∙ ap (λ t. pairs hash old ++ t) (none_joined ∙ sym (ap (pairs hash) back))

      -- a node that makes a pair, and those behind it
      pub extend_odd : (two new rest ks : List (List ℕ)) (x : List ℕ) → two ≡ mid ++ x ∷ [] → pairs hash two ≡ pairs hash mid ++ ks → new ≡ two ++ rest → ns ≡ x ∷ rest
          → pairs hash new ≡ pairs hash old ++ (ks ++ pairs hash (drop (start % 2) ns))
      extend_odd two new rest ks x push more end is =
          let one : start % 2 ≡ 1 = omega (arith, odd) in
          let len : length two ≡ suc (length mid) = omega (arith, ap length push, length-append mid (x ∷ [])) in
          let same : pairs hash mid ≡ pairs hash old = up ∙ ap (λ t. pairs hash old ++ t) none_joined ∙ append-nil (pairs hash old) in
          ap (pairs hash) end ∙ pairs_both two rest (omega (arith, len, len_mid, place, one)) ∙ ap (λ t. t ++ pairs hash rest) (more ∙ ap (λ t. t ++ ks) same)
          ∙ append_assoc (pairs hash old) ks (pairs hash rest)
          ∙ ap (λ t. pairs hash old ++ (ks ++ pairs hash t)) (sym (ap₂ drop one is))

  -- how many nodes a level adds to the next
  pub up_count : (old new ts : List (List ℕ)) (n : ℕ) → pairs hash new ≡ pairs hash old ++ ts → length new ≡ length old + n → length ts ≡ (length old % 2 + n) / 2
  up_count old new ts n up len =
      let both : length new / 2 ≡ length old / 2 + length ts =
      sym (length-pairs hash new) ∙ ap length up ∙ length-append (pairs hash old) ts ∙ ap (λ j. j + length ts) (length-pairs hash old) in
      omega (arith, both, len)

-- nothing behind
pub none_behind : (es ls : List (List ℕ)) → length ls ≡ 0 → es ++ ls ≡ es
none_behind es ls none = ap (λ t. es ++ t) (nil_from_length ls none) ∙ append-nil es

module _ (rows : List Row) (row : Row) (some : 1 ≤ length rows) (is : row ≡ get_or rows 0 row) where
  -- the lowest row is the first
  pub lowest_first : lowest rows ≡ row.nodes
  unfolding lowest
  lowest_first = ap lowest (parts rows row some is)

  -- that above it holds the nodes over its pairs
  pub holds_here : (hash : Hash) (start : ℕ) → HoldsNodes hash start rows → lowest (above rows) ≡ pairs hash (drop (start % 2) row.nodes)
  unfolding HoldsNodes
  holds_here hash start holds = let both = subst (HoldsNodes hash start) (parts rows row some is) holds in both.0

  -- and so do those higher up
  pub holds_above : (hash : Hash) (start : ℕ) → HoldsNodes hash start rows → HoldsNodes hash (start / 2 + start % 2) (above rows)
  unfolding HoldsNodes
  holds_above hash start holds = let both = subst (HoldsNodes hash start) (parts rows row some is) holds in both.1

  module _ (hash : Hash) (start : ℕ) (holds : HoldsNodes hash start rows) (nodes seam joined : List (List ℕ)) (same : nodes ≡ row.nodes) (old new : Row)
      (more : new.nodes ≡ old.nodes ++ (seam ++ nodes)) (up : pairs hash new.nodes ≡ pairs hash old.nodes ++ (joined ++ pairs hash (drop (start % 2) nodes)))
    where
      -- the row to which the nodes of the lowest were added
      pub level_nodes : new.nodes ≡ old.nodes ++ (seam ++ lowest rows)
      level_nodes = more ∙ ap (λ t. old.nodes ++ (seam ++ t)) (same ∙ sym lowest_first)

      -- and what goes on above it
      pub level_up : pairs hash new.nodes ≡ pairs hash old.nodes ++ (joined ++ lowest (above rows))
      level_up = up ∙ ap (λ t. pairs hash old.nodes ++ (joined ++ t)) (ap (λ t. pairs hash (drop (start % 2) t)) same ∙ sym (holds_here hash start holds))

      -- how many were added
      pub level_len : length new.nodes ≡ length old.nodes + (length seam + length (lowest rows))
      level_len = omega (arith, ap length level_nodes, length-append old.nodes (seam ++ lowest rows), length-append seam (lowest rows))

      -- and how many go on above
      pub level_count : length joined + length (lowest (above rows)) ≡ (length old.nodes % 2 + (length seam + length (lowest rows))) / 2
      level_count = sym (length-append joined (lowest (above rows))) ∙ up_count hash old.nodes new.nodes (joined ++ lowest (above rows)) (length seam + length (lowest rows)) level_up level_len

      -- of these so many are the stretch's own
      pub level_low : length (lowest (above rows)) ≡ (length (lowest rows) - start % 2) / 2
      level_low =
          ap length (holds_here hash start holds) ∙ length-pairs hash (drop (start % 2) row.nodes) ∙ ap (λ j. j / 2) (length-drop (start % 2) row.nodes)
          ∙ ap (λ t. (length t - start % 2) / 2) (sym lowest_first)

-- no rows hold no nodes
pub lowest_none : (rows : List Row) → length rows < 1 → length (lowest rows) ≡ 0
unfolding lowest
lowest_none [] few = refl
lowest_none (row ∷ rows) few = absurd (omega arith)

-- where no rows are, there is room for none
pub room_none_there : (n : ℕ) (rows : List Row) (level : ℕ) → length rows ≤ level → HasRoom n (drop level rows) → n ≡ 0
unfolding HasRoom
room_none_there n rows level past room = subst (HasRoom n) (drop_all level rows past) room

-- room for some is room for fewer
pub room_less : (n m : ℕ) (rows : List Row) → n ≤ m → HasRoom m rows → HasRoom n rows
unfolding HasRoom
room_less n m [] le room = omega (arith, room, le)
room_less n m (row ∷ rows) le room = (omega (arith, room.0, le), room_less ((length row.nodes % 2 + n) / 2) ((length row.nodes % 2 + m) / 2) rows (omega (arith, le)) room.1)

-- the next level's first place behind the seam
pub place_up : (p count start e m j l len : ℕ) → first_of p + len ≡ count → count + e ≡ start → e ≤ 1 → 0 < m → l ≡ (m - start % 2) / 2 → j + l ≡ (len % 2 + (e + m)) / 2 → count / 2 + j ≡ start / 2 + start % 2
place_up p count start e m j l len here sum few some low all = omega arith

module _ (rows : List Row) (level : ℕ) (within : level < length rows) (default : Row) where
  -- what the row of a level counts
  pub count_here : (p count : ℕ) → HasCounted p count (drop level rows) → first_of p + length (get_or rows level default).nodes ≡ count
  unfolding HasCounted
  count_here p count counts = let both = subst (HasCounted p count) (at_level rows level within default) counts in both.0

  -- what those above it do
  pub count_above : (p count : ℕ) → HasCounted p count (drop level rows) → HasCounted (p / 2) (count / 2) (drop (level + 1) rows)
  unfolding HasCounted
  count_above p count counts = let both = subst (HasCounted p count) (at_level rows level within default) counts in both.1

  -- the room of the row of a level
  pub room_here : (n : ℕ) → HasRoom n (drop level rows) → length (get_or rows level default).nodes + n ≤ (get_or rows level default).room
  unfolding HasRoom
  room_here n room = let both = subst (HasRoom n) (at_level rows level within default) room in both.0

  -- and of those above it
  pub room_over : (n : ℕ) → HasRoom n (drop level rows) → HasRoom ((length (get_or rows level default).nodes % 2 + n) / 2) (drop (level + 1) rows)
  unfolding HasRoom
  room_over n room = let both = subst (HasRoom n) (at_level rows level within default) room in both.1

  module _ (new : Row) (after : List Row) (front : take (level + 1) after ≡ take (level + 1) (set rows level new)) where
    -- where it is put, the rows above stay
    pub rows_above : drop (level + 1) (set rows level new) ≡ drop (level + 1) rows
    rows_above = drop-set-lt (level + 1) rows level new (omega arith)

    -- room that is left, where nodes were added to the row and to those above it
    pub room_left : (n m : ℕ) → length new.nodes ≡ length (get_or rows level default).nodes + n → new.room ≡ (get_or rows level default).room → m ≡ (length (get_or rows level default).nodes % 2 + n) / 2
        → ((j : ℕ) → HasRoom (m + j) (drop (level + 1) (set rows level new)) → HasRoom j (drop (level + 1) after))
        → (more : ℕ) → HasRoom (n + more) (drop level rows) → HasRoom more (drop level after)
    unfolding HasRoom
    room_left n m len same up left more room =
        let old = get_or rows level default in
        let count : (length old.nodes % 2 + (n + more)) / 2 ≡ m + (length new.nodes % 2 + more) / 2 = omega (arith, len, up) in
        let here : length new.nodes + more ≤ new.room = omega (arith, room_here (n + more) room, len, same) in
        let there = left ((length new.nodes % 2 + more) / 2) (subst (HasRoom (m + (length new.nodes % 2 + more) / 2)) (sym rows_above) (subst (λ j. HasRoom j (drop (level + 1) rows)) count (room_over (n + more) room))) in
        subst (HasRoom more) (sym (after_set rows level within new after front)) (here, there)

    module _ (hash : Hash) (ns ts : List (List ℕ)) (more : new.nodes ≡ (get_or rows level default).nodes ++ ns) (up : pairs hash new.nodes ≡ pairs hash (get_or rows level default).nodes ++ ts)
        (p floor : ℕ) (ps xs : List (List ℕ)) (count : length ps ≡ count_ones p) (le : p ≤ floor) (fits : floor ≤ p + length xs)
      where
        here_more : (get_or rows level default).nodes ≡ drop (first_of floor - first_of p) (last_peak p ps ++ xs) → new.nodes ≡ drop (first_of floor - first_of p) (last_peak p ps ++ (xs ++ ns))
        here_more is =
            let k = first_of floor - first_of p in
            more ∙ ap (λ t. t ++ ns) is ∙ sym (drop-append-le k (last_peak p ps ++ xs) ns (omega (arith, length-level p ps xs count))) ∙ ap (drop k) (append_assoc (last_peak p ps) xs ns)

        next_more : (get_or rows level default).nodes ≡ drop (first_of floor - first_of p) (last_peak p ps ++ xs) → pairs hash (last_peak p ps ++ (xs ++ ns)) ≡ pairs hash (last_peak p ps ++ xs) ++ ts
        next_more is =
            let k = first_of floor - first_of p in
            let c = last_peak p ps ++ xs in
            let old = (get_or rows level default).nodes in
            let whole : take k c ++ old ≡ c = ap (λ t. take k c ++ t) is ∙ take-append-drop k c in
            let even : length (take k c) % 2 ≡ 0 = omega (arith, length-take-le k c (omega (arith, length-level p ps xs count))) in
            let list : last_peak p ps ++ (xs ++ ns) ≡ take k c ++ new.nodes =
            sym (append_assoc (last_peak p ps) xs ns) ∙ ap (λ t. t ++ ns) (sym whole) ∙ append_assoc (take k c) old ns ∙ ap (λ t. take k c ++ t) (sym more) in
            ap (pairs hash) list ∙ pairs_both hash (take k c) new.nodes even ∙ ap (λ t. pairs hash (take k c) ++ t) up
            ∙ sym (append_assoc (pairs hash (take k c)) (pairs hash old) ts)
            ∙ ap (λ t. t ++ ts) (sym (pairs_both hash (take k c) old even) ∙ ap (pairs hash) whole)

        -- the rows keep what they did and what was added
        pub over_added : ((q f : ℕ) (qs es : List (List ℕ)) → length qs ≡ count_ones q → q ≤ f → f ≤ q + length es → KeepsOver hash q f (drop (level + 1) (set rows level new)) qs es → KeepsOver hash q f (drop (level + 1) after) qs (es ++ ts))
            → KeepsOver hash p floor (drop level rows) ps xs → KeepsOver hash p floor (drop level after) ps (xs ++ ns)
        unfolding KeepsOver
        over_added above keeps =
            let both = subst (λ t. KeepsOver hash p floor t ps xs) (at_level rows level within default) keeps in
            let c = last_peak p ps ++ xs in
            let there = above (p / 2) (floor / 2) (other_peaks p ps) (pairs hash c) (length-other_peaks ps p count) (omega arith) (omega (arith, length-pairs hash c, length-level p ps xs count))
            (subst (λ t. KeepsOver hash (p / 2) (floor / 2) t (other_peaks p ps) (pairs hash c)) (sym rows_above) both.1) in
            subst (λ t. KeepsOver hash p floor t ps (xs ++ ns)) (sym (after_set rows level within new after front))
            (here_more both.0, subst (λ t. KeepsOver hash (p / 2) (floor / 2) (drop (level + 1) after) (other_peaks p ps) t) (sym (next_more both.0)) there)

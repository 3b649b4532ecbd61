-- What a row keeps stays right as digests are added, and is read from the whole level.
use Rattle.std.proofs.Common.{◌≡◌, ℕ, suc, ◌+◌, ◌-◌, ◌*◌, ◌/◌, ◌%◌, ◌≤◌, inl, inr, Option, Some, List, [], ◌∷◌, ◌++◌, length, get_or, take, drop, refl, sym, ap, ◌∙◌, subst, arith, take_all, length-append, length-drop}
use Rattle.std.proofs.lemmas.List.{drop-append-le, get_or-drop, get_or_append_left, drop_all, append-nil}
use Rattle.std.proofs.lemmas.Bool.{cases_eq}
use Rattle.tree_model.specs.Tree.{Hash, node}
use Rattle.tree_model.specs.Halves.{pairs, halve, edge, joined_node}
use Rattle.tree_model.proofs.Halves.{length-pairs}
use Rattle.tree_model.proofs.Rising.{pairs_more, pairs_next, halve_even, halve_odd}
use Rattle.merkle_batch.specs.Rows.{Row, first_of, KeepsNodes, HasCounted, HasNodes, HasRoom, Levels, StandsFor}

-- no rows have room for nothing
pub none_room : (rows : List Row) → rows ≡ [] → HasRoom 0 rows
unfolding HasRoom
none_room rows is = rw is refl

-- no rows have room for more
pub none_full : HasRoom 1 [] → ⊥
unfolding HasRoom
none_full room = omega (arith, room)

-- the room of the first row
pub row_room : (more : ℕ) (row : Row) (rows : List Row) → HasRoom more (row ∷ rows) → length row.nodes + more ≤ row.room
unfolding HasRoom
row_room more row rows room = room.0

-- and of those above
pub above_room : (more : ℕ) (row : Row) (rows : List Row) → HasRoom more (row ∷ rows) → HasRoom ((length row.nodes % 2 + more) / 2) rows
unfolding HasRoom
above_room more row rows room = room.1

-- the room of rows, from that of the first and of those above
pub both_room : (more : ℕ) (row : Row) (rows : List Row) → length row.nodes + more ≤ row.room → HasRoom ((length row.nodes % 2 + more) / 2) rows → HasRoom more (row ∷ rows)
unfolding HasRoom
both_room more row rows first above = (first, above)

module _ (row new : Row) (d : List ℕ) (push : new.nodes ≡ row.nodes ++ d ∷ []) (same : new.room ≡ row.room) where
  -- one more is kept
  pub len_push : length new.nodes ≡ suc (length row.nodes)
  len_push = omega (arith, ap length push, length-append row.nodes (d ∷ []))

  -- a digest without another beside it takes room in its row alone
  pub room_stay : (more : ℕ) (rows : List Row) → length new.nodes % 2 ≡ 1 → HasRoom (suc more) (row ∷ rows) → HasRoom more (new ∷ rows)
  room_stay more rows odd room =
      let count : (length row.nodes % 2 + suc more) / 2 ≡ (length new.nodes % 2 + more) / 2 = omega (arith, len_push) in
      both_room more new rows (omega (arith, len_push, row_room (suc more) row rows room)) (subst (λ j. HasRoom j rows) count (above_room (suc more) row rows room))

  -- one that makes a pair takes room above as well
  pub room_go : (more : ℕ) (rows after : List Row) → length new.nodes % 2 ≡ 0 → ((j : ℕ) → HasRoom (suc j) rows → HasRoom j after) → HasRoom (suc more) (row ∷ rows) → HasRoom more (new ∷ after)
  room_go more rows after even above room =
      let count : (length row.nodes % 2 + suc more) / 2 ≡ suc ((length new.nodes % 2 + more) / 2) = omega (arith, len_push) in
      both_room more new after (omega (arith, len_push, row_room (suc more) row rows room))
      (above ((length new.nodes % 2 + more) / 2) (subst (λ j. HasRoom j rows) count (above_room (suc more) row rows room)))

  -- one that makes a pair has room above
  pub room_above : (rows : List Row) → length new.nodes % 2 ≡ 0 → HasRoom 1 (row ∷ rows) → HasRoom 1 rows
  room_above rows even room =
      let count : (length row.nodes % 2 + 1) / 2 ≡ 1 = omega (arith, len_push) in
      subst (λ j. HasRoom j rows) count (above_room 1 row rows room)

module _ (p count : ℕ) (floor : p ≤ count) (row new : Row) (len : length new.nodes ≡ suc (length row.nodes)) (rows : List Row) where
  -- the count of nodes where a digest has no other beside it
  pub counts_stay : length new.nodes % 2 ≡ 1 → HasCounted p count (row ∷ rows) → HasCounted p (suc count) (new ∷ rows)
  unfolding HasCounted
  counts_stay odd counts =
      let here : first_of p + length row.nodes ≡ count = counts.0 in
      let same : count / 2 ≡ suc count / 2 = omega arith in
      (omega arith, subst (λ j. HasCounted (p / 2) j rows) same counts.1)

  -- and where it makes a pair
  pub counts_go : (after : List Row) → length new.nodes % 2 ≡ 0 → ((q n : ℕ) → q ≤ n → HasCounted q n rows → HasCounted q (suc n) after) → HasCounted p count (row ∷ rows) → HasCounted p (suc count) (new ∷ after)
  unfolding HasCounted
  counts_go after even above counts =
      let here : first_of p + length row.nodes ≡ count = counts.0 in
      let more : suc (count / 2) ≡ suc count / 2 = omega arith in
      (omega arith, subst (λ j. HasCounted (p / 2) j after) more (above (p / 2) (count / 2) (omega arith) counts.1))

-- the first nodes of all are there
pub has_nodes : (p size m : ℕ) (rows : List Row) → m ≤ size → HasCounted p size rows → HasNodes p m rows
unfolding HasCounted HasNodes
has_nodes p size m [] le counts = omega arith
has_nodes p size m (row ∷ rows) le counts = (omega (arith, counts.0), has_nodes (p / 2) (size / 2) (m / 2) rows (omega arith) counts.1)

-- room for some is room for none
pub room_none : (more : ℕ) (rows : List Row) → HasRoom more rows → HasRoom 0 rows
unfolding HasRoom
room_none more [] room = refl
room_none more (row ∷ rows) room =
    let none : (length row.nodes % 2 + 0) / 2 ≡ 0 = omega arith in
    (omega (arith, room.0), subst (λ j. HasRoom j rows) (sym none) (room_none ((length row.nodes % 2 + more) / 2) rows room.1))

-- and room for more than one is room for one
pub room_one : (more : ℕ) (rows : List Row) → HasRoom (suc more) rows → HasRoom 1 rows
unfolding HasRoom
room_one more [] room = absurd (omega (arith, room))
room_one more (row ∷ rows) room = elim (cases_eq (length row.nodes % 2) 0) [
  | inl even ↦
      let none : (length row.nodes % 2 + 1) / 2 ≡ 0 = omega arith in
      (omega (arith, room.0), subst (λ j. HasRoom j rows) (sym none) (room_none ((length row.nodes % 2 + suc more) / 2) rows room.1))
  | inr odd ↦
      let one : (length row.nodes % 2 + 1) / 2 ≡ 1 = omega arith in
      let some : (length row.nodes % 2 + suc more) / 2 ≡ suc (more / 2) = omega arith in
      (omega (arith, room.0), subst (λ j. HasRoom j rows) (sym one) (room_one (more / 2) rows (subst (λ j. HasRoom j rows) some room.1)))
]

module _ (hash : Hash) (p : ℕ) (ds : List (List ℕ)) (floor : p ≤ length ds) where
  -- as many are kept as stand from the first on
  pub kept_len : (row : Row) → row.nodes ≡ drop (first_of p) ds → length row.nodes + first_of p ≡ length ds
  kept_len row is = omega (arith, ap length is, length-drop (first_of p) ds)

  -- a kept node is that of the whole level
  pub kept_at : (row : Row) (place n : ℕ) → row.nodes ≡ drop (first_of p) ds → place + first_of p ≡ n → get_or row.nodes place [] ≡ get_or ds n []
  kept_at row place n is at =
      ap (λ t. get_or t place []) is ∙ get_or-drop (first_of p) ds place [] ∙ ap (λ j. get_or ds j []) (omega arith)

  module _ (row new : Row) (d : List ℕ) (push : new.nodes ≡ row.nodes ++ d ∷ []) (rows : List Row) where
    -- the first row with one digest more
    first_more : row.nodes ≡ drop (first_of p) ds → new.nodes ≡ drop (first_of p) (ds ++ d ∷ [])
    first_more is = push ∙ ap (λ t. t ++ d ∷ []) is ∙ sym (drop-append-le (first_of p) ds (d ∷ []) (omega arith))

    -- a digest without another beside it changes its row alone
    pub keeps_stay : length new.nodes % 2 ≡ 1 → KeepsNodes hash p (row ∷ rows) ds → KeepsNodes hash p (new ∷ rows) (ds ++ d ∷ [])
    unfolding KeepsNodes
    keeps_stay odd keeps =
        let even : length ds % 2 ≡ 0 = omega (arith, ap length push, length-append row.nodes (d ∷ []), kept_len row keeps.0) in
        (first_more keeps.0, subst (λ t. KeepsNodes hash (p / 2) rows t) (sym (pairs_more hash ds d even)) keeps.1)

    -- one that makes a pair adds its node above
    pub keeps_go : (after : List Row) (x : List ℕ) → length new.nodes % 2 ≡ 0 → x ≡ node hash (get_or new.nodes (length new.nodes - 2) []) d
        → ((q : ℕ) (es : List (List ℕ)) → q ≤ length es → KeepsNodes hash q rows es → KeepsNodes hash q after (es ++ x ∷ []))
        → KeepsNodes hash p (row ∷ rows) ds → KeepsNodes hash p (new ∷ after) (ds ++ d ∷ [])
    unfolding KeepsNodes
    keeps_go after x even is above keeps =
        let kept : length row.nodes + first_of p ≡ length ds = kept_len row keeps.0 in
        let len : length new.nodes ≡ suc (length row.nodes) = omega (arith, ap length push, length-append row.nodes (d ∷ [])) in
        let odd : length ds % 2 ≡ 1 = omega arith in
        let last : get_or new.nodes (length new.nodes - 2) [] ≡ get_or ds (length ds - 1) [] =
        ap (λ t. get_or t (length new.nodes - 2) []) push ∙ get_or_append_left row.nodes (d ∷ []) [] (length new.nodes - 2) (omega arith)
        ∙ kept_at row (length new.nodes - 2) (length ds - 1) keeps.0 (omega arith) in
        let next : pairs hash (ds ++ d ∷ []) ≡ pairs hash ds ++ x ∷ [] = pairs_next hash ds d odd ∙ ap (λ t. pairs hash ds ++ t ∷ []) (ap (λ l. node hash l d) (sym last) ∙ sym is) in
        let low : p / 2 ≤ length (pairs hash ds) = omega (arith, length-pairs hash ds) in
        (first_more keeps.0, subst (λ t. KeepsNodes hash (p / 2) after t) (sym next) (above (p / 2) (pairs hash ds) low keeps.1))

  module _ (row : Row) (count : ℕ) (le : count ≤ length ds) (is : row.nodes ≡ drop (first_of p) ds) (behind : Option (List ℕ)) where
    -- an even number in front of the edge
    pub join_even : count % 2 ≡ 0 → halve hash (take count ds ++ edge behind) ≡ take (count / 2) (pairs hash ds) ++ edge behind
    join_even even =
        let whole : 2 * (count / 2) ≡ count = omega arith in
        ap (λ j. halve hash (take j ds ++ edge behind)) (sym whole) ∙ halve_even hash (count / 2) ds behind (omega arith)

    -- an odd number: the last of them is joined with it
    pub join_odd : (place : ℕ) (x : List ℕ) → count % 2 ≡ 1 → place + first_of p ≡ count - 1 → x ≡ joined_node hash (get_or row.nodes place []) behind
        → halve hash (take count ds ++ edge behind) ≡ take (count / 2) (pairs hash ds) ++ edge (Some x)
    join_odd place x odd at made =
        let whole : suc (2 * (count / 2)) ≡ count = omega arith in
        ap (λ j. halve hash (take j ds ++ edge behind)) (sym whole) ∙ halve_odd hash (count / 2) ds behind (omega arith)
        ∙ ap (λ t. take (count / 2) (pairs hash ds) ++ t ∷ [])
        (ap (λ l. joined_node hash l behind) (sym (kept_at row place (2 * (count / 2)) is (omega arith))) ∙ sym made)

-- a tree over no leaves
pub new_stands : (hash : Hash) (rows : List Row) → rows ≡ [] → StandsFor hash (record { rows = rows; size = 0; floor = 0; spare = 0 }) []
unfolding StandsFor KeepsNodes
new_stands hash rows is = rw is (refl, refl)

-- a tree over no leaves has no rows, which count none
pub none_counts : (rows : List Row) → rows ≡ [] → HasCounted 0 0 rows
unfolding HasCounted
none_counts rows is = rw is refl

-- a list that a tree stands for has the tree's size
pub stands_size : (hash : Hash) (tree : Levels) (ds : List (List ℕ)) → StandsFor hash tree ds → length ds ≡ tree.size
unfolding StandsFor
stands_size hash tree ds stands = stands.0

-- and its nodes are kept
pub stands_keeps : (hash : Hash) (tree : Levels) (ds : List (List ℕ)) → StandsFor hash tree ds → KeepsNodes hash tree.floor tree.rows ds
unfolding StandsFor
stands_keeps hash tree ds stands = stands.1

-- a tree stands for each list with its size whose nodes are kept
pub stands_of : (hash : Hash) (tree : Levels) (ds : List (List ℕ)) → length ds ≡ tree.size → KeepsNodes hash tree.floor tree.rows ds → StandsFor hash tree ds
unfolding StandsFor
stands_of hash tree ds size keeps = (size, keeps)

-- one leaf more
pub stands_more : (hash : Hash) (old new : Levels) (x : List ℕ) → old.floor ≤ old.size → new.size ≡ old.size + 1 → new.floor ≡ old.floor
    → ((p : ℕ) (ds : List (List ℕ)) → p ≤ length ds → KeepsNodes hash p old.rows ds → KeepsNodes hash p new.rows (ds ++ x ∷ []))
    → (ds : List (List ℕ)) → StandsFor hash old ds → StandsFor hash new (ds ++ x ∷ [])
stands_more hash old new x floor size same keeps ds stands =
    let len = stands_size hash old ds stands in
    stands_of hash new (ds ++ x ∷ []) (omega (arith, len, size, length-append ds (x ∷ [])))
    (subst (λ p. KeepsNodes hash p new.rows (ds ++ x ∷ [])) (sym same) (keeps old.floor ds (omega (arith, len)) (stands_keeps hash old ds stands)))

-- a vector with as many new items has these
pub all_items : {A : Type 0} (n : ℕ) (xs ys : List A) → length ys ≡ n → length xs ≡ length ys → take n (xs ++ drop (length xs) ys) ≡ xs
all_items n xs ys len same =
    ap (λ t. take n (xs ++ t)) (drop_all (length xs) ys (omega (arith, same))) ∙ ap (take n) (append-nil xs) ∙ take_all n xs (omega (arith, same, len))

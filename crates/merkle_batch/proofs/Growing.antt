-- Rows that have grown keep and count what they did, and have the room that they had.
use Rattle.std.proofs.Common.{◌≡◌, ℕ, ◌+◌, ◌-◌, ◌/◌, ◌%◌, ◌<◌, ◌≤◌, max, inl, inr, List, [], ◌∷◌, ◌++◌, length, get_or, set, take, drop, refl, sym, ap, ◌∙◌, subst, arith, drop_at}
use Rattle.std.proofs.lemmas.List.{drop_all, drop-set, drop-set-lt}
use Rattle.std.proofs.Math.Seq.{drop-nil}
use Rattle.std.proofs.lemmas.Bool.{cases_eq}
use Rattle.tree_model.specs.Tree.{Hash}
use Rattle.tree_model.specs.Halves.{pairs}
use Rattle.merkle_batch.specs.Rows.{Row, first_of, KeepsNodes, HasCounted, HasRoom, Levels, StandsFor, Grown, IsNil}
use Rattle.merkle_batch.proofs.Keeping.{both_room, above_room, stands_size, stands_keeps, stands_of}
use Rattle.merkle_batch.proofs.Placing.{at_level, after_set, below_set}

-- rows that stay have grown
pub grown_same : (rows : List Row) → Grown rows rows
unfolding Grown
grown_same [] = tt
grown_same (row ∷ rows) = (refl, omega arith, grown_same rows)

-- an empty row more
pub grown_one : (row : Row) → row.nodes ≡ [] → Grown [] (row ∷ [])
unfolding Grown
grown_one row is = (is, tt)

-- the first row and those above
pub grown_both : (old row : Row) (olds rows : List Row) → row.nodes ≡ old.nodes → old.room ≤ row.room → Grown olds rows → Grown (old ∷ olds) (row ∷ rows)
unfolding Grown
grown_both old row olds rows nodes room above = (nodes, room, above)

-- rows that have grown twice have grown
pub grown_twice : (a b c : List Row) → Grown a b → Grown b c → Grown a c
unfolding Grown
grown_twice [] [] c one two = two
grown_twice [] (y ∷ b) [] one two = absurd two
grown_twice [] (y ∷ b) (z ∷ c) one two = (two.0 ∙ one.0, grown_twice [] b c one.1 two.2)
grown_twice (x ∷ a) [] c one two = absurd one
grown_twice (x ∷ a) (y ∷ b) [] one two = absurd two
grown_twice (x ∷ a) (y ∷ b) (z ∷ c) one two = (two.0 ∙ one.0, omega (arith, one.1, two.1), grown_twice a b c one.2 two.2)

-- they keep what they did
pub grown_keeps : (hash : Hash) (p : ℕ) (old rows : List Row) (ds : List (List ℕ)) → Grown old rows → KeepsNodes hash p old ds → KeepsNodes hash p rows ds
unfolding Grown KeepsNodes pairs
grown_keeps hash p [] [] ds grown keeps = keeps
grown_keeps hash p [] (row ∷ rows) ds grown keeps =
    let none : drop (first_of p) ds ≡ [] = ap (drop (first_of p)) keeps ∙ drop-nil (first_of p) in
    (grown.0 ∙ sym none, grown_keeps hash (p / 2) [] rows (pairs hash ds) grown.1 (ap (pairs hash) keeps))
grown_keeps hash p (old ∷ olds) [] ds grown keeps = absurd grown
grown_keeps hash p (old ∷ olds) (row ∷ rows) ds grown keeps = (grown.0 ∙ keeps.0, grown_keeps hash (p / 2) olds rows (pairs hash ds) grown.2 keeps.1)

-- they count what they did
pub grown_counts : (p count : ℕ) (old rows : List Row) → p ≤ count → Grown old rows → HasCounted p count old → HasCounted p count rows
unfolding Grown HasCounted
grown_counts p count [] [] floor grown counts = counts
grown_counts p count [] (row ∷ rows) floor grown counts =
    let none : count / 2 ≡ 0 = omega (arith, counts) in
    (omega (arith, counts, ap length grown.0), grown_counts (p / 2) (count / 2) [] rows (omega arith) grown.1 none)
grown_counts p count (old ∷ olds) [] floor grown counts = absurd grown
grown_counts p count (old ∷ olds) (row ∷ rows) floor grown counts = (omega (arith, counts.0, ap length grown.0), grown_counts (p / 2) (count / 2) olds rows (omega arith) grown.2 counts.1)

-- and have the room that they had
pub grown_room : (more : ℕ) (old rows : List Row) → Grown old rows → HasRoom more old → HasRoom more rows
unfolding Grown HasRoom
grown_room more [] [] grown room = room
grown_room more [] (row ∷ rows) grown room =
    let none : (length row.nodes % 2 + more) / 2 ≡ 0 = omega (arith, room, ap length grown.0) in
    (omega (arith, room, ap length grown.0), grown_room ((length row.nodes % 2 + more) / 2) [] rows grown.1 none)
grown_room more (old ∷ olds) [] grown room = absurd grown
grown_room more (old ∷ olds) (row ∷ rows) grown room =
    (omega (arith, room.0, grown.1, ap length grown.0), grown_room ((length row.nodes % 2 + more) / 2) olds rows grown.2 (subst (λ n. HasRoom ((length n % 2 + more) / 2) olds) (sym grown.0) room.1))

-- an empty row behind the others
pub extend_push : (rows after : List Row) (row : Row) (level : ℕ) → level ≡ length rows → after ≡ rows ++ row ∷ [] → row.nodes ≡ [] → Grown (drop level rows) (drop level after)
extend_push rows after row level end is empty =
    let olds : drop level rows ≡ [] = drop_all level rows (omega arith) in
    let news : drop level after ≡ row ∷ [] = ap (drop level) is ∙ drop_at rows (row ∷ []) level (sym end) in
    subst (λ t. Grown t (drop level after)) (sym olds) (subst (Grown []) (sym news) (grown_one row empty))

-- which keeps none
pub extend_nil : (rows after : List Row) (row : Row) (level : ℕ) → length rows ≡ level → after ≡ rows ++ row ∷ [] → row.nodes ≡ [] → IsNil (drop level after)
unfolding IsNil
extend_nil rows after row level end is empty =
    let news : drop level after ≡ row ∷ [] = ap (drop level) is ∙ drop_at rows (row ∷ []) level end in
    subst IsNil (sym news) empty

-- the first of rows that keep none
pub nil_first : (rows : List Row) (level : ℕ) (default : Row) → level < length rows → IsNil (drop level rows) → length (get_or rows level default).nodes ≡ 0
unfolding IsNil
nil_first rows level default within nil = ap length (subst IsNil (at_level rows level within default) nil)

module _ (rows mid after : List Row) (level : ℕ) (within : level < length mid) (default new : Row)
    (grown : Grown (drop level rows) (drop level mid)) (nodes : new.nodes ≡ (get_or mid level default).nodes) (room : (get_or mid level default).room ≤ new.room)
  where
    -- the row of the level alone has changed
    pub set_grown : Grown (drop level rows) (drop level (set mid level new))
    set_grown =
        grown_twice (drop level rows) (drop level mid) (drop level (set mid level new)) grown
        (subst (λ t. Grown t (drop level (set mid level new))) (sym (at_level mid level within default))
        (subst (Grown (get_or mid level default ∷ drop (level + 1) mid)) (sym (drop-set mid level new within))
        (grown_both (get_or mid level default) new (drop (level + 1) mid) (drop (level + 1) mid) nodes room (grown_same (drop (level + 1) mid)))))

    module _ (front : take (level + 1) after ≡ take (level + 1) (set mid level new)) (up : Grown (drop (level + 1) (set mid level new)) (drop (level + 1) after)) where
      -- they have grown
      pub after_grown : Grown (drop level rows) (drop level after)
      after_grown =
          grown_twice (drop level rows) (drop level (set mid level new)) (drop level after) set_grown
          (subst (λ t. Grown t (drop level after)) (sym (drop-set mid level new within))
          (subst (Grown (new ∷ drop (level + 1) mid)) (sym (after_set mid level within new after front))
          (grown_both new new (drop (level + 1) mid) (drop (level + 1) after) refl (omega arith)
          (subst (λ t. Grown t (drop (level + 1) after)) (drop-set-lt (level + 1) mid level new (omega arith)) up))))

      -- the rows below stay
      pub after_below : take level mid ≡ take level rows → take level after ≡ take level rows
      after_below same = below_set mid level within new after front ∙ same

      -- there is room, where there is at the level and above it
      pub after_room : (more above : ℕ) → above ≡ (length (get_or mid level default).nodes % 2 + more) / 2 → length new.nodes + more ≤ new.room → HasRoom above (drop (level + 1) after) → HasRoom more (drop level after)
      after_room more above is here there =
          subst (HasRoom more) (sym (after_set mid level within new after front)) (both_room more new (drop (level + 1) after) here
          (subst (λ j. HasRoom j (drop (level + 1) after)) (is ∙ ap (λ t. (length t % 2 + more) / 2) (sym nodes)) there))

    -- there is room for none above
    pub room_up : HasRoom 0 (drop level rows) → HasRoom 0 (drop (level + 1) (set mid level new))
    room_up have =
        let now = grown_room 0 (drop level rows) (drop level (set mid level new)) set_grown have in
        let first = subst (HasRoom 0) (drop-set mid level new within) now in
        let none : (length new.nodes % 2 + 0) / 2 ≡ 0 = omega arith in
        subst (HasRoom 0) (sym (drop-set-lt (level + 1) mid level new (omega arith))) (subst (λ j. HasRoom j (drop (level + 1) mid)) none (above_room 0 new (drop (level + 1) mid) first))

-- a tree whose rows have grown stands for the same
pub stands_grown : (hash : Hash) (old new : Levels) → new.size ≡ old.size → new.floor ≡ old.floor → Grown old.rows new.rows → (ds : List (List ℕ)) → StandsFor hash old ds → StandsFor hash new ds
stands_grown hash old new size floor grown ds stands =
    stands_of hash new ds (stands_size hash old ds stands ∙ sym size)
    (subst (λ p. KeepsNodes hash p new.rows ds) (sym floor) (grown_keeps hash old.floor old.rows new.rows ds grown (stands_keeps hash old ds stands)))

-- the work that is left becomes less from level to level
pub less_left : (len mid level n more over : ℕ) → level ≤ len → mid ≡ max (level + 1) len → (len ≡ level → n ≡ 0) → over ≡ (n % 2 + more) / 2 → (more ≡ 0 → ⊥) → (mid - (level + 1)) + over < (len - level) + more
less_left len mid level n more over le is nil up some = elim (cases_eq len level) [
  | inl end ↦ omega (arith, is, nil end, up, some)
  | inr before ↦ omega (arith, is, up, some, before)
]

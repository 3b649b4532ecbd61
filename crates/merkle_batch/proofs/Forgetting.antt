-- Rows that have forgotten what a higher floor leaves out keep and count the rest.
use Rattle.std.proofs.Common.{◌≡◌, ℕ, ◌+◌, ◌-◌, ◌*◌, ◌/◌, ◌%◌, ◌<◌, ◌≤◌, List, [], ◌∷◌, length, get_or, set, take, drop, sym, ap, ◌∙◌, subst, arith, length-drop, drop-drop}
use Rattle.std.proofs.lemmas.List.{drop_all, drop-set-lt}
use Rattle.tree_model.specs.Tree.{Hash}
use Rattle.tree_model.specs.Halves.{pairs}
use Rattle.merkle_batch.specs.Rows.{Row, first_of, KeepsNodes, HasCounted, HasRoom, HasNodes, Levels, StandsFor, Forgot}
use Rattle.merkle_batch.proofs.Keeping.{row_room, above_room, both_room, stands_size, stands_keeps, stands_of}
use Rattle.merkle_batch.proofs.Placing.{at_level, after_set, below_set}

-- they keep what is from the higher floor on
pub forgot_keeps : (hash : Hash) (p to : ℕ) (old rows : List Row) (ds : List (List ℕ)) → p ≤ to → Forgot p to old rows → KeepsNodes hash p old ds → KeepsNodes hash to rows ds
unfolding Forgot KeepsNodes
forgot_keeps hash p to [] [] ds le forgot keeps = keeps
forgot_keeps hash p to [] (row ∷ rows) ds le forgot keeps = absurd forgot
forgot_keeps hash p to (old ∷ olds) [] ds le forgot keeps = absurd forgot
forgot_keeps hash p to (old ∷ olds) (row ∷ rows) ds le forgot keeps =
    let sum : first_of p + (first_of to - first_of p) ≡ first_of to = omega arith in (
      forgot.0 ∙ ap (drop (first_of to - first_of p)) keeps.0 ∙ drop-drop (first_of to - first_of p) (first_of p) ds ∙ ap (λ j. drop j ds) sum,
      forgot_keeps hash (p / 2) (to / 2) olds rows (pairs hash ds) (omega arith) forgot.1 keeps.1,
    )

-- they count what they did
pub forgot_counts : (p to count : ℕ) (old rows : List Row) → p ≤ to → to ≤ count → Forgot p to old rows → HasCounted p count old → HasCounted to count rows
unfolding Forgot HasCounted
forgot_counts p to count [] [] le within forgot counts = counts
forgot_counts p to count [] (row ∷ rows) le within forgot counts = absurd forgot
forgot_counts p to count (old ∷ olds) [] le within forgot counts = absurd forgot
forgot_counts p to count (old ∷ olds) (row ∷ rows) le within forgot counts = (
  omega (arith, counts.0, ap length forgot.0, length-drop (first_of to - first_of p) old.nodes),
  forgot_counts (p / 2) (to / 2) (count / 2) olds rows (omega arith) (omega arith) forgot.1 counts.1,
)

-- above the last row there is nothing to forget
pub forgot_none : (p to level : ℕ) (rows : List Row) → length rows ≤ level → Forgot p to (drop level rows) (drop level rows)
unfolding Forgot
forgot_none p to level rows past = rw (drop_all level rows past) tt

module _ (p to level : ℕ) (rows : List Row) (within : level < length rows) (default : Row) where
  -- there are as many nodes as are forgotten
  pub forget_within : p ≤ to → HasNodes p to (drop level rows) → to / 2 * 2 - p / 2 * 2 ≤ length (get_or rows level default).nodes
  unfolding HasNodes
  forget_within le there = let both = subst (HasNodes p to) (at_level rows level within default) there in omega (arith, both.0)

  -- there is the room that there was
  pub forget_room : (more : ℕ) → HasRoom more (drop level rows) → length (get_or rows level default).nodes + more ≤ (get_or rows level default).room
  forget_room more room = row_room more (get_or rows level default) (drop (level + 1) rows) (subst (HasRoom more) (at_level rows level within default) room)

  module _ (new : Row) (nodes : new.nodes ≡ drop (to / 2 * 2 - p / 2 * 2) (get_or rows level default).nodes) where
    -- there is the room above, since an even number is forgotten
    pub forget_room_above : (more above : ℕ) → to / 2 * 2 - p / 2 * 2 ≤ length (get_or rows level default).nodes → above ≡ (length new.nodes % 2 + more) / 2 → HasRoom more (drop level rows) → HasRoom above (drop (level + 1) (set rows level new))
    forget_room_above more above fits is room =
        let old = get_or rows level default in
        let same : (length old.nodes % 2 + more) / 2 ≡ above = omega (arith, is, fits, ap length nodes, length-drop (to / 2 * 2 - p / 2 * 2) old.nodes) in
        subst (HasRoom above) (sym (drop-set-lt (level + 1) rows level new (omega arith)))
        (subst (λ j. HasRoom j (drop (level + 1) rows)) same (above_room more old (drop (level + 1) rows) (subst (HasRoom more) (at_level rows level within default) room)))

    -- there are the nodes above
    pub forget_above : HasNodes p to (drop level rows) → HasNodes (p / 2) (to / 2) (drop (level + 1) (set rows level new))
    unfolding HasNodes
    forget_above there =
        let both = subst (HasNodes p to) (at_level rows level within default) there in
        subst (HasNodes (p / 2) (to / 2)) (sym (drop-set-lt (level + 1) rows level new (omega arith))) both.1

    module _ (after : List Row) (front : take (level + 1) after ≡ take (level + 1) (set rows level new)) where
      -- the rows below stay
      pub forget_below : take level after ≡ take level rows
      forget_below = below_set rows level within new after front

      -- they have forgotten, where those above have
      pub forget_both : Forgot (p / 2) (to / 2) (drop (level + 1) (set rows level new)) (drop (level + 1) after) → Forgot p to (drop level rows) (drop level after)
      unfolding Forgot
      forget_both up =
          let count : to / 2 * 2 - p / 2 * 2 ≡ first_of to - first_of p = omega arith in
          subst (λ t. Forgot p to t (drop level after)) (sym (at_level rows level within default))
          (subst (Forgot p to (get_or rows level default ∷ drop (level + 1) rows)) (sym (after_set rows level within new after front)) (
            nodes ∙ ap (λ j. drop j (get_or rows level default).nodes) count,
            subst (λ t. Forgot (p / 2) (to / 2) t (drop (level + 1) after)) (drop-set-lt (level + 1) rows level new (omega arith)) up,
          ))

      -- they have room, where those above have
      pub forget_room_both : (more above : ℕ) → length new.nodes + more ≤ new.room → above ≡ (length new.nodes % 2 + more) / 2 → HasRoom above (drop (level + 1) after) → HasRoom more (drop level after)
      forget_room_both more above here is up =
          subst (HasRoom more) (sym (after_set rows level within new after front)) (both_room more new (drop (level + 1) after) here (subst (λ j. HasRoom j (drop (level + 1) after)) is up))

-- a tree that has forgotten stands for the same
pub stands_forgot : (hash : Hash) (old new : Levels) → old.floor ≤ new.floor → new.size ≡ old.size → Forgot old.floor new.floor old.rows new.rows → (ds : List (List ℕ)) → StandsFor hash old ds → StandsFor hash new ds
stands_forgot hash old new le size forgot ds stands =
    stands_of hash new ds (stands_size hash old ds stands ∙ sym size)
    (forgot_keeps hash old.floor new.floor old.rows new.rows ds le forgot (stands_keeps hash old ds stands))

-- Rows from one level on, as a digest is put into the first of them.
use Rattle.std.proofs.Common.{◌≡◌, ℕ, suc, ◌+◌, ◌-◌, ◌%◌, ◌<◌, ◌≤◌, List, [], ◌∷◌, ◌++◌, length, get_or, set, take, drop, sym, ap, ◌∙◌, subst, arith, length-take-le, append_assoc, drop_at, take-append-drop, take-take}
use Rattle.std.proofs.lemmas.List.{drop_all, drop_more, drop-set, drop-set-lt, take-set, take_more_set}
use Rattle.tree_model.specs.Tree.{Hash, node}
use Rattle.merkle_batch.specs.Rows.{Row, KeepsNodes, HasCounted, HasRoom}
use Rattle.merkle_batch.proofs.Keeping.{none_full, row_room, len_push, counts_stay, counts_go, room_stay, room_go, room_above, keeps_stay, keeps_go}

-- above the last row there is no room
pub no_level : (rows : List Row) (level : ℕ) → length rows ≤ level → HasRoom 1 (drop level rows) → ⊥
no_level rows level past room = none_full (subst (HasRoom 1) (drop_all level rows past) room)

module _ (rows : List Row) (level : ℕ) (within : level < length rows) (new : Row) (after : List Row) (front : take (level + 1) after ≡ take (level + 1) (set rows level new)) where
  -- the rows from a level on, after its row and those above have changed
  pub after_set : drop level after ≡ new ∷ drop (level + 1) after
  after_set =
      let low : take level rows ++ new ∷ drop (level + 1) after ≡ after =
      sym (append_assoc (take level rows) (new ∷ []) (drop (level + 1) after))
      ∙ ap (λ t. t ++ drop (level + 1) after) (sym (take_more_set rows level new within) ∙ sym front)
      ∙ take-append-drop (level + 1) after in
      sym (ap (drop level) low) ∙ drop_at (take level rows) (new ∷ drop (level + 1) after) level (length-take-le level rows (omega arith))

  -- the rows below the level stay
  pub below_set : take level after ≡ take level rows
  below_set =
      sym (take-take level (level + 1) after (omega arith)) ∙ ap (take level) front
      ∙ take-take level (level + 1) (set rows level new) (omega arith) ∙ take-set rows level new

module _ (rows : List Row) (level : ℕ) (within : level < length rows) (default : Row) where
  -- the rows from a level on are its row and those above
  pub at_level : drop level rows ≡ get_or rows level default ∷ drop (level + 1) rows
  at_level = drop_more rows level default within

  -- the row of the level has the room that is asked for
  pub level_room : HasRoom 1 (drop level rows) → length (get_or rows level default).nodes < (get_or rows level default).room
  level_room room = omega (arith, row_room 1 (get_or rows level default) (drop (level + 1) rows) (subst (HasRoom 1) at_level room))

  module _ (new : Row) (x : List ℕ) (push : new.nodes ≡ (get_or rows level default).nodes ++ x ∷ []) (same : new.room ≡ (get_or rows level default).room) where
    -- where it is put, the rows above stay
    set_above : drop (level + 1) (set rows level new) ≡ drop (level + 1) rows
    set_above = drop-set-lt (level + 1) rows level new (omega arith)

    -- the room above
    pub go_above : length new.nodes % 2 ≡ 0 → HasRoom 1 (drop level rows) → HasRoom 1 (drop (level + 1) (set rows level new))
    go_above even room =
        subst (HasRoom 1) (sym set_above)
        (room_above (get_or rows level default) new x push same (drop (level + 1) rows) even (subst (HasRoom 1) at_level room))

    -- a digest without another beside it
    pub stay_keeps : (hash : Hash) → length new.nodes % 2 ≡ 1 → (p : ℕ) (ds : List (List ℕ)) → p ≤ length ds → KeepsNodes hash p (drop level rows) ds → KeepsNodes hash p (drop level (set rows level new)) (ds ++ x ∷ [])
    stay_keeps hash odd p ds floor keeps =
        subst (λ t. KeepsNodes hash p t (ds ++ x ∷ [])) (sym (drop-set rows level new within))
        (keeps_stay hash p ds floor (get_or rows level default) new x push (drop (level + 1) rows) odd (subst (λ t. KeepsNodes hash p t ds) at_level keeps))

    -- and the room that it takes
    pub stay_room : length new.nodes % 2 ≡ 1 → (more : ℕ) → HasRoom (suc more) (drop level rows) → HasRoom more (drop level (set rows level new))
    stay_room odd more room =
        subst (HasRoom more) (sym (drop-set rows level new within))
        (room_stay (get_or rows level default) new x push same more (drop (level + 1) rows) odd (subst (HasRoom (suc more)) at_level room))

    -- and what it counts
    pub stay_counts : length new.nodes % 2 ≡ 1 → (p count : ℕ) → p ≤ count → HasCounted p count (drop level rows) → HasCounted p (suc count) (drop level (set rows level new))
    stay_counts odd p count floor counts =
        subst (HasCounted p (suc count)) (sym (drop-set rows level new within))
        (counts_stay p count floor (get_or rows level default) new (len_push (get_or rows level default) new x push same) (drop (level + 1) rows) odd (subst (HasCounted p count) at_level counts))

    module _ (after : List Row) (front : take (level + 1) after ≡ take (level + 1) (set rows level new)) where
      -- the rows below the level stay
      pub go_below : take level after ≡ take level rows
      go_below = below_set rows level within new after front

      -- a digest that makes a pair
      pub go_keeps : (hash : Hash) (y : List ℕ) → length new.nodes % 2 ≡ 0 → y ≡ node hash (get_or new.nodes (length new.nodes - 2) []) x
          → ((q : ℕ) (es : List (List ℕ)) → q ≤ length es → KeepsNodes hash q (drop (level + 1) (set rows level new)) es → KeepsNodes hash q (drop (level + 1) after) (es ++ y ∷ []))
          → (p : ℕ) (ds : List (List ℕ)) → p ≤ length ds → KeepsNodes hash p (drop level rows) ds → KeepsNodes hash p (drop level after) (ds ++ x ∷ [])
      go_keeps hash y even is above p ds floor keeps =
          subst (λ t. KeepsNodes hash p t (ds ++ x ∷ [])) (sym (after_set rows level within new after front))
          (keeps_go hash p ds floor (get_or rows level default) new x push (drop (level + 1) rows) (drop (level + 1) after) y even is
          (λ q es low k. above q es low (subst (λ t. KeepsNodes hash q t es) (sym set_above) k))
          (subst (λ t. KeepsNodes hash p t ds) at_level keeps))

      -- and the room that it takes
      pub go_room : length new.nodes % 2 ≡ 0 → ((j : ℕ) → HasRoom (suc j) (drop (level + 1) (set rows level new)) → HasRoom j (drop (level + 1) after))
          → (more : ℕ) → HasRoom (suc more) (drop level rows) → HasRoom more (drop level after)
      go_room even above more room =
          subst (HasRoom more) (sym (after_set rows level within new after front))
          (room_go (get_or rows level default) new x push same more (drop (level + 1) rows) (drop (level + 1) after) even
          (λ j r. above j (subst (HasRoom (suc j)) (sym set_above) r))
          (subst (HasRoom (suc more)) at_level room))

      -- and what it counts
      pub go_counts : length new.nodes % 2 ≡ 0 → ((q n : ℕ) → q ≤ n → HasCounted q n (drop (level + 1) (set rows level new)) → HasCounted q (suc n) (drop (level + 1) after))
          → (p count : ℕ) → p ≤ count → HasCounted p count (drop level rows) → HasCounted p (suc count) (drop level after)
      go_counts even above p count floor counts =
          subst (HasCounted p (suc count)) (sym (after_set rows level within new after front))
          (counts_go p count floor (get_or rows level default) new (len_push (get_or rows level default) new x push same) (drop (level + 1) rows) (drop (level + 1) after) even
          (λ q n low k. above q n low (subst (HasCounted q n) (sym set_above) k))
          (subst (HasCounted p count) at_level counts))

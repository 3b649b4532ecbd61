-- The whole nodes of a level, as leaves are added, and with what stands behind them at the right edge.
use Rattle.std.proofs.Common.{◌≡◌, ℕ, zero, suc, ◌-◌, ◌*◌, ◌%◌, ◌<◌, ◌≤◌, Option, Some, None, List, [], ◌∷◌, ◌++◌, length, get_or, take, refl, sym, ap, ◌∙◌, arith}
use Rattle.tree_model.specs.Tree.{Hash, node}
use Rattle.tree_model.specs.Halves.{pairs, halve, edge, joined_node}

module _ (hash : Hash) where
  -- a digest that has no other beside it makes no pair
  pub pairs_more : (ds : List (List ℕ)) (d : List ℕ) → length ds % 2 ≡ 0 → pairs hash (ds ++ d ∷ []) ≡ pairs hash ds
  unfolding pairs
  pairs_more [] d even = refl
  pairs_more (x ∷ []) d even = absurd (omega arith)
  pairs_more (x ∷ y ∷ rest) d even = ap (λ t. node hash x y ∷ t) (pairs_more rest d (omega arith))

  -- a digest behind an odd number makes a pair with the last of them
  pub pairs_next : (ds : List (List ℕ)) (d : List ℕ) → length ds % 2 ≡ 1 → pairs hash (ds ++ d ∷ []) ≡ pairs hash ds ++ node hash (get_or ds (length ds - 1) []) d ∷ []
  unfolding pairs
  pairs_next [] d odd = absurd (omega arith)
  pairs_next (x ∷ []) d odd = refl
  pairs_next (x ∷ y ∷ rest) d odd =
      let last : suc (suc (length rest)) - 1 ≡ suc (suc (length rest - 1)) = omega arith in
      ap (λ t. node hash x y ∷ t) (pairs_next rest d (omega arith))
      ∙ ap (λ j. node hash x y ∷ pairs hash rest ++ node hash (get_or (x ∷ y ∷ rest) j []) d ∷ []) (sym last)

  -- an even number in front: the edge goes up as it is
  pub halve_even : (k : ℕ) (ds : List (List ℕ)) (r : Option (List ℕ)) → 2 * k ≤ length ds → halve hash (take (2 * k) ds ++ edge r) ≡ take k (pairs hash ds) ++ edge r
  unfolding halve pairs
  halve_even zero ds None le = refl
  halve_even zero ds (Some d) le = refl
  halve_even (suc k) [] r le = absurd (omega arith)
  halve_even (suc k) (x ∷ []) r le = absurd (omega arith)
  halve_even (suc k) (x ∷ y ∷ rest) r le =
      let more : 2 * suc k ≡ suc (suc (2 * k)) = omega arith in
      rw more (ap (λ t. node hash x y ∷ t) (halve_even k rest r (omega arith)))

  -- an odd number in front: the last of them is joined with the edge
  pub halve_odd : (k : ℕ) (ds : List (List ℕ)) (r : Option (List ℕ)) → 2 * k < length ds → halve hash (take (suc (2 * k)) ds ++ edge r) ≡ take k (pairs hash ds) ++ joined_node hash (get_or ds (2 * k) []) r ∷ []
  unfolding halve pairs
  halve_odd k [] r lt = absurd (omega arith)
  halve_odd zero (x ∷ rest) None lt = refl
  halve_odd zero (x ∷ rest) (Some d) lt = refl
  halve_odd (suc k) (x ∷ []) r lt = absurd (omega arith)
  halve_odd (suc k) (x ∷ y ∷ rest) r lt =
      let more : 2 * suc k ≡ suc (suc (2 * k)) = omega arith in
      rw more (ap (λ t. node hash x y ∷ t) (halve_odd k rest r (omega arith)))

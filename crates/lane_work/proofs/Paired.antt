use Rattle.std.proofs.Common.{◌≡◌, ℕ, ◌<◌, zero, suc, List, [], ◌∷◌, ◌++◌, length, map, get_or, refl, ap, arith}
use Rattle.lane_work.specs.Working.{Pairs}

module _ {A B : Type 0} (R : A → B → Type 0) where
  pub pairs_none : Pairs R [] []
  unfolding Pairs
  pairs_none = tt

  pub pairs_push : (xs : List A) (ys : List B) (x : A) (y : B) → Pairs R xs ys → R x y → Pairs R (xs ++ x ∷ []) (ys ++ y ∷ [])
  unfolding Pairs
  pairs_push [] [] x y a b = (b, tt)
  pairs_push [] (z ∷ ys) x y a b = absurd a
  pairs_push (z ∷ xs) [] x y a b = absurd a
  pairs_push (z ∷ xs) (w ∷ ys) x y a b = (a.0, pairs_push xs ys x y a.1 b)

  pub pairs_next : (xs : List A) (y : B) (ys : List B) → Pairs R xs (y ∷ ys) → (x : A) × (rest : List A) × (x ∷ rest ≡ xs) × R x y × Pairs R rest ys
  unfolding Pairs
  pairs_next [] y ys a = absurd a
  pairs_next (x ∷ xs) y ys a = (x, xs, refl, a.0, a.1)

  pub pairs_end : (xs : List A) → Pairs R xs [] → xs ≡ []
  unfolding Pairs
  pairs_end [] a = refl
  pairs_end (x ∷ xs) a = absurd a

  pub pairs_length : (xs : List A) (ys : List B) → Pairs R xs ys → length xs ≡ length ys
  unfolding Pairs
  pairs_length [] [] a = refl
  pairs_length [] (y ∷ ys) a = absurd a
  pairs_length (x ∷ xs) [] a = absurd a
  pairs_length (x ∷ xs) (y ∷ ys) a = ap suc (pairs_length xs ys a.1)

  pub pairs_at : (xs : List A) (ys : List B) (k : ℕ) (d : A) (e : B) → Pairs R xs ys → k < length xs → R (get_or xs k d) (get_or ys k e)
  unfolding Pairs
  pairs_at [] ys k d e a less = absurd (omega arith)
  pairs_at (x ∷ xs) [] k d e a less = absurd a
  pairs_at (x ∷ xs) (y ∷ ys) zero d e a less = a.0
  pairs_at (x ∷ xs) (y ∷ ys) (suc k) d e a less = pairs_at xs ys k d e a.1 (omega arith)

  -- the pair at a place, and what a function gives of its second part
  pub pairs_found : {C : Type 0} (f : B → C) (c : C) (xs : List A) (ys : List B) (k : ℕ) → Pairs R xs ys → k < length xs
      → (x : A) × (y : B) × R x y × ((d : A) → get_or xs k d ≡ x) × ((e : B) → get_or ys k e ≡ y) × (get_or (map f ys) k c ≡ f y)
  unfolding Pairs
  pairs_found f c [] ys k a less = absurd (omega arith)
  pairs_found f c (x ∷ xs) [] k a less = absurd a
  pairs_found f c (x ∷ xs) (y ∷ ys) zero a less = (x, y, a.0, (λ d. refl), (λ e. refl), refl)
  pairs_found f c (x ∷ xs) (y ∷ ys) (suc k) a less = pairs_found f c xs ys k a.1 (omega arith)

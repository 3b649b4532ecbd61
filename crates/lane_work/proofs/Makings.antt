use Rattle.std.proofs.Common.{◌≡◌, ℕ, ◌+◌, suc, List, [], ◌∷◌, ◌++◌, length, arith, ap, refl, subst}
use Rattle.ledger_model.specs.Scheme.{Scheme}
use Rattle.lane_work.specs.declared.kinds.LaneLine.{LaneLine}
use Rattle.lane_work.specs.declared.kinds.Made.{Made}
use Rattle.lane_work.specs.Making.{IsMadeOf, AllMade}

pub made_none : (scheme : Scheme) (id : List ℕ) (n : ℕ) → AllMade scheme id n [] []
unfolding AllMade
made_none scheme id n = tt

pub made_push : (scheme : Scheme) (id : List ℕ) (n : ℕ) (ss : List LaneLine) (ps : List Made) (s : LaneLine) (p : Made)
    → AllMade scheme id n ss ps → IsMadeOf scheme id s (n + length ss) p → AllMade scheme id n (ss ++ s ∷ []) (ps ++ p ∷ [])
unfolding AllMade
made_push scheme id n [] [] s p a b = (subst (λ (k : ℕ). IsMadeOf scheme id s k p) (omega arith) b, tt)
made_push scheme id n [] (q ∷ ps) s p a b = absurd a
made_push scheme id n (t ∷ ss) [] s p a b = absurd a
made_push scheme id n (t ∷ ss) (q ∷ ps) s p a b = (a.0, made_push scheme id (n + 1) ss ps s p a.1 (subst (λ (k : ℕ). IsMadeOf scheme id s k p) (omega arith) b))

pub made_length : (scheme : Scheme) (id : List ℕ) (n : ℕ) (ss : List LaneLine) (ps : List Made) → AllMade scheme id n ss ps → length ss ≡ length ps
unfolding AllMade
made_length scheme id n [] [] a = refl
made_length scheme id n [] (p ∷ ps) a = absurd a
made_length scheme id n (s ∷ ss) [] a = absurd a
made_length scheme id n (s ∷ ss) (p ∷ ps) a = ap suc (made_length scheme id (n + 1) ss ps a.1)

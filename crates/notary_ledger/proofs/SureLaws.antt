-- Laws of a notary that never fails.
use Rattle.std.proofs.Common.{◌≡◌, ℕ, List, [], Result, Ok, Err, refl, subst, arith}
use Rattle.std.specs.List.{Contains}
use Rattle.journal_record.specs.declared.stamp.Stamp.{Stamp}
use Rattle.time_peg.specs.Entries.{CountsFailures}
use Rattle.time_peg.specs.declared.notary.NotaryErr.{NotaryErr}
use Rattle.time_peg.specs.declared.notary.NotaryErr.TheVariants.{Failed, Full, NoMemory}

-- nothing is among none
pub never : (xs : List ℕ) (n : ℕ) → xs ≡ [] → Contains xs n → ⊥
never xs n is has = let h = subst (λ (l : List ℕ). Contains l n) is has in omega (arith, h.1)

-- an answer that is no failure leaves the count
pub counts_none : (r : Result Stamp NotaryErr) → (r ≡ Err Failed → ⊥) → CountsFailures r 0 0
counts_none (Ok s) not = refl
counts_none (Err Failed) not = absurd (not refl)
counts_none (Err Full) not = refl
counts_none (Err NoMemory) not = refl

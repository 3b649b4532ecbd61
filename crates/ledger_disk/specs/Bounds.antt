-- Bounds of a length that is told.
use Rattle.std.specs.Prelude.{◌≡◌, ℕ, ◌^◌, ◌≤◌, Option, Some, IsTrue, false, MatchOption, ⊤}
use Rattle.std.proofs.Common.{subst}
use Rattle.std.proofs.lemmas.Bool.{false≢true}
use Rattle.std.proofs.Math.Nat.{le_trans}

-- a length that is told keeps to a bound of the file's own length
pub some_bounded : (m most n : ℕ) → Some m ≡ Some n → m ≤ most → most ≤ 2 ^ 62 → n ≤ 2 ^ 62
some_bounded m most n is le bounded = subst (λ (o : Option ℕ). MatchOption o ⊤ (λ k. k ≤ 2 ^ 62)) is (le_trans le bounded)

-- whatever is asked of contents that are told holds of a disk that never tells them
pub not_told : {P : Type 0} → IsTrue false → P
not_told told = absurd (false≢true told)

-- Clocks whose moments are known.
use Rattle.std.specs.Prelude.{◌≡◌, ℕ, ◌+◌, Bool, true, false, List}
use Rattle.time_peg.specs.Entries.{Times, told, untold}

-- a clock after one call: its moments, by the number of the call from now on, are those from the next one on
abbrev pub HasAdvanced : (ℕ → ℕ) → (ℕ → ℕ) → Type 0
HasAdvanced old new = (n : ℕ) → new n ≡ old (n + 1)

-- the times of entries that are a clock's, where this kind of clock tells its moments, and else
abbrev pub clock_times : Bool → (ℕ → ℕ) → Times
clock_times true moments = told moments
clock_times false moments = untold

-- a clock with a list of moments: all of them, and those that are left
pub record Moments : Type 0 where
  pub all : List ℕ
  pub left : List ℕ

-- The state of a disk that is kept by its parts.
use Rattle.std.specs.Prelude.{ℕ, List}
use Rattle.ledger_disk.specs.Disk.{State}

-- the state of a disk by its parts
abbrev pub state_of : List ℕ → List ℕ → List (ℕ × ℕ) → ℕ → ℕ → State
state_of seen stable ranges least greatest =
    record { seen = seen; stable = stable; ranges = ranges; least = least; greatest = greatest }

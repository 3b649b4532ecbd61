-- A notary's list in memory.
use Rattle.std.specs.Prelude.{ℕ, List}

-- a notary's list in memory: its entries, and for how many more it has room
pub record Listed : Type 0 where
  pub entries : List (List ℕ)
  pub room : ℕ

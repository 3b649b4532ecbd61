-- What making a new ledger leaves.
use Rattle.std.specs.Prelude.{◌≡◌, ◌⊎◌, ℕ, List, []}
use Rattle.block_file.specs.Head.{IsShut, IsOpen}
use Rattle.ledger_disk.specs.Disk.{State, MayLeave, settled_state}
use Rattle.ledger_model.specs.Genesis.{new_ledger}
use Rattle.ledger_model.specs.declared.genesis.Genesis.{Genesis}
use Rattle.ledger_open.specs.Growing.{new_file}
use Rattle.ledger_open.specs.Standing.{PairFor}

-- one of two files is open, so that no new ledger is made there
abbrev pub IsOneOpen : List ℕ → List ℕ → Type 0
IsOneOpen a b = IsOpen a ⊎ IsOpen b

-- a new ledger was made: the first of two files is its own, the second is empty, and nothing is pending
pub record IsFounded (genesis : Genesis) (a b : State) : Type 0 where
  pub first : a ≡ settled_state (new_file genesis)
  pub second : b ≡ settled_state []

-- two files are shut, or stand for the new ledger
abbrev pub IsFoundedOrShut : Genesis → List ℕ → List ℕ → Type 0
IsFoundedOrShut genesis a b = (IsShut a × IsShut b) ⊎ PairFor a b (new_ledger genesis)

-- every pair of images is shut, or stands for the new ledger
abbrev pub LeavesFoundedOrShut : Genesis → State → State → Type 0
LeavesFoundedOrShut genesis a_new b_new =
    (image_a image_b : List ℕ) → MayLeave a_new image_a → MayLeave b_new image_b → IsFoundedOrShut genesis image_a image_b

-- of two files that were shut every pair of images is so still, or stands for the new ledger
abbrev pub StaysFoundedOrShut : Genesis → State → State → State → State → Type 0
StaysFoundedOrShut genesis a b a_new b_new = IsShut a.seen → IsShut b.seen → LeavesFoundedOrShut genesis a_new b_new

-- Which file is taken.
use Rattle.std.specs.Prelude.{◌≡◌, ℕ, ◌+◌, ◌<◌, ◌≤◌, ◌⊎◌, Bool, true, false, List, take, drop, Option, Some, None}
use Rattle.block_file.specs.Head.{IsShut, generation_of, version_in, number_at}
use Rattle.block_file.specs.declared.head.FileHead.{FileHead}
use Rattle.twin_file.specs.Twin.{open_of, IsTaken}
use Rattle.twin_file.specs.declared.picking.Picked.{Picked}

-- what a `Twin` shows of the open file: which it is, its generation, its version, the place of its first block, and what its head says of
-- its base
pub record View : Type 0 where
  pub in_a : Bool
  pub generation : ℕ
  pub version : ℕ
  pub place : ℕ
  pub base_len : ℕ
  pub base_digest : List ℕ

-- the same by its parts
abbrev pub view : Bool → ℕ → ℕ → ℕ → ℕ → List ℕ → View
view in_a generation version place base_len base_digest =
    record { in_a = in_a; generation = generation; version = version; place = place; base_len = base_len; base_digest = base_digest }

-- which of two heads is picked: the one that is there, of both that of the greater generation, and the first where they are
-- equal
abbrev pub IsPicked : Option FileHead → Option FileHead → Option Picked → Type 0
IsPicked None None picked = picked ≡ None
IsPicked (Some x) None picked = picked ≡ Some (record { in_a = true; head = x })
IsPicked None (Some y) picked = picked ≡ Some (record { in_a = false; head = y })
IsPicked (Some x) (Some y) picked =
    ((y.generation ≤ x.generation) × (picked ≡ Some (record { in_a = true; head = x })))
    ⊎ ((x.generation < y.generation) × (picked ≡ Some (record { in_a = false; head = y })))

-- what opening two files answers: none where both are shut; else the file that is taken, at its first block
abbrev pub IsReopened : List ℕ → List ℕ → Option View → Type 0
IsReopened a b None = IsShut a × IsShut b
IsReopened a b (Some v) =
    IsTaken v.in_a a b × (v.generation ≡ generation_of (open_of v.in_a a b)) × (v.version ≡ version_in (open_of v.in_a a b))
    × (v.place ≡ 64 + number_at 18 (open_of v.in_a a b)) × (v.base_len ≡ number_at 18 (open_of v.in_a a b))
    × (v.base_digest ≡ take 32 (drop 26 (open_of v.in_a a b)))

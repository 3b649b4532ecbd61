-- What a `FuseDisk` shows.
use Rattle.std.specs.Prelude.{◌≡◌, ℕ, ◌+◌, ◌-◌, ◌^◌, ◌≤◌, min, Result, IsErr}
use Rattle.ledger_disk.specs.Disk.{DiskState}
use Rattle.ledger_disk.specs.declared.fuse.FuseDisk.{FuseDisk}

-- the disk behind a fuse
abbrev pub inner_of : {D : Type 0} → FuseDisk D → D
inner_of f = f.inner

-- how many calls of `write`, `cut` and `sync` the fuse will still pass on
abbrev pub left_of : {D : Type 0} → FuseDisk D → ℕ
left_of f = f.left

-- how many calls the fuse refused
abbrev pub refused_of : {D : Type 0} → FuseDisk D → ℕ
refused_of f = f.refused

-- how many calls failed: those that its disk counted, and those that it refused
abbrev pub fuse_faults : {D : Type 0} → (D → DiskState) → FuseDisk D → ℕ
fuse_faults state f = min ((state (inner_of f)).faults + refused_of f) (2 ^ 64 - 1)

-- what a fuse tells: what its disk does, with the calls that it refused among the failures
abbrev pub fuse_state : {D : Type 0} → (D → DiskState) → FuseDisk D → DiskState
fuse_state state f = record { bytes = (state (inner_of f)).bytes; told = (state (inner_of f)).told; faults = fuse_faults state f }

-- a call where none was left is refused, and doesn't reach the disk; each other is passed on
pub record IsPassedOn {D T E : Type 0} (result : Result T E) (old new : FuseDisk D) : Type 0 where
  pub stopped : left_of old ≡ 0 → IsErr result × (inner_of new ≡ inner_of old)
  pub passed : 1 ≤ left_of old → refused_of new ≡ refused_of old

-- What notaries show, and what they keep true.
use Rattle.std.specs.Prelude.{◌≡◌, ◌<◌, ◌≤◌, ◌+◌, ◌*◌, ◌^◌, ℕ, length, replicate, Bool, IsTrue, List, Option, Some, IsSome, IsSomeAnd}
use Rattle.ledger_bytes.specs.Causes.{Rose}
use Rattle.ledger_disk.specs.Disk.{DiskState}
use Rattle.time_peg.specs.Entries.{IsList, Origin, Times, counted, last_time}
use Rattle.notary_ledger.specs.Slots.{OnDisk, tail_of}

-- a notary over a disk: its disk, its clock, the seed of its salts, how many calls of the disk had failed when it was taken up, its
-- list, and the entry whose gate was called to be written since the last sync
pub record Shown (D C : Type 0) : Type 0 where
  pub disk : D
  pub clock : C
  pub seed : List ℕ
  pub begun : ℕ
  pub entries : List (List ℕ)
  -- the entry whose gate was called to be written since the last sync that succeeded
  pub half : Option (List ℕ)

-- what a notary keeps true of its list, of that entry and of its disk: list and tail gate stand on the disk
pub record Sound (tells : Bool) (es : List (List ℕ)) (half : Option (List ℕ)) (disk : DiskState) : Type 0 where
  pub list : IsList es
  pub told : IsSomeAnd disk.told (λ n. tail_of es + 1 ≤ n)
  pub on_disk : IsTrue tells → OnDisk es half disk.bytes

-- what a notary over a disk keeps true: that of list, entry and disk, and of failures: such an entry is there only where a call of
-- the disk failed since the notary was taken up
pub record Keeps (tells : Bool) (es : List (List ℕ)) (half : Option (List ℕ)) (begun : ℕ) (disk : DiskState) : Type 0 where
  pub sound : Sound tells es half disk
  pub fits : begun < 2 ^ 64
  pub least : begun ≤ disk.faults
  pub failed : IsSome half → Rose begun disk.faults

-- what stays of a notary with this seed, these times and this count of failures at its beginning
abbrev pub origin_of : List ℕ → Times → ℕ → Origin
origin_of seed times begun = record { making = Some (record { seed = seed; times = times }); faults = begun }

-- the seed of a notary in memory: 32 zeros
abbrev pub memory_seed : List ℕ
memory_seed = replicate 32 0

-- what stays of a notary in memory
abbrev pub memory_origin : Origin
memory_origin = origin_of memory_seed counted 0

-- a notary in memory: its list, the numbers of the stamps that are to fail, how many were called, and its failures
pub record MemShown : Type 0 where
  pub entries : List (List ℕ)
  -- the numbers of the stamps that fail, and how many were called
  pub fail_at : List ℕ
  pub calls : ℕ
  pub faults : ℕ

-- a list that a notary in memory may keep: the time of its last entry counts 1000 for each entry
pub record HasTimes (es : List (List ℕ)) : Type 0 where
  pub list : IsList es
  pub last : last_time 0 es ≡ 1000 * length es

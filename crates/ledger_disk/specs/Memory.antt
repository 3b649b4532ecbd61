-- What a `MemDisk` shows.
use Rattle.std.specs.Prelude.{◌≡◌, ℕ, ◌+◌, ◌-◌, ◌^◌, List, length, min, Option, Some, Result, MatchResult}
use Rattle.std.specs.List.{Contains}
use Rattle.ledger_disk.specs.Disk.{State}
use Rattle.ledger_disk.specs.Parts.{state_of}
use Rattle.ledger_disk.specs.declared.memory.MemDisk.{MemDisk}

-- the contents of a disk in memory, and what may be left of them
abbrev pub memory_state : MemDisk → State
memory_state m = state_of m.bytes.items m.stable.items m.ranges.items m.least m.greatest

-- how many calls of a disk in memory failed
abbrev pub memory_faults : MemDisk → ℕ
memory_faults m = m.faults

-- how many bytes a disk in memory can hold
abbrev pub room_of : MemDisk → ℕ
room_of m = m.room

-- how many writes of a disk in memory may be lost or torn in a crash
abbrev pub pending_of : MemDisk → ℕ
pending_of m = length m.ranges.items

-- the length that a disk in memory tells, from the first moment on
abbrev pub told_len : MemDisk → Option ℕ
told_len m = Some (length m.bytes.items)

-- a disk in memory of which no call was made, and whose calls with these numbers will fail
abbrev pub IsUnused : List ℕ → MemDisk → Type 0
IsUnused fail_at m = (m.fail_at.items ≡ fail_at) × (m.calls ≡ 0) × (memory_faults m ≡ 0)

-- the next call of a disk in memory is one that is to fail
abbrev pub IsRefused : MemDisk → Type 0
IsRefused m = Contains m.fail_at.items m.calls

-- room, the calls that are to fail, and the counts of calls and of failures are as before
abbrev pub SamePlan : MemDisk → MemDisk → Type 0
SamePlan old new = (room_of new ≡ room_of old) × (new.fail_at.items ≡ old.fail_at.items) × (new.calls ≡ old.calls)
    × (memory_faults new ≡ memory_faults old)

-- The call was counted. It answers Ok only where its number isn't one of those that are to fail, and an error is counted once.
-- The room and the calls that are to fail stay.
abbrev pub IsCounted : {T E : Type 0} → Result T E → MemDisk → MemDisk → Type 0
IsCounted result old new =
    (new.calls ≡ min (old.calls + 1) (2 ^ 64 - 1)) × (room_of new ≡ room_of old)
    × (new.fail_at.items ≡ old.fail_at.items)
    × MatchResult result
    (λ _. (IsRefused old → ⊥) × (memory_faults new ≡ memory_faults old))
    (λ _. memory_faults new ≡ min (memory_faults old + 1) (2 ^ 64 - 1))

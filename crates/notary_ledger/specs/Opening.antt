-- What reopening reads and answers.
use Rattle.std.specs.Prelude.{◌≡◌, ◌≢◌, ◌⊎◌, ℕ, ◌<◌, ◌≤◌, ◌+◌, List, [], ◌∷◌, length, get_or, take, drop, Option, Some, None, Result, MatchResult}
use Rattle.ledger_bytes.specs.Causes.{count_after}
use Rattle.ledger_disk.specs.Disk.{State, MayLeave, overlay}
use Rattle.block_file.specs.declared.failure.FileErr.{FileErr}
use Rattle.block_file.specs.declared.failure.FileErr.TheVariants.{DiskFault, Damaged, NewerFormat, NoMemory}
use Rattle.time_peg.specs.Entries.{time_in}
use Rattle.notary_ledger.specs.Slots.{Lists}

-- the slot at a place, behind one with this time: none where it isn't open, and else its entry
abbrev pub IsSlot : ℕ → ℕ → List ℕ → Option (List ℕ) → Type 0
IsSlot at least file None =
    (length file < at + 74) ⊎ ((get_or file at 0 ≢ 1) ⊎ (time_in (take 72 (drop (at + 1) file)) < least))
IsSlot at least file (Some e) =
    (at + 74 ≤ length file) × (get_or file at 0 ≡ 1) × (e ≡ take 72 (drop (at + 1) file)) × (least ≤ time_in e)

-- why a notary's file isn't opened: for a fault, which was counted, or for want of memory
abbrev pub CountsOpenAt : FileErr → ℕ → ℕ → Type 0
CountsOpenAt DiskFault old new = new ≡ count_after old
CountsOpenAt (Damaged damage) old new = ⊥
CountsOpenAt (NewerFormat found) old new = ⊥
CountsOpenAt NoMemory old new = new ≡ old

-- the count of faults behind an opening: one more exactly where a fault is answered
abbrev pub CountsOpen : {T : Type 0} → Result T FileErr → ℕ → ℕ → Type 0
CountsOpen result old new = MatchResult result (λ _. new ≡ old) (λ e. CountsOpenAt e old new)

-- an image has the list of some image that a crash might have left before
abbrev pub KeepsList : State → List ℕ → Type 0
KeepsList s image = (before : List ℕ) × MayLeave s before × ((es : List (List ℕ)) → Lists es before → Lists es image)

-- what is read once the gate at this place was shut again, where it wasn't: nothing else is changed, and nothing is cut
abbrev pub IsShutAgain : ℕ → List ℕ → List ℕ → Type 0
IsShutAgain at before after = (after ≡ before) ⊎ (after ≡ overlay at (0 ∷ []) before)

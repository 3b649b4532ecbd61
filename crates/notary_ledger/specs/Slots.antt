-- The file of a notary: slots of a gate and an entry, and a tail gate.
use Rattle.std.specs.Prelude.{◌≡◌, ◌≢◌, ◌⊎◌, ℕ, ◌<◌, ◌≤◌, ◌+◌, List, [], ◌∷◌, ◌++◌, length, get_or, take, drop, Option, Some, None}
use Rattle.std.specs.List.{flat_map}
use Rattle.journal_record.specs.declared.rules.TheConstants.{NOTARY_LIMIT}
use Rattle.ledger_disk.specs.Disk.{State}
use Rattle.ledger_disk.specs.Guards.{Guards, Confined}
use Rattle.time_peg.specs.Entries.{IsList, time_in, last_time}

-- the bytes of slots with these entries, each behind an open gate
abbrev pub opened : List (List ℕ) → List ℕ
opened es = flat_map (λ e. 1 ∷ e) es

-- where the tail gate stands behind the slots of these entries
abbrev pub tail_of : List (List ℕ) → ℕ
tail_of es = length (opened es)

-- the slot at the beginning of these bytes isn't open: as many as there may be stand before it, too few bytes follow,
-- its gate isn't 01, or its time is below that of the one before
abbrev pub IsShutSlot : ℕ → ℕ → List ℕ → Type 0
IsShutSlot count least rest =
    (count ≡ NOTARY_LIMIT) ⊎ ((length rest < 74) ⊎ ((get_or rest 0 0 ≢ 1) ⊎ (time_in (take 72 (drop 1 rest)) < least)))

-- the list of a notary's file: its open slots from the start, up to one that isn't open
pub record Lists (es : List (List ℕ)) (file : List ℕ) : Type 0 where
  pub rest : List ℕ
  pub is : file ≡ opened es ++ rest
  -- a tail gate follows
  pub room : 0 < length es → 1 ≤ length rest
  pub list : IsList es
  pub ended : IsShutSlot (length es) (last_time 0 es) rest

-- the list stands on the disk for good, and the gate behind it is shut for good
pub record Shut (es : List (List ℕ)) (s : State) : Type 0 where
  pub gate : ℕ
  pub shut : gate ≢ 1
  pub guards : Guards s (opened es ++ gate ∷ [])

-- the list and an entry behind it stand on the disk for good, and that entry's gate alone was written since
pub record Half (es : List (List ℕ)) (e : List ℕ) (s : State) : Type 0 where
  pub gate : ℕ
  pub rest : List ℕ
  pub list : IsList (es ++ e ∷ [])
  pub confined : Confined (tail_of es) 1 (opened es ++ (gate ∷ (e ++ (0 ∷ rest)))) s

-- what stands on the disk, where this is the entry whose gate was called to be written since the last sync
abbrev pub OnDisk : List (List ℕ) → Option (List ℕ) → State → Type 0
OnDisk es None s = Shut es s
OnDisk es (Some e) s = Half es e s

-- an image has the list, or that and this entry
abbrev pub MayList : List (List ℕ) → Option (List ℕ) → List ℕ → Type 0
MayList es None image = Lists es image
MayList es (Some e) image = Lists es image ⊎ Lists (es ++ e ∷ []) image

-- a file after an entry and a new tail gate were written behind the gate at this place
abbrev pub staged_at : ℕ → List ℕ → List ℕ → List ℕ
staged_at at entry file = take (at + 1) file ++ entry ++ 0 ∷ drop (at + 2 + length entry) file

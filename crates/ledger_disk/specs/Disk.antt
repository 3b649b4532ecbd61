-- What a disk tells of itself, and what a crash may leave of it.
use Rattle.ledger_bytes.specs.Causes.{count_after}
use Rattle.std.specs.Prelude.{◌≡◌, ◌⊎◌, ℕ, ◌+◌, ◌<◌, ◌≤◌, min, max, List, [], ◌∷◌, ◌++◌, length, get_or, take, drop, Option, Some, IfSome, Result, MatchResult}

-- what a disk tells of its contents: the bytes that a read gives, those of the last sync that succeeded, the ranges that were
-- written since, and between which lengths it was cut and written since
pub record State : Type 0 where
  -- the bytes that a read gives
  pub seen : List ℕ
  -- those of the last sync that succeeded
  pub stable : List ℕ
  -- begin and length of each range that was written since
  pub ranges : List (ℕ × ℕ)
  -- the least and the greatest length since
  pub least : ℕ
  pub greatest : ℕ

-- all that a clause knows of a disk: its contents, its length where it told one already, and how many of its calls failed
pub record DiskState : Type 0 where
  pub bytes : State
  pub told : Option ℕ
  pub faults : ℕ

-- none of these ranges has this place
abbrev pub IsUntouched : ℕ → List (ℕ × ℕ) → Type 0
IsUntouched i [] = Unit {0}
IsUntouched i (r ∷ rs) = ((i < r.0) ⊎ (r.0 + r.1 ≤ i)) × IsUntouched i rs

-- The crash model: what a crash may leave of a disk. The image has any length between the least and the greatest. Each of its
-- bytes is the stable one, but in a range that was written since, and at or past the stable length, where it may be any.
pub record MayLeave (s : State) (image : List ℕ) : Type 0 where
  pub no_shorter : s.least ≤ length image
  pub no_longer : length image ≤ s.greatest
  pub kept : (i : ℕ) → i < length image → i < length s.stable → IsUntouched i s.ranges
      → get_or image i 0 ≡ get_or s.stable i 0

-- a disk with these bytes of which nothing is pending: a crash leaves exactly them
abbrev pub settled_state : List ℕ → State
settled_state bytes = record { seen = bytes; stable = bytes; ranges = []; least = length bytes; greatest = length bytes }

-- a file with a piece over what stands at an offset
abbrev pub overlay : ℕ → List ℕ → List ℕ → List ℕ
overlay at bytes file = take at file ++ bytes ++ drop (at + length bytes) file

-- the disk after a write of n bytes at an offset, where a read gives this file now
abbrev pub with_write : ℕ → ℕ → List ℕ → State → State
with_write at n file s = record s { seen = file; ranges = s.ranges ++ (at, n) ∷ []; greatest = max s.greatest (length file) }

-- the disk after a cut to n bytes
abbrev pub cut_to : ℕ → State → State
cut_to n s = record s { seen = take n s.seen; least = min s.least n }

-- a file after a write of n bytes that failed: any bytes in its range, and any length up to its end
pub record Torn (at n : ℕ) (old new : List ℕ) : Type 0 where
  pub before : take at new ≡ take at old
  pub after : drop (at + n) new ≡ drop (at + n) old
  pub no_shorter : length old ≤ length new
  pub no_longer : length new ≤ max (length old) (at + n)

-- the disk after a write that failed: it is torn, or as it was
abbrev pub MayHaveWritten : ℕ → ℕ → State → State → Type 0
MayHaveWritten at n old new = (new ≡ old) ⊎ ((file : List ℕ) × Torn at n old.seen file × (new ≡ with_write at n file old))

-- the disk after a cut that failed: it is cut to some length between, or as it was
abbrev pub MayHaveCut : ℕ → State → State → Type 0
MayHaveCut n old new = (new ≡ old) ⊎ ((m : ℕ) × (n ≤ m) × (m ≤ length old.seen) × (new ≡ cut_to m old))

-- the count of failures is the same at `Ok`, and one more at `Err`
abbrev pub CountsFault : {T E : Type 0} → Result T E → ℕ → ℕ → Type 0
CountsFault result old new = MatchResult result (λ _. new ≡ old) (λ _. new ≡ count_after old)

-- of two disks one call of one failed, by their counts before and after
abbrev pub OneMore : ℕ → ℕ → ℕ → ℕ → Type 0
OneMore x1 x2 y1 y2 = ((x2 ≡ count_after x1) × (y2 ≡ y1)) ⊎ ((x2 ≡ x1) × (y2 ≡ count_after y1))

-- a length that was told once is told from then on
abbrev pub KeepsLength : Option ℕ → Option ℕ → Type 0
KeepsLength old new = IfSome old (λ n. new ≡ Some n)

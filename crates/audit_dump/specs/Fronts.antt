-- What stands in front of the journals of a dump, read through a window on what is read.
use Rattle.std.specs.Prelude.{◌≡◌, ◌⊎◌, ℕ, ◌+◌, ◌≤◌, true, List, [], ◌++◌, length, Option, Result, Ok, Err, ⊤, ◌*◌}
use Rattle.std.specs.Io.KnownBytes.{Consumes, IsAtEnd}
use Rattle.ledger_bytes.specs.declared.failure.Bad.{Bad}
use Rattle.ledger_bytes.specs.declared.failure.Bad.TheVariants.{BadFixedField}
use Rattle.ledger_bytes.specs.Fields.{Unread, left_from, ◌>>=◌, bytes_at}
use Rattle.ledger_io.specs.Outside.{SourceState}
use Rattle.ledger_io.specs.Windows.{Seen, HasEnough}
use Rattle.ledger_io.specs.declared.failure.LineErr.TheVariants.{NoMemory}
use Rattle.journal_record.specs.Items.{most_bytes}
use Rattle.pseudo_genesis.specs.declared.base.Base.{Base}
use Rattle.pseudo_genesis.specs.declared.base.TheConstants.{CLUE_LIMIT}
use Rattle.audit_dump.specs.Breaks.{Front, base_place, decoded, in_dump, magic_at, place_within}
use Rattle.audit_dump.specs.Walking.{MayFollow}
use Rattle.audit_dump.specs.declared.front.Front.{Front as FrontRead}
use Rattle.audit_dump.specs.declared.front.Stop.{Stop}
use Rattle.audit_dump.specs.declared.front.Stop.TheVariants.{Broken, Failed}
use Rattle.audit_dump.specs.declared.walking.Break.{Break}

-- ---- reading through a window

-- What is left of an input: what a window holds, and what is still to come.
-- Example: 100 bytes were read, the last 30 are held, and 50 are to come. So 80 are left of 150.
abbrev pub unread : Seen → List ℕ → Unread
unread w coming = left_from (w.total + length coming) (w.held ++ coming)

-- these bytes of the source were read, and nothing is read once the end was told
pub record HasReadOn (before after : SourceState) (old new : Seen) (bytes : List ℕ) : Type 0 where
  pub consumed : Consumes before.left after.left bytes
  pub total : new.total ≡ old.total + length bytes
  pub within : length old.held ≤ old.total → length new.held ≤ new.total
  pub end : new.ended ≡ true → (old.ended ≡ true) ⊎ IsAtEnd after.left
  pub again : old.ended ≡ true → (bytes ≡ []) × (after ≡ before) × (new.ended ≡ true)

-- what is told of a reading, behind which this is left; the place of a break is that in the whole input
abbrev pub IsTold : {A : Type 0} → Result (A × Unread) Bad → Unread → Result A Break → Type 0
IsTold read after (Ok x) = read ≡ Ok (x, after)
IsTold read after (Err broken) = (read ≡ Err broken.bad) × (broken.place ≡ place_within broken.bad)

-- What is told is so of the input, whatever bytes may follow those that were read. No window holds more than was read.
-- Example: nothing was held, and 5 bytes were read for a number of 8, and then the end. What is told is `Short 5`.
abbrev pub TellsOver : {A : Type 0} → (Unread → Result (A × Unread) Bad) → Seen → Seen → List ℕ → Result A Break → Type 0
TellsOver read old new bytes told =
    length old.held ≤ old.total → (further : List ℕ) → MayFollow new further → IsTold (read (unread old (bytes ++ further))) (unread new further) told

-- ---- the same where reading stops at a break or an error

-- what is told; nothing where the input couldn't be read
abbrev pub IsToldOn : {A : Type 0} → Result (A × Unread) Bad → Unread → Result A Stop → Type 0
IsToldOn read after (Ok x) = IsTold read after (Ok x)
IsToldOn read after (Err (Broken broken)) = IsTold read after (Err broken)
IsToldOn read after (Err (Failed error)) = ⊤

-- no read failed, or this error came
abbrev pub FailsOn : {A : Type 0} → SourceState → SourceState → Seen → Result A Stop → Type 0
FailsOn before after new (Ok x) = after.faults ≡ before.faults
FailsOn before after new (Err (Broken broken)) = after.faults ≡ before.faults
FailsOn before after new (Err (Failed error)) = HasEnough before after most_bytes new (Err error)

-- a reading through a window is the one of the input
pub record ReadsOn {A : Type 0} (read : Unread → Result (A × Unread) Bad) (before after : SourceState) (old new : Seen) (result : Result A Stop) : Type 0 where
  pub bytes : List ℕ
  pub read_bytes : HasReadOn before after old new bytes
  pub told : length old.held ≤ old.total → (further : List ℕ) → MayFollow new further → IsToldOn (read (unread old (bytes ++ further))) (unread new further) result
  pub failed : FailsOn before after new result

-- ---- the front

-- the bytes with which a dump begins, of which nothing is kept
abbrev pub begin_at : Unread → Result ((Unit {0}) × Unread) Bad
begin_at l = do
  begin ← magic_at l
  Ok (tt, begin.1)

-- no base has more bytes
abbrev pub most_base : ℕ
most_base = 49 + (1024 + ((2 + 8192) + ((4 + 44 * CLUE_LIMIT) + 0)))

-- the base behind its length
abbrev pub base_behind : ℕ → Unread → Result (Option Base × Unread) Bad
base_behind len l = do
  bytes ← bytes_at len l
  base ← decoded bytes.0
  Ok (base, bytes.1)

-- a break of a base, as one of the dump in which it stands
abbrev pub base_bad : Bad → Bad
base_bad broken = BadFixedField (base_place + place_within broken)

-- what is told of a base that was decoded: it, or its break as one of the dump; else memory was wanted
abbrev pub Decodes : Result Base Bad → Result Base Stop → Type 0
Decodes read (Ok base) = read ≡ Ok base
Decodes read (Err (Broken broken)) = (in_dump read ≡ Err broken.bad) × (broken.place ≡ place_within broken.bad)
Decodes read (Err (Failed error)) = error ≡ NoMemory

-- the front that a call tells
abbrev pub front_of : FrontRead → Front
front_of front = record { id = front.id; base = front.base }

-- the front, as a call tells it
abbrev pub as_front : Result FrontRead Break → Result Front Break
as_front (Ok front) = Ok (front_of front)
as_front (Err broken) = Err broken

-- the same where reading stops at a break or an error
abbrev pub stops_as_front : Result FrontRead Stop → Result Front Stop
stops_as_front (Ok front) = Ok (front_of front)
stops_as_front (Err stop) = Err stop

-- so many bytes, of which nothing is kept
abbrev pub skip_at : ℕ → Unread → Result ((Unit {0}) × Unread) Bad
skip_at len l = do
  bytes ← bytes_at len l
  Ok (tt, bytes.1)

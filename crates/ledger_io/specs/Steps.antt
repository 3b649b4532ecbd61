-- The steps of a reader of lines.
use Rattle.std.specs.Prelude.{◌≡◌, ◌≢◌, ℕ, ◌+◌, ◌<◌, ◌≤◌, Bool, true, List, [], ◌∷◌, ◌++◌, length, take, Option, Some, None, Result, Ok, Err}
use Rattle.std.specs.Io.KnownBytes.{Consumes, IsAtEnd}
use Rattle.ledger_bytes.specs.Causes.{count_after}
use Rattle.ledger_io.specs.Outside.{SourceState}
use Rattle.ledger_io.specs.Lines.{script_limit, IsUnbroken, IsLine, BeginsTooLong}
use Rattle.ledger_io.specs.Reading.{Reading}
use Rattle.ledger_io.specs.declared.failure.LineErr.{LineErr}
use Rattle.ledger_io.specs.declared.failure.LineErr.TheVariants.{ReadFault, LineTooLong, ScriptTooLong, NoMemory}

-- the reader, with the error of its last answer noted
abbrev pub reading_after : Reading → Result (Option (List ℕ)) LineErr → Reading
reading_after reader (Ok line) = reader
reading_after reader (Err error) = record reader { failed = Some error }

-- what a reader keeps to: `looked` of the held bytes were searched for a newline, with none found
pub record IsSoundReader (held : List ℕ) (looked total : ℕ) (ended : Bool) : Type 0 where
  pub within : looked ≤ length held
  pub unbroken : IsUnbroken (take looked held)
  pub bounded : total ≤ script_limit
  pub none_held : ended ≡ true → held ≡ []
  pub short : ended ≡ true → total < script_limit

-- bytes were read behind those that are held, and nothing else changed
pub record HasRead (before after : SourceState) (old new : Reading) (bytes : List ℕ) : Type 0 where
  pub consumed : Consumes before.left after.left bytes
  pub held : new.held ≡ old.held ++ bytes
  pub total : new.total ≡ old.total + length bytes
  pub bounded : new.total ≤ script_limit
  pub ended : new.ended ≡ old.ended
  pub failed : new.failed ≡ old.failed

-- what the answer of a single read means: so many bytes came, or it failed
abbrev pub Fetched : SourceState → SourceState → ℕ → List ℕ → Result ℕ LineErr → Type 0
Fetched before after most bytes (Ok n) = (n ≡ length bytes) × (n ≤ most) × (n ≡ 0 → 0 < most → IsAtEnd after.left)
Fetched before after most bytes (Err ReadFault) = (bytes ≡ []) × (after.faults ≡ count_after before.faults)
Fetched before after most bytes (Err LineTooLong) = ⊥
Fetched before after most bytes (Err ScriptTooLong) = ⊥
Fetched before after most bytes (Err NoMemory) = bytes ≡ []

-- how many bytes a read brought: none where it failed
abbrev pub gain : Result ℕ LineErr → ℕ
gain (Ok n) = n
gain (Err error) = 0

-- a single read of at most so many bytes, which stand behind those that were held
pub record Fetches (before after : SourceState) (old new : List ℕ) (most : ℕ) (result : Result ℕ LineErr) : Type 0 where
  pub bytes : List ℕ
  pub consumed : Consumes before.left after.left bytes
  pub held : new ≡ old ++ bytes
  pub outcome : Fetched before after most bytes result

-- the next line that stands whole in the held bytes is taken, where there is one; where there is none they fit a line
abbrev pub TakesLine : Reading → Reading → Result (Option (List ℕ)) LineErr → Type 0
TakesLine old new (Ok (Some line)) = IsLine line × (old.held ≡ line ++ 10 ∷ new.held) × (new ≡ record old { held = new.held })
TakesLine old new (Ok None) = IsLine old.held × (new ≡ old)
TakesLine old new (Err ReadFault) = ⊥
TakesLine old new (Err LineTooLong) = BeginsTooLong old.held × (new ≡ old)
TakesLine old new (Err ScriptTooLong) = ⊥
TakesLine old new (Err NoMemory) = new ≡ old

-- what is held at the end of the source is taken, where there is something
abbrev pub TakesRest : Reading → Reading → Result (Option (List ℕ)) LineErr → Type 0
TakesRest old new (Ok (Some line)) = (old.held ≡ line) × (line ≢ []) × (new ≡ record old { held = []; ended = true })
TakesRest old new (Ok None) = (old.held ≡ []) × (new ≡ record old { ended = true })
TakesRest old new (Err ReadFault) = ⊥
TakesRest old new (Err LineTooLong) = ⊥
TakesRest old new (Err ScriptTooLong) = ⊥
TakesRest old new (Err NoMemory) = new ≡ old

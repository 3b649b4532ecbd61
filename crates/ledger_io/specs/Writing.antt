-- How far the writing of a whole piece came.
use Rattle.std.specs.Prelude.{◌≡◌, ℕ, ◌<◌, ◌⊎◌, List, length, take, Option, Result, Ok, Err}
use Rattle.std.specs.Io.KnownBytes.{Appends}
use Rattle.ledger_bytes.specs.Begins.{Begins}
use Rattle.ledger_io.specs.Outside.{SinkState, MeetsNone, MeetsOne}
use Rattle.ledger_io.specs.declared.writer.WriteErr.{WriteErr}
use Rattle.ledger_io.specs.declared.writer.WriteErr.TheVariants.{WriteFault}

-- the sink took the first bytes of the piece, as many as the error says, and not all of them
abbrev pub WritesFirst : Option (List ℕ) → Option (List ℕ) → List ℕ → WriteErr → Type 0
WritesFirst old new piece (WriteFault taken) = (taken < length piece) × Appends old new (take taken piece)

-- the faults that the writing of a whole piece met: none, or the one that ended it
abbrev pub MeetsAtMostOne : {T E : Type 0} → Result T E → SinkState → SinkState → Type 0
MeetsAtMostOne (Ok done) before after = MeetsNone before after
MeetsAtMostOne (Err error) before after = MeetsOne before after

-- what came of writing the last line by one attempt: it was written whole and met no fault, or as far as the one fault let it
pub record WritesLast (line : List ℕ) (before after : SinkState) : Type 0 where
  pub last : List ℕ
  pub appended : Appends before.held after.held last
  pub front : Begins last line
  pub once : ((last ≡ line) × MeetsNone before after) ⊎ ((length last < length line) × MeetsOne before after)

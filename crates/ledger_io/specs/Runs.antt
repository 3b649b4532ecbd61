-- What a run over the lines of a source did, from the bytes that came in to the bytes that went out. What is answered to
-- lines is the program's own: a relation between the lines of a script and a text.
use Rattle.std.specs.Prelude.{◌≡◌, ℕ, ◌<◌, ◌⊎◌, List, [], ◌∷◌, ◌++◌, length, All, Option, Some, None}
use Rattle.std.specs.Io.KnownBytes.{Consumes, Appends, IsAtEnd}
use Rattle.ledger_bytes.specs.Begins.{Begins}
use Rattle.ledger_io.specs.Endings.{ending_of, last_line}
use Rattle.ledger_io.specs.Lines.{lines_of, script_limit, IsLine, BeginsTooLong, Splits}
use Rattle.ledger_bytes.specs.Causes.{count_after}
use Rattle.ledger_io.specs.Outside.{SourceState, SinkState, Outside, outside, MeetsNone, MeetsOne}
use Rattle.ledger_io.specs.Writing.{WritesLast}
use Rattle.ledger_io.specs.declared.ending.Ending.{Ending}
use Rattle.ledger_io.specs.declared.ending.Ending.TheVariants.{Done, Usage, ReadFault, WriteFault, NoMemory, LineTooLong, ScriptTooLong}
use Rattle.ledger_io.specs.declared.failure.LineErr.{LineErr}
use Rattle.ledger_io.specs.declared.failure.LineErr.TheVariants as line_err

-- the bytes are these lines, each ended by a newline, and a rest
pub record EndsBehind (read : List ℕ) (lines : List (List ℕ)) (IsRest : List ℕ → Type 0) : Type 0 where
  pub rest : List ℕ
  pub split : Splits read lines rest
  pub rest_is : IsRest rest

-- how reading ended, how often it failed, and which lines are answered then: at the end of the source all; behind an error
-- those that a newline ended before it
abbrev pub EndsReading : Option LineErr → SourceState → SourceState → List ℕ → List (List ℕ) → Type 0
EndsReading None before after read lines =
    (after.faults ≡ before.faults) × IsAtEnd after.left × (length read < script_limit) × (lines ≡ lines_of read) × All IsLine lines
EndsReading (Some line_err.ReadFault) before after read lines =
    (after.faults ≡ count_after before.faults) × (length read < script_limit) × EndsBehind read lines IsLine
EndsReading (Some line_err.LineTooLong) before after read lines =
    (after.faults ≡ before.faults) × EndsBehind read lines BeginsTooLong
EndsReading (Some line_err.ScriptTooLong) before after read lines =
    (after.faults ≡ before.faults) × (length read ≡ script_limit) × EndsBehind read lines IsLine
-- for want of memory nothing more is answered
EndsReading (Some line_err.NoMemory) before after read lines = ⊥

-- the ending that the end of reading brings
abbrev pub ending_after : Option LineErr → Ending
ending_after None = Done
ending_after (Some error) = ending_of error

-- some text that answers these lines has this property
abbrev pub SomeAnswer : (List (List ℕ) → List ℕ → Type 0) → List (List ℕ) → (List ℕ → Type 0) → Type 0
SomeAnswer answers lines IsSo = (text : List ℕ) × answers lines text × IsSo text

-- Some text that answers the script has this property. Of the bytes that were read, some first lines, each with its newline,
-- were taken, and it has it whatever lines follow these; or, where reading ended, some text has it that answers the lines that
-- are answered then.
abbrev pub SomeOfScript : (List (List ℕ) → List ℕ → Type 0) → SourceState → SourceState → List ℕ → (List ℕ → Type 0) → Type 0
SomeOfScript answers before after read IsSo =
    ((after.faults ≡ before.faults) × ((lines : List (List ℕ)) × (rest : List ℕ) × Splits read lines rest
    × ((further : List (List ℕ)) → SomeAnswer answers (lines ++ further) IsSo)))
    ⊎ ((end : Option LineErr) × (lines : List (List ℕ)) × EndsReading end before after read lines × SomeAnswer answers lines IsSo)

-- a text was written in part: what is written begins it, and something of it is missing
abbrev pub FallsShort : List ℕ → List ℕ → Type 0
FallsShort replies text = Begins replies text × (length replies < length text)

-- there are no replies, or the last of them is whole: it ends with its newline
abbrev pub AreWhole : List ℕ → Type 0
AreWhole replies = (replies ≡ []) ⊎ ((front : List ℕ) × (replies ≡ front ++ 10 ∷ []))

-- the lines that the end of reading leaves are answered, and writing met no fault
pub record Answered (answers : List (List ℕ) → List ℕ → Type 0) (end : Option LineErr) (read replies : List ℕ) (before after : Outside) : Type 0 where
  pub lines : List (List ℕ)
  pub ended : EndsReading end before.source after.source read lines
  pub answered : answers lines replies
  pub written : MeetsNone before.sink after.sink

-- what was written before the last line, and which faults were met until then, by the ending
abbrev pub Replies : (List (List ℕ) → List ℕ → Type 0) → Ending → List ℕ → List ℕ → Outside → Outside → Type 0
Replies answers Done read replies before after = Answered answers None read replies before after
Replies answers Usage read replies before after = (read ≡ []) × (replies ≡ []) × (after ≡ before)
Replies answers ReadFault read replies before after = Answered answers (Some line_err.ReadFault) read replies before after
Replies answers WriteFault read replies before after =
    MeetsOne before.sink after.sink × SomeOfScript answers before.source after.source read (FallsShort replies)
Replies answers NoMemory read replies before after =
    MeetsNone before.sink after.sink × AreWhole replies × SomeOfScript answers before.source after.source read (Begins replies)
Replies answers LineTooLong read replies before after = Answered answers (Some line_err.LineTooLong) read replies before after
Replies answers ScriptTooLong read replies before after = Answered answers (Some line_err.ScriptTooLong) read replies before after

-- what a run did from its first line to its ending: everything but the last line
pub record Served (answers : List (List ℕ) → List ℕ → Type 0) (ending : Ending) (before after : Outside) : Type 0 where
  -- the bytes that were read, and those that were written
  pub read : List ℕ
  pub replies : List ℕ
  pub consumed : Consumes before.source.left after.source.left read
  pub appended : Appends before.sink.held after.sink.held replies
  pub replied : Replies answers ending read replies before after

-- what a run did to the end, with the line that tells its ending
pub record Ran (answers : List (List ℕ) → List ℕ → Type 0) (ending : Ending) (before after : Outside) : Type 0 where
  pub sink : SinkState
  pub served : Served answers ending before (outside after.source sink)
  pub last : WritesLast (last_line ending) sink after.sink

-- what came of writing one text, by the ending
abbrev pub Output : List ℕ → Ending → List ℕ → SinkState → SinkState → Type 0
Output text Done written before after = (written ≡ text) × MeetsNone before after
Output text Usage written before after = ⊥
Output text ReadFault written before after = ⊥
Output text WriteFault written before after = FallsShort written text × MeetsOne before after
Output text NoMemory written before after = (written ≡ []) × MeetsNone before after
Output text LineTooLong written before after = ⊥
Output text ScriptTooLong written before after = ⊥

-- what a run did that reads nothing and writes one text: everything but the last line
pub record Wrote (text : List ℕ) (ending : Ending) (before after : Outside) : Type 0 where
  pub written : List ℕ
  pub unread : after.source ≡ before.source
  pub appended : Appends before.sink.held after.sink.held written
  pub output : Output text ending written before.sink after.sink

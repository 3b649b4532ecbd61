-- What a run over a lineage did, from the bytes that came in to the bytes that went out.
use Rattle.std.specs.Prelude.{◌≡◌, ◌⊎◌, ℕ, ◌<◌, ◌≤◌, List, [], ◌∷◌, ◌++◌, length, codes, decimal, Result, Ok, Err}
use Rattle.std.specs.Io.KnownBytes.{Appends, Consumes, IsAtEnd}
use Rattle.sha2.specs.Sha256.{sha256}
use Rattle.ledger_bytes.specs.Causes.{count_after}
use Rattle.ledger_bytes.specs.Fields.{IsBytes}
use Rattle.ledger_bytes.specs.declared.digest.Digest.{Digest}
use Rattle.ledger_io.specs.Endings.{last_line, status_of}
use Rattle.ledger_io.specs.Outside.{Outside, SinkState, SourceState}
use Rattle.ledger_io.specs.Runs.{Output}
use Rattle.ledger_io.specs.Writing.{WritesLast}
use Rattle.ledger_io.specs.declared.ending.Ending.{Ending}
use Rattle.ledger_io.specs.declared.ending.Ending.TheVariants.{Done, Usage, ReadFault, WriteFault, NoMemory, LineTooLong, ScriptTooLong}
use Rattle.ledger_io.specs.declared.failure.LineErr.{LineErr}
use Rattle.ledger_io.specs.declared.failure.LineErr.TheVariants as line_err
use Rattle.merkle_tree.specs.declared.head.Head.{Head}
use Rattle.script_lines.specs.Words.{spaced_words}
use Rattle.tree_model.specs.Clash.{Clashes}
use Rattle.clue_lineage.specs.Accepting.{acceptance, IsAccepted}
use Rattle.clue_lineage.specs.Judging.{clash_of}
use Rattle.clue_lineage.specs.Reading.{lineage_of}
use Rattle.clue_lineage.specs.Runs.{headers_read, records_between}
use Rattle.clue_lineage.specs.declared.answer.LineageNo.{LineageNo}
use Rattle.clue_lineage.specs.declared.answer.LineageNo.TheVariants as lineage_no
use Rattle.clue_lineage.specs.declared.answer.Run.{Run}

-- ---- the line

-- the code of a refusal, and the numbers behind it
abbrev pub lineage_no_words : LineageNo → List (List ℕ)
lineage_no_words (lineage_no.Malformed at) = decimal 41 ∷ decimal at ∷ []
lineage_no_words (lineage_no.HeadUnknown size) = decimal 34 ∷ decimal size ∷ []
lineage_no_words (lineage_no.LineageClue at) = decimal 54 ∷ decimal at ∷ []
lineage_no_words (lineage_no.LineageLink at) = decimal 55 ∷ decimal at ∷ []
lineage_no_words lineage_no.LeafPath = decimal 35 ∷ []

-- The line that tells an answer: `yes` with the first ordinal, the last and how many records there are, or `no` with the code.
-- Example: `yes 4 5 2`, or `no 55 1`.
abbrev pub lineage_line : Result Run LineageNo → List ℕ
lineage_line (Ok run) = codes "yes" ++ (spaced_words (decimal run.first ∷ decimal run.last ∷ decimal run.count ∷ []) ++ 10 ∷ [])
lineage_line (Err why) = codes "no" ++ (spaced_words (lineage_no_words why) ++ 10 ∷ [])

-- how far an answer's line was written, by the ending
pub record WritesAnswer (answer : Result Run LineageNo) (ending : Ending) (before after : SinkState) : Type 0 where
  pub written : List ℕ
  pub appended : Appends before.held after.held written
  pub output : Output (lineage_line answer) ending written before after

-- the status where the line of an answer was written whole: 10 where it is a no
abbrev pub answer_status : Result Run LineageNo → ℕ
answer_status (Ok run) = 0
answer_status (Err why) = 10

-- the status by the ending of writing the line
abbrev pub answer_status_behind : Ending → Result Run LineageNo → ℕ
answer_status_behind Done answer = answer_status answer
answer_status_behind Usage answer = status_of Usage
answer_status_behind ReadFault answer = status_of ReadFault
answer_status_behind WriteFault answer = status_of WriteFault
answer_status_behind NoMemory answer = status_of NoMemory
answer_status_behind LineTooLong answer = status_of LineTooLong
answer_status_behind ScriptTooLong answer = status_of ScriptTooLong

-- An answer's line was written, and the status is the answer's. Where that failed it is the failure's, whose last line was
-- written.
pub record TellsAnswer (answer : Result Run LineageNo) (status : ℕ) (before after : SinkState) : Type 0 where
  pub ending : Ending
  pub sink : SinkState
  pub writes : WritesAnswer answer ending before sink
  pub last : WritesLast (last_line ending) sink after
  pub status_is : status ≡ answer_status_behind ending answer

-- ---- the run

-- the most bytes that an input with a lineage may have
abbrev pub lineage_limit : ℕ
lineage_limit = 2097152

-- the source was read to its end, and this is the answer to all its bytes
pub record IsAnswer (clue : Digest) (head : Head) (before after : SourceState) (answer : Result Run LineageNo) : Type 0 where
  pub bytes : List ℕ
  pub consumed : Consumes before.left after.left bytes
  pub at_end : IsAtEnd after.left
  pub few : length bytes ≤ lineage_limit
  pub counts : after.faults ≡ before.faults
  pub answer_is : answer ≡ acceptance sha256 bytes clue head

-- why there is no answer: a read failed, memory was wanted, or more bytes came than may be
abbrev pub IsUnread : SourceState → SourceState → Ending → Type 0
IsUnread before after Done = ⊥
IsUnread before after Usage = ⊥
IsUnread before after ReadFault = after.faults ≡ count_after before.faults
IsUnread before after WriteFault = ⊥
IsUnread before after NoMemory = after.faults ≡ before.faults
IsUnread before after LineTooLong =
    (after.faults ≡ before.faults) × ((bytes : List ℕ) × Consumes before.left after.left bytes × (lineage_limit < length bytes))
IsUnread before after ScriptTooLong = ⊥

-- the ending that an error of reading brings: an input that is too long is told as a line is
abbrev pub ending_unread : LineErr → Ending
ending_unread line_err.ReadFault = ReadFault
ending_unread line_err.LineTooLong = LineTooLong
ending_unread line_err.ScriptTooLong = LineTooLong
ending_unread line_err.NoMemory = NoMemory

-- there is an answer to the bytes that were read, and its line was told
pub record AnsweredLineage (clue : Digest) (head : Head) (status : ℕ) (before after : Outside) : Type 0 where
  pub answer : Result Run LineageNo
  pub is : IsAnswer clue head before.source after.source answer
  pub told : TellsAnswer answer status before.sink after.sink

-- there is none, and only the last line was written
pub record UnansweredLineage (status : ℕ) (before after : Outside) : Type 0 where
  pub ending : Ending
  pub why : IsUnread before.source after.source ending
  pub last : WritesLast (last_line ending) before.sink after.sink
  pub status_is : status ≡ status_of ending

-- what a run over a lineage of a clue did, to its exit status, against a head
abbrev pub RanLineage : Digest → Head → ℕ → Outside → Outside → Type 0
RanLineage clue head status before after = AnsweredLineage clue head status before after ⊎ UnansweredLineage status before after

-- a source was read to its end, and what it gave is a lineage that is accepted as a run
pub record SoundLineage (clue : Digest) (head : Head) (before after : Outside) : Type 0 where
  pub bytes : List ℕ
  pub consumed : Consumes before.source.left after.source.left bytes
  pub at_end : IsAtEnd after.source.left
  pub run : Run
  pub accepted : IsBytes bytes → IsAccepted sha256 bytes clue head run

-- The headers of a lineage's journals are all records of the clue in a list of headers whose ordinals are within the run's, in
-- order; or the lineage and the list show two different strings with one digest.
-- Example: a list has records of the clue with the ordinals 1 to 5. A lineage that is accepted as the run from 4 to 5 has the
-- headers of the last two of them.
abbrev pub IsWholeIn : List (List ℕ) → List ℕ → Digest → Run → Type 0
IsWholeIn list bytes clue run =
    (headers_read (lineage_of bytes) ≡ records_between clue run.first run.last list) ⊎ Clashes sha256 (clash_of sha256 list bytes)

-- What a reader of lines reads and answers.
use Rattle.std.specs.Prelude.{◌≡◌, ◌≢◌, ℕ, ◌+◌, ◌<◌, ◌≤◌, Bool, true, false, ◌⊎◌, List, [], ◌∷◌, ◌++◌, length, Option, Some, None, Result, Ok, Err, ⊤}
use Rattle.std.specs.Io.KnownBytes.{Consumes, IsAtEnd}
use Rattle.ledger_bytes.specs.Causes.{count_after}
use Rattle.ledger_io.specs.Outside.{SourceState}
use Rattle.ledger_io.specs.Lines.{script_limit, IsLine, BeginsTooLong}
use Rattle.ledger_io.specs.declared.failure.LineErr.{LineErr}
use Rattle.ledger_io.specs.declared.failure.LineErr.TheVariants.{ReadFault, LineTooLong, ScriptTooLong, NoMemory}

-- a reader of lines: the bytes that were read and aren't given yet, how many were read in all, whether the source told its end, and the error that was answered
pub record Reading : Type 0 where
  pub held : List ℕ
  pub total : ℕ
  pub ended : Bool
  pub failed : Option LineErr

-- a call of `next` took these bytes of the source, whatever it answers, and counted them
pub record ReadsBytes (before after : SourceState) (old new : Reading) (bytes : List ℕ) : Type 0 where
  pub consumed : Consumes before.left after.left bytes
  pub total : new.total ≡ old.total + length bytes
  pub bounded : new.total ≤ script_limit

-- the count of failed reads behind a call: one more exactly where the call answers for the first time that a read failed,
-- after this error or none
abbrev pub faults_next : {T : Type 0} → Result T LineErr → Option LineErr → ℕ → ℕ
faults_next (Ok line) failed before = before
faults_next (Err ReadFault) None before = count_after before
faults_next (Err ReadFault) (Some error) before = before
faults_next (Err LineTooLong) failed before = before
faults_next (Err ScriptTooLong) failed before = before
faults_next (Err NoMemory) failed before = before

-- a line that a newline ended
pub record IsBrokenOff (old new : Reading) (bytes line : List ℕ) : Type 0 where
  pub given : old.held ++ bytes ≡ line ++ 10 ∷ new.held
  pub ended : new.ended ≡ false

-- a line that the end of the source ended
pub record IsLast (after : SourceState) (old new : Reading) (bytes line : List ℕ) : Type 0 where
  pub given : old.held ++ bytes ≡ line
  pub some : line ≢ []
  pub none_held : new.held ≡ []
  pub ended : new.ended ≡ true
  pub at_end : IsAtEnd after.left
  pub short : new.total < script_limit

-- a line was given: one that a newline ended, or one that the end of the source ended
pub record GivesLine (after : SourceState) (old new : Reading) (bytes line : List ℕ) : Type 0 where
  pub unended : old.ended ≡ false
  pub sound : old.failed ≡ None
  pub fits : IsLine line
  pub rest : IsBrokenOff old new bytes line ⊎ IsLast after old new bytes line
  pub unfailed : new.failed ≡ None

-- a call read nothing and changed nothing
pub record IsAgain (before after : SourceState) (old new : Reading) (bytes : List ℕ) : Type 0 where
  pub none : bytes ≡ []
  pub source : after ≡ before
  pub reader : new ≡ old

-- there is no further line: the source has ended, and all lines were given
pub record GivesNone (before after : SourceState) (old new : Reading) (bytes : List ℕ) : Type 0 where
  pub sound : old.failed ≡ None
  pub given : old.held ++ bytes ≡ []
  pub none_held : new.held ≡ []
  pub ended : new.ended ≡ true
  pub unfailed : new.failed ≡ None
  pub short : new.total < script_limit
  pub cause : ((old.ended ≡ false) × IsAtEnd after.left) ⊎ ((old.ended ≡ true) × IsAgain before after old new bytes)

-- what brings each error about, where the bytes held and the number of bytes read are as they stand
abbrev pub BringsAbout : SourceState → SourceState → List ℕ → ℕ → LineErr → Type 0
BringsAbout before after held total ReadFault = (after.faults ≡ count_after before.faults) × IsLine held × (total < script_limit)
BringsAbout before after held total LineTooLong = BeginsTooLong held
BringsAbout before after held total ScriptTooLong = (total ≡ script_limit) × IsLine held
BringsAbout before after held total NoMemory = ⊤

-- an error is answered for the first time, with its cause; the reader holds all that wasn't given
pub record Fails (before after : SourceState) (old new : Reading) (bytes : List ℕ) (error : LineErr) : Type 0 where
  pub unended : old.ended ≡ false
  pub sound : old.failed ≡ None
  pub held : new.held ≡ old.held ++ bytes
  pub ended : new.ended ≡ false
  pub failed : new.failed ≡ Some error
  pub cause : BringsAbout before after new.held new.total error

-- what a call of `next` answers: an error is either the one that was answered before, or it has its cause
abbrev pub Gives : SourceState → SourceState → Reading → Reading → List ℕ → Result (Option (List ℕ)) LineErr → Type 0
Gives before after old new bytes (Ok (Some line)) = GivesLine after old new bytes line
Gives before after old new bytes (Ok None) = GivesNone before after old new bytes
Gives before after old new bytes (Err error) = ((old.failed ≡ Some error) × IsAgain before after old new bytes) ⊎ Fails before after old new bytes error

-- How journals are gathered and written, many in one piece.
use Rattle.std.specs.Prelude.{◌≡◌, ◌⊎◌, ℕ, Bool, IsTrue, List, ◌++◌, Result, Ok, Err}
use Rattle.std.specs.Io.KnownBytes.{Appends}
use Rattle.block_file.specs.declared.place.PlaceAt.{PlaceAt}
use Rattle.ledger_book.specs.Books.{Kept}
use Rattle.ledger_io.specs.Outside.{SinkState, MeetsNone}
use Rattle.ledger_model.specs.History.{History}
use Rattle.ledger_open.specs.Pieces.{IsReadAs, WasOnlyRead}
use Rattle.dump_model.specs.Dumps.{Dump}
use Rattle.dump_model.specs.Shown.{ledger_dump}
use Rattle.dump_export.specs.Exports.{Handed, IsOnlyAsked, IsShownText, MeetsNothing, Puts, done}
use Rattle.dump_export.specs.declared.failure.DumpErr.{DumpErr}
use Rattle.dump_export.specs.declared.failure.DumpErr.TheVariants.{DiskFault, NotaryFault, WriteFault, Damaged, NoMemory}

-- the bytes of the journal with this number, as it is shown, stand behind those that waited
abbrev pub AddsShown : History → ℕ → List ℕ → List ℕ → Type 0
AddsShown h n old new = (bytes : List ℕ) × IsShownText h n bytes × (new ≡ old ++ bytes)

-- Bytes that waited are written from the front: so far, and the others still wait. A fault ends it, and then so far they were written.
abbrev pub PassesOn : List ℕ → List ℕ → Result (Unit {0}) DumpErr → SinkState → SinkState → Type 0
PassesOn old new (Ok end) before after = (part : List ℕ) × (old ≡ part ++ new) × Appends before.held after.held part × MeetsNone before after
PassesOn old new (Err e) before after = Puts old (Err e) before after

-- an answer is this error, and nothing was written
abbrev pub IsOnlyTold : DumpErr → Result (Unit {0}) DumpErr → SinkState → SinkState → Type 0
IsOnlyTold e result before after = (result ≡ Err e) × (after ≡ before)

-- What comes of ending with an error: in front of a damage the bytes that wait are written, and where that fails this is the error; with
-- the others they are given up.
abbrev pub GivesUp : DumpErr → List ℕ → Result (Unit {0}) DumpErr → SinkState → SinkState → Type 0
GivesUp DiskFault waiting result before after = IsOnlyTold DiskFault result before after
GivesUp NotaryFault waiting result before after = IsOnlyTold NotaryFault result before after
GivesUp WriteFault waiting result before after = IsOnlyTold WriteFault result before after
GivesUp (Damaged damage) waiting result before after =
    ((result ≡ Err (Damaged damage)) × Puts waiting done before after) ⊎ ((result ≡ Err WriteFault) × Puts waiting (Err WriteFault) before after)
GivesUp NoMemory waiting result before after = IsOnlyTold NoMemory result before after

-- What came of gathering some text of the dump: it was written but for the bytes that wait, of whatever history the open file has with this
-- book and these places, where the disk tells its bytes. No fault was met.
pub record Gathers (tells : Bool) (book : Kept) (places : List PlaceAt) (text : Dump → List ℕ) (waiting : List ℕ) (before after : Handed) : Type 0 where
  pub part : List ℕ
  pub appended : Appends before.sink.held after.sink.held part
  pub gathered : IsTrue tells → (h : History) → IsReadAs book places before.file.bytes.seen h → part ++ waiting ≡ text (ledger_dump h before.notary.entries)
  pub read : WasOnlyRead tells before.file after.file
  pub asked : IsOnlyAsked before.notary after.notary
  pub met : MeetsNothing before after

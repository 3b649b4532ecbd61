-- What writing a dump is handed, how far it comes, and which faults it meets.
use Rattle.std.specs.Prelude.{◌≡◌, ℕ, Bool, IsTrue, if◌then◌else◌, List, [], slice_get, Some, None, Result, Ok, Err, MatchResult, All, ⊤}
use Rattle.std.specs.Io.KnownBytes.{Appends}
use Rattle.block_file.specs.declared.place.PlaceAt.{PlaceAt}
use Rattle.journal_record.specs.Entry.{Entry, who_digest_of}
use Rattle.journal_record.specs.Items.{Item, item_text}
use Rattle.ledger_book.specs.Books.{Kept, Serves}
use Rattle.ledger_bytes.specs.Begins.{Begins}
use Rattle.ledger_bytes.specs.Causes.{count_after}
use Rattle.ledger_disk.specs.Disk.{DiskState}
use Rattle.ledger_io.specs.Outside.{SinkState, MeetsNone, MeetsOne}
use Rattle.ledger_model.specs.History.{History, journals, point}
use Rattle.ledger_model.specs.Targets.{is_hidden}
use Rattle.ledger_open.specs.Pieces.{IsReadAs, WasOnlyRead}
use Rattle.ledger_open.specs.declared.pieces.PieceErr.{PieceErr}
use Rattle.ledger_open.specs.declared.pieces.PieceErr.TheVariants as pieces
use Rattle.time_peg.specs.Entries.{NotaryState}
use Rattle.dump_model.specs.Dumps.{Dump}
use Rattle.dump_model.specs.Shown.{ledger_dump, shown}
use Rattle.dump_export.specs.Damages.{IsWholeIn, IsOtherPart, IsDamageOf, IsDamageIn, IsFirstDamage, shown_journals}
use Rattle.dump_export.specs.declared.failure.DumpErr.{DumpErr}
use Rattle.dump_export.specs.declared.failure.DumpErr.TheVariants.{DiskFault, NotaryFault, WriteFault, Damaged, NoMemory}

-- ---- what is handed

-- what writing a dump reads, asks and writes to: the disk of the open file, the notary and the sink
pub record Handed : Type 0 where
  pub file : DiskState
  pub notary : NotaryState
  pub sink : SinkState

-- the same by its parts
abbrev pub handed : DiskState → NotaryState → SinkState → Handed
handed file notary sink = record { file = file; notary = notary; sink = sink }

-- the notary's list, and how it makes its entries, are as before
pub record IsOnlyAsked (before after : NotaryState) : Type 0 where
  pub entries : after.entries ≡ before.entries
  pub origin : after.origin ≡ before.origin

-- a book is that of this history, of which no journal waits, and begins at the point in force
pub record IsBookOf (book : Kept) (h : History) : Type 0 where
  pub serves : Serves book h
  pub floor : book.floor ≡ point h
  pub none : h.waiting ≡ []

-- ---- faults

-- no call failed, by the counts before and after
abbrev pub Unfailed : ℕ → ℕ → Type 0
Unfailed before after = after ≡ before

-- one call failed
abbrev pub FailedOnce : ℕ → ℕ → Type 0
FailedOnce before after = after ≡ count_after before

-- which calls of the disk and of the notary failed, and what the sink met
pub record Meets (disk notary : ℕ → ℕ → Type 0) (sink : SinkState → SinkState → Type 0) (before after : Handed) : Type 0 where
  pub disk_is : disk before.file.faults after.file.faults
  pub notary_is : notary before.notary.faults after.notary.faults
  pub sink_is : sink before.sink after.sink

-- no fault was met
abbrev pub MeetsNothing : Handed → Handed → Type 0
MeetsNothing before after = Meets Unfailed Unfailed MeetsNone before after

-- each error has its cause, and no other fault was met: the disk failed, the notary did, the sink met one fault, or none of them
abbrev pub MeetsCause : DumpErr → Handed → Handed → Type 0
MeetsCause DiskFault before after = Meets FailedOnce Unfailed MeetsNone before after
MeetsCause NotaryFault before after = Meets Unfailed FailedOnce MeetsNone before after
MeetsCause WriteFault before after = Meets Unfailed Unfailed MeetsOne before after
MeetsCause (Damaged damage) before after = MeetsNothing before after
MeetsCause NoMemory before after = MeetsNothing before after

-- which faults were met, by the answer
abbrev pub MeetsBy : Result (Unit {0}) DumpErr → Handed → Handed → Type 0
MeetsBy (Ok end) before after = MeetsNothing before after
MeetsBy (Err e) before after = MeetsCause e before after

-- ---- how far it comes

-- the answer of a call that came to its end
abbrev pub done : Result (Unit {0}) DumpErr
done = Ok tt

-- a text was written: whole, and at an error a beginning of it
abbrev pub IsWritten : Result (Unit {0}) DumpErr → List ℕ → List ℕ → Type 0
IsWritten (Ok end) part text = part ≡ text
IsWritten (Err e) part text = Begins part text

-- What came of writing some text of the dump: so far it was written, of whatever history the open file has with this book and these
-- places, where the disk tells its bytes. The dump has the notary's list. The disk was only read, and the notary only asked.
pub record Writes (tells : Bool) (book : Kept) (places : List PlaceAt) (text : Dump → List ℕ) (result : Result (Unit {0}) DumpErr) (before after : Handed) : Type 0 where
  pub part : List ℕ
  pub appended : Appends before.sink.held after.sink.held part
  pub written : IsTrue tells → (h : History) → IsReadAs book places before.file.bytes.seen h → IsWritten result part (text (ledger_dump h before.notary.entries))
  pub read : WasOnlyRead tells before.file after.file
  pub asked : IsOnlyAsked before.notary after.notary
  pub met : MeetsBy result before after

-- what came of writing one piece: so far it was written, and the sink met a fault only where it wasn't written whole
pub record Puts (piece : List ℕ) (result : Result (Unit {0}) DumpErr) (before after : SinkState) : Type 0 where
  pub part : List ℕ
  pub appended : Appends before.held after.held part
  pub written : IsWritten result part piece
  pub met : MatchResult result (λ end. MeetsNone before after) (λ e. (e ≡ WriteFault) × MeetsOne before after)

-- What an answer says of damages: at Ok all journals that are shown are whole, and a damage is that of the first that isn't. This stands
-- in front of the journals.
abbrev pub TellsDamage : List ℕ → History → Result (Unit {0}) DumpErr → SinkState → SinkState → Type 0
TellsDamage front h (Ok end) before after = All (IsWholeIn h) (shown_journals h)
TellsDamage front h (Err DiskFault) before after = ⊤
TellsDamage front h (Err NotaryFault) before after = ⊤
TellsDamage front h (Err WriteFault) before after = ⊤
TellsDamage front h (Err (Damaged damage)) before after = IsFirstDamage front h damage before after
TellsDamage front h (Err NoMemory) before after = ⊤

-- an error that isn't a damage
abbrev pub IsUndamaged : DumpErr → Type 0
IsUndamaged DiskFault = ⊤
IsUndamaged NotaryFault = ⊤
IsUndamaged WriteFault = ⊤
IsUndamaged (Damaged damage) = ⊥
IsUndamaged NoMemory = ⊤

-- what an answer says of the damage of the journal with this index: at Ok it is whole, and a damage is its own; nothing of it is written
-- then
abbrev pub TellsOneDamage : History → ℕ → Result (Unit {0}) DumpErr → SinkState → SinkState → Type 0
TellsOneDamage h index (Ok end) before after = (e : Entry) × (slice_get (shown_journals h) index ≡ Some e) × IsWholeIn h e
TellsOneDamage h index (Err DiskFault) before after = ⊤
TellsOneDamage h index (Err NotaryFault) before after = ⊤
TellsOneDamage h index (Err WriteFault) before after = ⊤
TellsOneDamage h index (Err (Damaged damage)) before after = (e : Entry) × (slice_get (shown_journals h) index ≡ Some e) × IsDamageIn h e damage × (after ≡ before)
TellsOneDamage h index (Err NoMemory) before after = ⊤

-- ---- reading a journal

-- a journal as it is shown: without its content where that is hidden
abbrev pub shown_item : Bool → Entry → Item
shown_item hidden e = record { header = e.header; body = if hidden then None else Some e.content; who = e.who }

-- an error that is a damage is that of this journal
abbrev pub DamagesOf : Bool → Entry → DumpErr → Type 0
DamagesOf hidden e DiskFault = ⊤
DamagesOf hidden e NotaryFault = ⊤
DamagesOf hidden e WriteFault = ⊤
DamagesOf hidden e (Damaged damage) = IsDamageOf hidden e damage
DamagesOf hidden e NoMemory = ⊤

-- an error that is a damage is that of its who
abbrev pub IsOtherWho : Entry → DumpErr → Type 0
IsOtherWho e DiskFault = ⊤
IsOtherWho e NotaryFault = ⊤
IsOtherWho e WriteFault = ⊤
IsOtherWho e (Damaged damage) = IsOtherPart e.header.jsn e.header.who_digest (who_digest_of e.who) damage
IsOtherWho e NoMemory = ⊤

-- these are the bytes of the journal with this number as a ledger with this history shows it, and it is whole
pub record IsShownText (h : History) (n : ℕ) (bytes : List ℕ) : Type 0 where
  pub e : Entry
  pub there : slice_get (journals h) n ≡ Some e
  pub whole : IsWholeIn h e
  pub bytes_are : bytes ≡ item_text (shown h e)

-- an error that is a damage is that of the journal with this number
pub record DamagesAt (h : History) (n : ℕ) (end : DumpErr) : Type 0 where
  pub e : Entry
  pub there : slice_get (journals h) n ≡ Some e
  pub damages : DamagesOf (is_hidden h e.header.jsn) e end

-- why a piece of the open file isn't read
abbrev pub error_of_piece : PieceErr → DumpErr
error_of_piece pieces.DiskFault = DiskFault
error_of_piece pieces.NoMemory = NoMemory

-- why a journal isn't read, by the count of its disk's failures: the disk failed; or a part of it is another, or memory was short
abbrev pub ReadEnds : DumpErr → ℕ → ℕ → Type 0
ReadEnds DiskFault before after = FailedOnce before after
ReadEnds NotaryFault before after = ⊥
ReadEnds WriteFault before after = ⊥
ReadEnds (Damaged damage) before after = Unfailed before after
ReadEnds NoMemory before after = Unfailed before after

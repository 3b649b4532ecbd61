-- What a command did that opens the ledger that is there and asks it for one text.
use Rattle.std.specs.Prelude.{◌≡◌, ◌≢◌, ◌⊎◌, ℕ, Bool, IsTrue, List, [], IsSomeAnd, IsOk, ⊤}
use Rattle.std.specs.Io.KnownBytes.{Appends}
use Rattle.sha2.specs.Sha256.{sha256}
use Rattle.batch_committer.specs.Opened.{IsQuietFor}
use Rattle.batch_committer.specs.World.{Pair}
use Rattle.clue_lineage.specs.Accepting.{acceptance}
use Rattle.clue_lineage.specs.Making.{lineage_in, shown_from}
use Rattle.clue_lineage.specs.Lineages.{spelling}
use Rattle.ledger_book.specs.Books.{Kept, Serves}
use Rattle.ledger_book.specs.Seals.{head_of}
use Rattle.ledger_bytes.specs.declared.digest.Digest.{Digest}
use Rattle.ledger_io.specs.Outside.{Outside}
use Rattle.ledger_io.specs.Runs.{FallsShort}
use Rattle.ledger_io.specs.declared.ending.Ending.TheVariants as run
use Rattle.ledger_model.specs.History.{History}
use Rattle.ledger_open.specs.Opening.{IsOpenErr, IsOutside}
use Rattle.ledger_open.specs.declared.failure.OpenErr.{OpenErr}
use Rattle.time_peg.specs.Entries.{NotaryState}
use Rattle.ledger_cli.specs.Endings.{refusal_of}
use Rattle.ledger_cli.specs.Runs.{Handed, handed, StandFor, FaultsBy, IsNotOpened, LeftAsRead}
use Rattle.ledger_cli.specs.declared.denial.Denial.TheVariants.{NoLineage, Said, NoSet, NotBelow, OtherLedger, LeafPath}
use Rattle.ledger_cli.specs.declared.ending.LedgerEnding.{LedgerEnding}
use Rattle.ledger_cli.specs.declared.ending.LedgerEnding.TheVariants.{Run, DiskFault, Damaged, Empty, Exists, NewerFormat, NotaryFault, Refused}

-- ---- one text

-- What was written of a text, by the ending: all of it; a part of it, where the sink failed; and nothing at each other ending, which
-- has its cause.
abbrev pub WritesBy : (List ℕ → Type 0) → (LedgerEnding → Type 0) → LedgerEnding → List ℕ → Type 0
WritesBy IsText HasCause (Run run.Done) written = IsText written
WritesBy IsText HasCause (Run run.Usage) written = (written ≡ []) × HasCause (Run run.Usage)
WritesBy IsText HasCause (Run run.ReadFault) written = (written ≡ []) × HasCause (Run run.ReadFault)
WritesBy IsText HasCause (Run run.WriteFault) written = (whole : List ℕ) × IsText whole × FallsShort written whole
WritesBy IsText HasCause (Run run.NoMemory) written = (written ≡ []) × HasCause (Run run.NoMemory)
WritesBy IsText HasCause (Run run.LineTooLong) written = (written ≡ []) × HasCause (Run run.LineTooLong)
WritesBy IsText HasCause (Run run.ScriptTooLong) written = (written ≡ []) × HasCause (Run run.ScriptTooLong)
WritesBy IsText HasCause DiskFault written = (written ≡ []) × HasCause DiskFault
WritesBy IsText HasCause (Damaged damage) written = (written ≡ []) × HasCause (Damaged damage)
WritesBy IsText HasCause Empty written = (written ≡ []) × HasCause Empty
WritesBy IsText HasCause Exists written = (written ≡ []) × HasCause Exists
WritesBy IsText HasCause (NewerFormat found) written = (written ≡ []) × HasCause (NewerFormat found)
WritesBy IsText HasCause NotaryFault written = (written ≡ []) × HasCause NotaryFault
WritesBy IsText HasCause (Refused why) written = (written ≡ []) × HasCause (Refused why)

-- A book was asked for a text, which is so of each history that the book serves, and it was written. Nothing else was met than what
-- the ending tells.
pub record TellsOne (book : Kept) (IsText : History → List ℕ → Type 0) (HasCause : History → LedgerEnding → Type 0) (ending : LedgerEnding) (before now : Outside) : Type 0 where
  pub part : List ℕ
  pub appended : Appends before.sink.held now.sink.held part
  pub written : (h : History) → Serves book h → WritesBy (IsText h) (HasCause h) ending part
  pub faults : (disks : Pair) (n m : NotaryState) → FaultsBy ending (handed before.source before.sink disks n) (handed now.source now.sink disks m)

-- A text of this history was written. Nothing is pending on the disks, and they are clean for the history.
pub record WritesOne (IsText : History → List ℕ → Type 0) (HasCause : History → LedgerEnding → Type 0) (h : History) (ending : LedgerEnding) (before after_all : Handed) : Type 0 where
  pub part : List ℕ
  pub appended : Appends before.sink.held after_all.sink.held part
  pub written : WritesBy (IsText h) (HasCause h) ending part
  pub quiet : IsQuietFor after_all.disks h

-- the ledger that is there was opened, and a text of its history was written, whatever history that is
pub record OpensAndWrites (IsText : History → List ℕ → Type 0) (HasCause : History → LedgerEnding → Type 0) (tells : Bool) (ending : LedgerEnding) (before after_all : Handed) : Type 0 where
  pub serves : IsTrue tells → (h : History) → StandFor before.disks h → WritesOne IsText HasCause h ending before after_all ⊎ IsNotOpened h ending before after_all
  -- what shows damage, or is no ledger, isn't opened, and a refusal has its cause
  pub exact : IsTrue tells → (e : OpenErr) → IsOpenErr before.disks.a.bytes.seen before.disks.b.bytes.seen e → (IsOutside e → ⊥)
      → LeftAsRead (λ met. IsSomeAnd (refusal_of met) (IsOpenErr before.disks.a.bytes.seen before.disks.b.bytes.seen)) ending before after_all
  pub faults : FaultsBy ending before after_all

-- ---- the lineage of a clue

-- a text is the lineage of a clue's records of a history that are kept, from an ordinal on; there are some, and who trusts the
-- history's head accepts it
pub record IsLineageOf (from : ℕ) (clue : Digest) (h : History) (written_text : List ℕ) : Type 0 where
  pub some : shown_from from clue h ≢ []
  pub text_is : written_text ≡ spelling (lineage_in from clue h)
  pub accepted : IsOk (acceptance sha256 written_text clue (head_of h))

-- why no lineage is written: no such record is kept, or memory was missing
abbrev pub IsUntraced : ℕ → Digest → History → LedgerEnding → Type 0
IsUntraced from clue h (Run run.Done) = ⊥
IsUntraced from clue h (Run run.Usage) = ⊥
IsUntraced from clue h (Run run.ReadFault) = ⊥
IsUntraced from clue h (Run run.WriteFault) = ⊥
IsUntraced from clue h (Run run.NoMemory) = ⊤
IsUntraced from clue h (Run run.LineTooLong) = ⊥
IsUntraced from clue h (Run run.ScriptTooLong) = ⊥
IsUntraced from clue h DiskFault = ⊥
IsUntraced from clue h (Damaged damage) = ⊥
IsUntraced from clue h Empty = ⊥
IsUntraced from clue h Exists = ⊥
IsUntraced from clue h (NewerFormat found) = ⊥
IsUntraced from clue h NotaryFault = ⊥
IsUntraced from clue h (Refused NoLineage) = shown_from from clue h ≡ []
IsUntraced from clue h (Refused (Said refusal)) = ⊥
IsUntraced from clue h (Refused (NoSet bad)) = ⊥
IsUntraced from clue h (Refused (NotBelow point)) = ⊥
IsUntraced from clue h (Refused (OtherLedger kept)) = ⊥
IsUntraced from clue h (Refused LeafPath) = ⊥

-- what `lineage` does: the ledger that is there is opened, and the lineage of a clue's records is written
pub record TracesClue (from : ℕ) (clue : Digest) (tells : Bool) (ending : LedgerEnding) (before after_all : Handed) : Type 0 where
  pub opens : OpensAndWrites (IsLineageOf from clue) (IsUntraced from clue) tells ending before after_all
  pub unread : after_all.source ≡ before.source
  pub unasked : after_all.notary ≡ before.notary

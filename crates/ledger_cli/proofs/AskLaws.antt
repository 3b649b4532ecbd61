-- Lemmas on commands that open the ledger that is there, and write one text.
use Rattle.std.specs.Prelude.{IsTrue}
use Rattle.std.proofs.Common.{◌≡◌, ℕ, inl, Bool, List, [], Option, None, refl, sym, subst}
use Rattle.std.proofs.KnownBytes.{Appends-nil}
use Rattle.std.specs.Io.KnownBytes.{Appends}
use Rattle.batch_committer.specs.Opened.{kept_from, IsOpened, IsQuietFor}
use Rattle.batch_committer.specs.World.{Pair, pair, world}
use Rattle.batch_committer.proofs.Grouped.{stored_whole}
use Rattle.batch_committer.proofs.Opening.{opened_held, held_quiet}
use Rattle.batch_committer.proofs.ReadLaws.{read_as_held}
use Rattle.journal_record.specs.Entry.{Entry}
use Rattle.ledger_book.specs.Books.{Kept, Serves}
use Rattle.ledger_disk.specs.Disk.{DiskState, State, settled_state}
use Rattle.ledger_io.specs.Outside.{SourceState, SinkState, outside}
use Rattle.ledger_io.specs.Runs.{Wrote}
use Rattle.ledger_io.specs.declared.ending.Ending.{Ending}
use Rattle.ledger_io.specs.declared.ending.Ending.TheVariants as run
use Rattle.ledger_model.specs.History.{History}
use Rattle.ledger_model.specs.Limits.{real_limits}
use Rattle.ledger_open.specs.Heads.{edition_from}
use Rattle.ledger_open.specs.Opening.{Known}
use Rattle.ledger_open.specs.Pieces.{IsReadAs}
use Rattle.ledger_open.specs.Reopened.{IsReopened}
use Rattle.ledger_open.proofs.CarryLaws.{reopened_only}
use Rattle.pseudo_genesis.specs.declared.base.Base.{Base}
use Rattle.time_peg.specs.Entries.{NotaryState}
use Rattle.twin_file.specs.Twin.{open_of, other_of}
use Rattle.ledger_cli.specs.Asking.{OpensAndWrites, TellsOne, WritesBy}
use Rattle.ledger_cli.specs.Keeping.{new_notary}
use Rattle.ledger_cli.specs.Runs.{handed, FaultsBy, Signs}
use Rattle.ledger_cli.specs.declared.ending.LedgerEnding.{LedgerEnding}
use Rattle.ledger_cli.specs.declared.ending.LedgerEnding.TheVariants.{Run}
use Rattle.ledger_cli.proofs.CarryLaws.{none_waits, faults_from}
use Rattle.ledger_cli.proofs.DumpLaws.{open_bytes, same_bytes, still_quiet}

-- ---- a text that a book gave

module _ (IsText : List ℕ → Type 0) (HasCause : LedgerEnding → Type 0) (none : HasCause (Run run.NoMemory)) (source : SourceState) (before now : SinkState) (text : List ℕ) (is : IsText text) where
  -- what was written of a text, by how its writing ended
  written_by : (plain : Ending) (w : Wrote text plain (outside source before) (outside source now)) → WritesBy IsText HasCause (Run plain) w.written
  written_by run.Done w = subst IsText (sym w.output.0) is
  written_by run.Usage w = absurd w.output
  written_by run.ReadFault w = absurd w.output
  written_by run.WriteFault w = (text, is, w.output.0)
  written_by run.NoMemory w = (w.output.0, none)
  written_by run.LineTooLong w = absurd w.output
  written_by run.ScriptTooLong w = absurd w.output

module _ (text : List ℕ) (first s : SourceState) (same : s.faults ≡ first.faults) (before now : SinkState) (disks : Pair) (n m : NotaryState) where
  -- which faults it met, behind a source that didn't fail
  met_by : (plain : Ending) → Wrote text plain (outside s before) (outside s now) → FaultsBy (Run plain) (handed first before disks n) (handed s now disks m)
  met_by run.Done w = record { source_is = same; sink_is = w.output.1; disks_are = record { a = refl; b = refl } }
  met_by run.Usage w = absurd w.output
  met_by run.ReadFault w = absurd w.output
  met_by run.WriteFault w = record { source_is = inl same; sink_is = w.output.1; disks_are = record { a = refl; b = refl } }
  met_by run.NoMemory w = record { source_is = inl same; sink_is = w.output.1; disks_are = record { a = refl; b = refl } }
  met_by run.LineTooLong w = absurd w.output
  met_by run.ScriptTooLong w = absurd w.output

-- the same by the ending that it brings
module _ (text : List ℕ) (ending : LedgerEnding) (source : SourceState) (before now : SinkState) (disks : Pair) (n : NotaryState) (w : Signs text ending (handed source before disks n) (handed source now disks n)) where
  pub signed_by : (IsText : List ℕ → Type 0) (HasCause : LedgerEnding → Type 0) → HasCause (Run run.NoMemory) → IsText text → WritesBy IsText HasCause ending w.wrote.written
  signed_by IsText HasCause none is = subst (λ (e : LedgerEnding). WritesBy IsText HasCause e w.wrote.written) (sym w.ending_is) (written_by IsText HasCause none source before now text is w.plain w.wrote)

  pub signed_met : (first : SourceState) → source.faults ≡ first.faults → (d : Pair) (m k : NotaryState) → FaultsBy ending (handed first before d m) (handed source now d k)
  signed_met first same d m k = subst (λ (e : LedgerEnding). FaultsBy e (handed first before d m) (handed source now d k)) (sym w.ending_is) (met_by text first source same before now d m k w.plain w.wrote)

-- a source and a disk that tell nothing
pub no_source : SourceState
no_source = record { left = None; faults = 0 }

pub no_disk : DiskState
no_disk = record { told = None; bytes = settled_state []; faults = 0 }

-- the writing of a text, whatever else there is
pub some_signs : (text : List ℕ) (ending : LedgerEnding) (before now : SinkState) → (w : (source : SourceState) (disks : Pair) (notary : NotaryState) → Signs text ending (handed source before disks notary) (handed source now disks notary))
    → Signs text ending (handed no_source before (pair no_disk no_disk) new_notary) (handed no_source now (pair no_disk no_disk) new_notary)
some_signs text ending before now w = w no_source (pair no_disk no_disk) new_notary

-- a text was made, and it was written, or a part of it
pub one_told : (book : Kept) (IsText : History → List ℕ → Type 0) (HasCause : History → LedgerEnding → Type 0) → ((h : History) → HasCause h (Run run.NoMemory))
    → (first s : SourceState) → s.faults ≡ first.faults → (before now : SinkState) (text : List ℕ) (ending : LedgerEnding) → ((h : History) → Serves book h → IsText h text)
    → ((source : SourceState) (disks : Pair) (notary : NotaryState) → Signs text ending (handed source before disks notary) (handed source now disks notary))
    → TellsOne book IsText HasCause ending (outside first before) (outside s now)
one_told book IsText HasCause none first s same before now text ending made wrote =
    let none_told = pair no_disk no_disk in
    let w = wrote s none_told new_notary in record {
      part = w.wrote.written;
      appended = w.wrote.appended;
      written = λ h serves. signed_by text ending s before now none_told new_notary w (IsText h) (HasCause h) (none h) (made h serves);
      faults = λ disks n m. signed_met text ending s before now none_told new_notary w first same disks n m;
    }

-- no text was made
pub nothing_told : (book : Kept) (IsText : History → List ℕ → Type 0) (HasCause : History → LedgerEnding → Type 0) (ending : LedgerEnding) (first s : SourceState) (sink : SinkState)
    → ((h : History) → Serves book h → WritesBy (IsText h) (HasCause h) ending []) → ((disks : Pair) (n m : NotaryState) → FaultsBy ending (handed first sink disks n) (handed s sink disks m))
    → TellsOne book IsText HasCause ending (outside first sink) (outside s sink)
nothing_told book IsText HasCause ending first s sink why met = record {
  part = [];
  appended = Appends-nil sink.held;
  written = why;
  faults = met;
}

-- ---- a ledger that is opened, and a text of it is written

-- one that may be read from the disks
pub opened_writes : (tells : Bool) (source s : SourceState) (sink t : SinkState) (n m : NotaryState) (old now last : Pair) (k : Known) (in_a : Bool) (start : Option Base) (blocks : List (List Entry))
    → IsOpened k in_a now start blocks → k.book.limits ≡ real_limits
    → (IsTrue tells → IsReopened in_a k start blocks old.a.bytes old.b.bytes now.a.bytes now.b.bytes) → now.a.faults ≡ old.a.faults → now.b.faults ≡ old.b.faults
    → (IsText : History → List ℕ → Type 0) (HasCause : History → LedgerEnding → Type 0) (ending : LedgerEnding) (part : List ℕ) → Appends sink.held t.held part
    → (IsTrue tells → (h : History) → IsReadAs k.book k.places (open_of in_a now.a now.b).bytes.seen h → WritesBy (IsText h) (HasCause h) ending part)
    → (IsTrue tells → (open_of in_a last.a last.b).bytes ≡ (open_of in_a now.a now.b).bytes) → other_of in_a last.a last.b ≡ other_of in_a now.a now.b
    → FaultsBy ending (handed source sink now n) (handed s t last m)
    → OpensAndWrites IsText HasCause tells ending (handed source sink old n) (handed s t last m)
opened_writes tells source s sink t n m old now last k in_a start blocks opened limits r a b IsText HasCause ending part appended written read other met = record {
  serves = λ told h p.
      let held = opened_held tells k in_a (edition_from 2 0) start blocks old.a.bytes old.b.bytes now sink h opened limits told (r told) p in
      let none = none_waits old.a.bytes.seen old.b.bytes.seen h p in
      let reads : IsReadAs k.book k.places (open_of in_a now.a now.b).bytes.seen h =
      subst (λ (s : State). IsReadAs k.book k.places s.seen h) (sym (open_bytes in_a now.a now.b)) (read_as_held tells (kept_from k in_a (edition_from 2 0)) now sink h held none refl in_a refl) in
      let bytes = same_bytes in_a now last (read told) other in
      inl (record {
        part = part;
        appended = appended;
        written = written told h reads;
        quiet = still_quiet now last h bytes.0 bytes.1 (subst (IsQuietFor now) (stored_whole (kept_from k in_a (edition_from 2 0)) h refl none) (held_quiet tells (world (kept_from k in_a (edition_from 2 0)) now sink) h held));
      });
  exact = λ told e cause not. absurd (not (reopened_only k in_a start blocks old.a.bytes old.b.bytes now.a.bytes now.b.bytes (r told) e cause));
  faults = faults_from source sink n now old (handed s t last m) a b ending met;
}

-- one that its book gives
pub opened_tells : (tells : Bool) (source s : SourceState) (sink t : SinkState) (n m : NotaryState) (old now : Pair) (k : Known) (in_a : Bool) (start : Option Base) (blocks : List (List Entry))
    → IsOpened k in_a now start blocks → k.book.limits ≡ real_limits
    → (IsTrue tells → IsReopened in_a k start blocks old.a.bytes old.b.bytes now.a.bytes now.b.bytes) → now.a.faults ≡ old.a.faults → now.b.faults ≡ old.b.faults
    → (IsText : History → List ℕ → Type 0) (HasCause : History → LedgerEnding → Type 0) (ending : LedgerEnding) → TellsOne k.book IsText HasCause ending (outside source sink) (outside s t)
    → OpensAndWrites IsText HasCause tells ending (handed source sink old n) (handed s t now m)
opened_tells tells source s sink t n m old now k in_a start blocks opened limits r a b IsText HasCause ending w =
    opened_writes tells source s sink t n m old now now k in_a start blocks opened limits r a b IsText HasCause ending w.part w.appended (λ told h read. w.written h read.ends.serves) (λ told. refl) refl (w.faults now n m)

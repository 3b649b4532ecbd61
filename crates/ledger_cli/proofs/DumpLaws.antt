-- Lemmas on the writing of a dump of a ledger that is opened.
use Rattle.std.specs.Prelude.{IsTrue}
use Rattle.std.proofs.Common.{◌≡◌, inl, inr, Bool, true, false, List, Option, None, Result, Ok, Err, refl, ap, sym, subst, ◌∙◌}
use Rattle.batch_committer.specs.Opened.{kept_from, IsOpened, IsQuietFor}
use Rattle.batch_committer.specs.World.{Pair, OneFailed, world}
use Rattle.batch_committer.proofs.Grouped.{stored_whole}
use Rattle.batch_committer.proofs.Opening.{opened_held, held_quiet}
use Rattle.batch_committer.proofs.ReadLaws.{read_as_held}
use Rattle.block_file.specs.File.{IsSettled}
use Rattle.dump_export.specs.Exports as dumps
use Rattle.dump_export.specs.Texts.{front_text}
use Rattle.dump_export.specs.declared.failure.DumpErr.{DumpErr}
use Rattle.dump_export.specs.declared.failure.DumpErr.TheVariants as dump_err
use Rattle.dump_model.specs.Dumps.{dump_text}
use Rattle.dump_model.specs.Shown.{ledger_dump}
use Rattle.journal_record.specs.Entry.{Entry}
use Rattle.ledger_bytes.specs.Causes.{count_after}
use Rattle.ledger_disk.specs.Disk.{DiskState, State, MayLeave}
use Rattle.ledger_io.specs.Outside.{SourceState, SinkState}
use Rattle.ledger_model.specs.History.{History}
use Rattle.ledger_model.specs.Limits.{real_limits}
use Rattle.ledger_model.specs.Scheme.{Scheme}
use Rattle.ledger_open.specs.Heads.{edition_from}
use Rattle.ledger_open.specs.Opening.{Known}
use Rattle.ledger_open.specs.Pieces.{IsReadAs}
use Rattle.ledger_open.specs.Reopened.{IsReopened}
use Rattle.ledger_open.specs.Standing.{IsCleanPair}
use Rattle.ledger_open.proofs.CarryLaws.{reopened_only}
use Rattle.pseudo_genesis.specs.declared.base.Base.{Base}
use Rattle.time_peg.specs.Entries.{NotaryState}
use Rattle.twin_file.specs.Twin.{open_of, other_of}
use Rattle.ledger_cli.specs.Endings.{ending_of_export}
use Rattle.ledger_cli.specs.Runs.{handed, Exports, FaultsBy, NoDiskFailed, NotaryFailsBy}
use Rattle.ledger_cli.proofs.CarryLaws.{none_waits}

-- a scheme by which no proof shows a key
pub no_keys : Scheme
no_keys message proof = None

-- ---- two disks, of which one has the open file

pub open_bytes : (in_a : Bool) (a b : DiskState) → (open_of in_a a b).bytes ≡ open_of in_a a.bytes b.bytes
open_bytes true a b = refl
open_bytes false a b = refl

-- both have the same bytes where the open one has and the other is the same
pub same_bytes : (in_a : Bool) (now last : Pair) → (open_of in_a last.a last.b).bytes ≡ (open_of in_a now.a now.b).bytes → other_of in_a last.a last.b ≡ other_of in_a now.a now.b
    → (last.a.bytes ≡ now.a.bytes) × (last.b.bytes ≡ now.b.bytes)
same_bytes true now last same other = (same, ap (λ (d : DiskState). d.bytes) other)
same_bytes false now last same other = (ap (λ (d : DiskState). d.bytes) other, same)

pub none_failed : (in_a : Bool) (old now last : Pair) → (open_of in_a last.a last.b).faults ≡ (open_of in_a now.a now.b).faults → other_of in_a last.a last.b ≡ other_of in_a now.a now.b
    → now.a.faults ≡ old.a.faults → now.b.faults ≡ old.b.faults → NoDiskFailed old last
none_failed true old now last same other a b = record { a = same ∙ a; b = ap (λ (d : DiskState). d.faults) other ∙ b }
none_failed false old now last same other a b = record { a = ap (λ (d : DiskState). d.faults) other ∙ a; b = same ∙ b }

pub one_failed : (in_a : Bool) (old now last : Pair) → (open_of in_a last.a last.b).faults ≡ count_after (open_of in_a now.a now.b).faults → other_of in_a last.a last.b ≡ other_of in_a now.a now.b
    → now.a.faults ≡ old.a.faults → now.b.faults ≡ old.b.faults → OneFailed old last
one_failed true old now last more other a b = inl (more ∙ ap count_after a, ap (λ (d : DiskState). d.faults) other ∙ b)
one_failed false old now last more other a b = inr (ap (λ (d : DiskState). d.faults) other ∙ a, more ∙ ap count_after b)

-- what is known of disks where nothing is pending is known of ones with the same bytes
pub still_quiet : (now last : Pair) (h : History) → last.a.bytes ≡ now.a.bytes → last.b.bytes ≡ now.b.bytes → IsQuietFor now h → IsQuietFor last h
still_quiet now last h a b q = record {
  a = subst IsSettled (sym a) q.a;
  b = subst IsSettled (sym b) q.b;
  clean = subst (λ (s : State). IsCleanPair s.seen last.b.bytes.seen h) (sym a) (subst (λ (s : State). IsCleanPair now.a.bytes.seen s.seen h) (sym b) q.clean);
  images = λ x y left_a left_b. q.images x y (subst (λ (s : State). MayLeave s x) a left_a) (subst (λ (s : State). MayLeave s y) b left_b);
}

-- ---- faults

module _ (in_a : Bool) (source : SourceState) (sink t : SinkState) (n m : NotaryState) (old now last : Pair) (other : other_of in_a last.a last.b ≡ other_of in_a now.a now.b)
    (a : now.a.faults ≡ old.a.faults) (b : now.b.faults ≡ old.b.faults) where
  dump_faults : (result : Result (Unit {0}) DumpErr) → dumps.MeetsBy result (dumps.handed (open_of in_a now.a now.b) n sink) (dumps.handed (open_of in_a last.a last.b) m t)
      → FaultsBy (ending_of_export result) (handed source sink old n) (handed source t last m)
  dump_faults (Ok end) met = record { source_is = refl; sink_is = met.sink_is; disks_are = none_failed in_a old now last met.disk_is other a b }
  dump_faults (Err dump_err.DiskFault) met = record { source_is = inl refl; sink_is = met.sink_is; disks_are = one_failed in_a old now last met.disk_is other a b }
  dump_faults (Err dump_err.NotaryFault) met = record { source_is = refl; sink_is = met.sink_is; disks_are = none_failed in_a old now last met.disk_is other a b }
  dump_faults (Err dump_err.WriteFault) met = record { source_is = inl refl; sink_is = met.sink_is; disks_are = none_failed in_a old now last met.disk_is other a b }
  dump_faults (Err (dump_err.Damaged damage)) met = record { source_is = refl; sink_is = met.sink_is; disks_are = none_failed in_a old now last met.disk_is other a b }
  dump_faults (Err dump_err.NoMemory) met = record { source_is = inl refl; sink_is = met.sink_is; disks_are = none_failed in_a old now last met.disk_is other a b }

  notary_failed : (result : Result (Unit {0}) DumpErr) → dumps.MeetsBy result (dumps.handed (open_of in_a now.a now.b) n sink) (dumps.handed (open_of in_a last.a last.b) m t)
      → NotaryFailsBy (ending_of_export result) n.faults m.faults
  notary_failed (Ok end) met = met.notary_is
  notary_failed (Err dump_err.DiskFault) met = met.notary_is
  notary_failed (Err dump_err.NotaryFault) met = met.notary_is
  notary_failed (Err dump_err.WriteFault) met = met.notary_is
  notary_failed (Err (dump_err.Damaged damage)) met = met.notary_is
  notary_failed (Err dump_err.NoMemory) met = met.notary_is

-- ---- a ledger that is opened, and its dump is written

pub dumped : (tells : Bool) (source : SourceState) (sink t : SinkState) (n m : NotaryState) (old now last : Pair) (k : Known) (in_a : Bool) (start : Option Base) (blocks : List (List Entry))
    → IsOpened k in_a now start blocks → k.book.limits ≡ real_limits
    → (IsTrue tells → IsReopened in_a k start blocks old.a.bytes old.b.bytes now.a.bytes now.b.bytes) → now.a.faults ≡ old.a.faults → now.b.faults ≡ old.b.faults
    → (result : Result (Unit {0}) DumpErr)
    → dumps.Writes tells k.book k.places dump_text result (dumps.handed (open_of in_a now.a now.b) n sink) (dumps.handed (open_of in_a last.a last.b) m t)
    → (IsTrue tells → (h : History) → IsReadAs k.book k.places (open_of in_a now.a now.b).bytes.seen h → dumps.TellsDamage (front_text (ledger_dump h n.entries)) h result sink t)
    → other_of in_a last.a last.b ≡ other_of in_a now.a now.b
    → Exports tells (ending_of_export result) (handed source sink old n) (handed source t last m)
dumped tells source sink t n m old now last k in_a start blocks opened limits r a b result w damage other = record {
  serves = λ told h p.
      let held = opened_held tells k in_a (edition_from 2 0) start blocks old.a.bytes old.b.bytes now sink h opened limits told (r told) p in
      let none = none_waits old.a.bytes.seen old.b.bytes.seen h p in
      let read : IsReadAs k.book k.places (open_of in_a now.a now.b).bytes.seen h =
      subst (λ (s : State). IsReadAs k.book k.places s.seen h) (sym (open_bytes in_a now.a now.b)) (read_as_held tells (kept_from k in_a (edition_from 2 0)) now sink h held none refl in_a refl) in
      let bytes = same_bytes in_a now last (w.read.bytes told) other in
      inl (record {
        result = result;
        ending_is = refl;
        part = w.part;
        appended = w.appended;
        written = w.written told h read;
        damage = damage told h read;
        quiet = still_quiet now last h bytes.0 bytes.1 (subst (IsQuietFor now) (stored_whole (kept_from k in_a (edition_from 2 0)) h refl none) (held_quiet tells (world (kept_from k in_a (edition_from 2 0)) now sink) h held));
      });
  unread = refl;
  asked = w.asked;
  exact = λ told e cause not. absurd (not (reopened_only k in_a start blocks old.a.bytes old.b.bytes now.a.bytes now.b.bytes (r told) e cause));
  faults = dump_faults in_a source sink t n m old now last other a b result w.met;
  notary_fails = notary_failed in_a source sink t n m old now last other a b result w.met;
}

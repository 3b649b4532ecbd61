-- Lemmas on a run whose disks were opened or made first.
use Rattle.std.proofs.Common.{◌≡◌, ℕ, inl, inr, ◌<◌, List, [], length, take, drop, ap, sym, subst, ◌∙◌, arith}
use Rattle.std.specs.Prelude.{Option, IfSome, IsSome, None}
use Rattle.std.proofs.lemmas.List.{take-append-drop, length-take-le}
use Rattle.batch_committer.specs.World.{Pair, OneFailed}
use Rattle.block_file.specs.File.{IsSettled}
use Rattle.ledger_bytes.specs.Causes.{count_after}
use Rattle.ledger_disk.specs.Disk.{State, MayLeave}
use Rattle.ledger_disk.proofs.Guarding.{settled_image}
use Rattle.ledger_io.specs.Outside.{SourceState, SinkState}
use Rattle.ledger_io.specs.Runs.{FallsShort}
use Rattle.ledger_io.specs.declared.ending.Ending.TheVariants as run
use Rattle.ledger_model.specs.History.{History}
use Rattle.ledger_model.specs.Scheme.{Scheme}
use Rattle.time_peg.specs.Entries.{NotaryState}
use Rattle.ledger_open.specs.Standing.{PairFor, IsCleanPair}
use Rattle.batch_committer.specs.Opened.{IsQuietFor}
use Rattle.ledger_open.specs.declared.failure.OpenErr.{OpenErr}
use Rattle.ledger_cli.specs.Endings.{refusal_of}
use Rattle.ledger_cli.specs.Runs.{Handed, handed, Faults, NoDiskFailed, FaultsBy, RunsOn}
use Rattle.ledger_cli.specs.declared.ending.LedgerEnding.{LedgerEnding}
use Rattle.ledger_cli.specs.declared.ending.LedgerEnding.TheVariants.{Run, DiskFault, Damaged, Empty, Exists, NewerFormat, NotaryFault, Refused}

-- ---- what is told of a run is told of what it was handed before the disks were opened

pub serves_from : (scheme : Scheme) (h : History) (IsSo : History → Type 0) (ending : LedgerEnding) (source : SourceState) (sink : SinkState) (n : NotaryState) (d e : Pair) (now : Handed) → RunsOn scheme h IsSo ending (handed source sink d n) now → RunsOn scheme h IsSo ending (handed source sink e n) now
serves_from scheme h IsSo (Run run.Done) source sink n d e now s = record { read = s.read; replies = s.replies; consumed = s.consumed; appended = s.appended; replied = s.replied }
serves_from scheme h IsSo (Run run.Usage) source sink n d e now s = absurd s.replied
serves_from scheme h IsSo (Run run.ReadFault) source sink n d e now s = record { read = s.read; replies = s.replies; consumed = s.consumed; appended = s.appended; replied = s.replied }
serves_from scheme h IsSo (Run run.WriteFault) source sink n d e now s = record { read = s.read; replies = s.replies; consumed = s.consumed; appended = s.appended; replied = s.replied }
serves_from scheme h IsSo (Run run.NoMemory) source sink n d e now s = record { read = s.read; replies = s.replies; consumed = s.consumed; appended = s.appended; replied = s.replied }
serves_from scheme h IsSo (Run run.LineTooLong) source sink n d e now s = record { read = s.read; replies = s.replies; consumed = s.consumed; appended = s.appended; replied = s.replied }
serves_from scheme h IsSo (Run run.ScriptTooLong) source sink n d e now s = record { read = s.read; replies = s.replies; consumed = s.consumed; appended = s.appended; replied = s.replied }
serves_from scheme h IsSo DiskFault source sink n d e now s = record { read = s.read; replies = s.replies; consumed = s.consumed; appended = s.appended; replied = s.replied }
serves_from scheme h IsSo (Damaged damage) source sink n d e now s = absurd s.replied
serves_from scheme h IsSo Empty source sink n d e now s = absurd s.replied
serves_from scheme h IsSo Exists source sink n d e now s = absurd s.replied
serves_from scheme h IsSo (NewerFormat found) source sink n d e now s = absurd s.replied
serves_from scheme h IsSo NotaryFault source sink n d e now s = absurd s.replied
serves_from scheme h IsSo (Refused why) source sink n d e now s = absurd s.replied

module _ (source : SourceState) (sink : SinkState) (n : NotaryState) (d e : Pair) (now : Handed) (a : d.a.faults ≡ e.a.faults) (b : d.b.faults ≡ e.b.faults) where
  none_from : (S : ℕ → ℕ → Type 0) (K : SinkState → SinkState → Type 0) → Faults S K NoDiskFailed (handed source sink d n) now → Faults S K NoDiskFailed (handed source sink e n) now
  none_from S K f = record { source_is = f.source_is; sink_is = f.sink_is; disks_are = record { a = f.disks_are.a ∙ a; b = f.disks_are.b ∙ b } }

  one_from : OneFailed d now.disks → OneFailed e now.disks
  one_from (inl f) = inl (f.0 ∙ ap count_after a, f.1 ∙ b)
  one_from (inr f) = inr (f.0 ∙ a, f.1 ∙ ap count_after b)

  pub faults_from : (ending : LedgerEnding) → FaultsBy ending (handed source sink d n) now → FaultsBy ending (handed source sink e n) now
  faults_from (Run run.Done) f = none_from _ _ f
  faults_from (Run run.Usage) f = absurd f
  faults_from (Run run.ReadFault) f = none_from _ _ f
  faults_from (Run run.WriteFault) f = none_from _ _ f
  faults_from (Run run.NoMemory) f = none_from _ _ f
  faults_from (Run run.LineTooLong) f = none_from _ _ f
  faults_from (Run run.ScriptTooLong) f = none_from _ _ f
  faults_from DiskFault f = record {
    source_is = f.source_is;
    sink_is = f.sink_is;
    disks_are = one_from f.disks_are;
  }
  faults_from (Damaged damage) f = none_from _ _ f
  faults_from Empty f = none_from _ _ f
  faults_from Exists f = none_from _ _ f
  faults_from (NewerFormat found) f = none_from _ _ f
  faults_from NotaryFault f = none_from _ _ f
  faults_from (Refused why) f = none_from _ _ f

-- ---- a run that didn't begin

-- where nothing is pending each image is what is read
quiet_image : (s : State) (image : List ℕ) → IsSettled s → MayLeave s image → image ≡ s.seen
quiet_image s image quiet left = settled_image s.seen image (subst (λ (t : State). MayLeave t image) quiet left)

pub quiet_clean : (disks : Pair) (h : History) → IsQuietFor disks h → (a b : List ℕ) → MayLeave disks.a.bytes a → MayLeave disks.b.bytes b → IsCleanPair a b h
quiet_clean disks h q a b x y =
    subst (λ l. IsCleanPair l b h) (sym (quiet_image disks.a.bytes a q.a x)) (subst (λ l. IsCleanPair disks.a.bytes.seen l h) (sym (quiet_image disks.b.bytes b q.b y)) q.clean)

-- a run over lines tells no refusal
pub of_lines : (ending : LedgerEnding) (P : OpenErr → Type 0) → refusal_of ending ≡ None → IfSome (refusal_of ending) P
of_lines ending P is = subst (λ e. IfSome e P) (sym is) tt

pub no_refusal : (ending : LedgerEnding) → refusal_of ending ≡ None → IsSome (refusal_of ending) → ⊥
no_refusal ending is some = let no : ⊥ = cc (subst (λ (e : Option OpenErr). IsSome e) is some) in no

pub none_waits : (a b : List ℕ) (h : History) → PairFor a b h → h.waiting ≡ []
none_waits a b h p = p.stands.file.none

-- what was written before a fault falls short of the text
pub first_short : (due piece : List ℕ) (taken : ℕ) → piece ≡ due → taken < length piece → FallsShort (take taken piece) due
first_short due piece taken is fewer =
    subst (λ text. FallsShort (take taken piece) text) is (
      record { rest = drop taken piece; is = sym (take-append-drop taken piece) },
      omega (arith, length-take-le taken piece (omega (arith, fewer))),
    )

-- Lemmas on how a session ends.
use Rattle.std.proofs.Common.{◌≡◌, ℕ, ◌^◌, ◌<◌, inl, inr, List, length, Option, None, Some, arith}
use Rattle.std.specs.Io.KnownBytes.{Consumes, Appends}
use Rattle.time_peg.specs.Entries.{NotaryState}
use Rattle.batch_committer.specs.World.{World, EndsBy}
use Rattle.batch_committer.specs.declared.failure.CommitErr.{CommitErr}
use Rattle.batch_committer.specs.declared.failure.CommitErr.TheVariants as end
use Rattle.ledger_bytes.specs.Begins.{Begins}
use Rattle.ledger_io.specs.Outside.{SourceState, MeetsNone}
use Rattle.ledger_io.specs.Reading.{Reading}
use Rattle.ledger_io.specs.Runs.{EndsReading, FallsShort, SomeOfScript, ending_after}
use Rattle.ledger_io.specs.declared.failure.LineErr.{LineErr}
use Rattle.ledger_io.specs.declared.failure.LineErr.TheVariants.{ReadFault, LineTooLong, ScriptTooLong, NoMemory}
use Rattle.ledger_io.proofs.ReadingLaws.{HasGiven}
use Rattle.ledger_model.specs.History.{History}
use Rattle.ledger_model.specs.Scheme.{Scheme}
use Rattle.ledger_cli.specs.Endings.{ending_of_end}
use Rattle.ledger_cli.specs.Runs.{Handed, handed, FailedAtMostOnce, FaultsBy, ReadsBy, AnswersOn, StopsOn, RunsOn}
use Rattle.ledger_cli.specs.declared.ending.LedgerEnding.TheVariants.{Run}
use Rattle.ledger_cli.proofs.StopLaws.{SaidOf, CleanBy}

-- a script has fewer lines than bytes
pub few_lines : (before now : SourceState) (reading : Reading) (lines : List (List ℕ)) → HasGiven before now reading lines → length lines < 2 ^ 64
few_lines before now reading lines h = omega (arith, h.few, h.total, h.bounded)

-- ---- faults

pub faults_end : (end : Option LineErr) (before after_all : Handed) (read : List ℕ) (script : List (List ℕ)) → EndsReading end before.source after_all.source read script
    → (after_all.disks.a.faults ≡ before.disks.a.faults) → (after_all.disks.b.faults ≡ before.disks.b.faults) → MeetsNone before.sink after_all.sink → FaultsBy (Run (ending_after end)) before after_all
faults_end None before after_all read script e a b sink = record { source_is = e.0; sink_is = sink; disks_are = record { a = a; b = b } }
faults_end (Some ReadFault) before after_all read script e a b sink = record { source_is = e.0; sink_is = sink; disks_are = record { a = a; b = b } }
faults_end (Some LineTooLong) before after_all read script e a b sink = record { source_is = e.0; sink_is = sink; disks_are = record { a = a; b = b } }
faults_end (Some ScriptTooLong) before after_all read script e a b sink = record { source_is = e.0; sink_is = sink; disks_are = record { a = a; b = b } }
faults_end (Some NoMemory) before after_all read script e a b sink = absurd e

-- a call that ended the run on its way says nothing of what was still to come
pub reads_stop : (why : CommitErr) (before now : SourceState) → ReadsBy (ending_of_end why) before now
reads_stop end.DiskFault before now = tt
reads_stop end.WriteFault before now = tt
reads_stop end.NoMemory before now = tt
reads_stop end.Closed before now = tt

-- reading ended
pub reads_end : (end : Option LineErr) (before now : SourceState) (read : List ℕ) (script : List (List ℕ)) → Consumes before.left now.left read → EndsReading end before now read script → ReadsBy (Run (ending_after end)) before now
reads_end None before now read script c e = (read, script, c, e)
reads_end (Some ReadFault) before now read script c e = (read, script, c, e)
reads_end (Some LineTooLong) before now read script c e = (read, script, c, e)
reads_end (Some ScriptTooLong) before now read script c e = (read, script, c, e)
reads_end (Some NoMemory) before now read script c e = absurd e

-- reading failed once at most
pub at_most_once : (end : Option LineErr) (before now : SourceState) (read : List ℕ) (script : List (List ℕ)) → EndsReading end before now read script → FailedAtMostOnce before.faults now.faults
at_most_once None before now read script e = inl e.0
at_most_once (Some ReadFault) before now read script e = inr e.0
at_most_once (Some LineTooLong) before now read script e = inl e.0
at_most_once (Some ScriptTooLong) before now read script e = inl e.0
at_most_once (Some NoMemory) before now read script e = absurd e

pub faults_stop : (end : CommitErr) (w t : World) (before now : SourceState) (n m : NotaryState) → FailedAtMostOnce before.faults now.faults → EndsBy end w t → FaultsBy (ending_of_end end) (handed before w.sink w.disks n) (handed now t.sink t.disks m)
faults_stop end.DiskFault w t before now n m once e = record { source_is = once; sink_is = e.1; disks_are = e.0 }
faults_stop end.WriteFault w t before now n m once e = record { source_is = once; sink_is = e.2; disks_are = record { a = e.0; b = e.1 } }
faults_stop end.NoMemory w t before now n m once e = record { source_is = once; sink_is = e.sink; disks_are = record { a = e.a; b = e.b } }
faults_stop end.Closed w t before now n m once e = absurd e

-- ---- how a session ends

-- a stop, by what is known of some text of the script and of what is left
pub serve_stop : (scheme : Scheme) (h : History) (IsAfter : History → Type 0) (end : CommitErr) (w t : World) (before now : SourceState) (n m : NotaryState) (part read : List ℕ) → EndsBy end w t
    → Consumes before.left now.left read → Appends w.sink.held t.sink.held part → (some : List ℕ) → SaidOf end part some
    → ((IsSo : List ℕ → Type 0) → ((whole : List ℕ) → SaidOf end part whole → IsSo whole) → SomeOfScript (StopsOn scheme h part t.disks n m (CleanBy end h part) IsSo) before now read IsSo)
    → RunsOn scheme h IsAfter (ending_of_end end) (handed before w.sink w.disks n) (handed now t.sink t.disks m)
serve_stop scheme h IsAfter end.DiskFault w t before now n m part read cause consumed appended some said so = record { read = read; replies = part; consumed = consumed; appended = appended; replied = (said.0, so (Begins part) (λ whole s. s.1)) }
serve_stop scheme h IsAfter end.WriteFault w t before now n m part read cause consumed appended some said so = record { read = read; replies = part; consumed = consumed; appended = appended; replied = so (FallsShort part) (λ whole s. s) }
serve_stop scheme h IsAfter end.NoMemory w t before now n m part read cause consumed appended some said so = record { read = read; replies = part; consumed = consumed; appended = appended; replied = (said.0, so (Begins part) (λ whole s. s.1)) }
serve_stop scheme h IsAfter end.Closed w t before now n m part read cause consumed appended some said so = absurd cause

-- the lines that the end of reading leaves are answered
pub serve_end : (scheme : Scheme) (h : History) (IsAfter : History → Type 0) (end : Option LineErr) (w t : World) (before now : SourceState) (n m : NotaryState) (replies read : List ℕ) (script : List (List ℕ)) → MeetsNone w.sink t.sink
    → Consumes before.left now.left read → Appends w.sink.held t.sink.held replies → EndsReading end before now read script → AnswersOn scheme h IsAfter t.disks n m script replies
    → RunsOn scheme h IsAfter (Run (ending_after end)) (handed before w.sink w.disks n) (handed now t.sink t.disks m)
serve_end scheme h IsAfter None w t before now n m replies read script sink consumed appended e a = record { read = read; replies = replies; consumed = consumed; appended = appended; replied = record { lines = script; ended = e; answered = a; written = sink } }
serve_end scheme h IsAfter (Some ReadFault) w t before now n m replies read script sink consumed appended e a = record { read = read; replies = replies; consumed = consumed; appended = appended; replied = record { lines = script; ended = e; answered = a; written = sink } }
serve_end scheme h IsAfter (Some LineTooLong) w t before now n m replies read script sink consumed appended e a = record { read = read; replies = replies; consumed = consumed; appended = appended; replied = record { lines = script; ended = e; answered = a; written = sink } }
serve_end scheme h IsAfter (Some ScriptTooLong) w t before now n m replies read script sink consumed appended e a = record { read = read; replies = replies; consumed = consumed; appended = appended; replied = record { lines = script; ended = e; answered = a; written = sink } }
serve_end scheme h IsAfter (Some NoMemory) w t before now n m replies read script sink consumed appended e a = absurd e

-- What is known of the history after a run may be told in other words.
use Rattle.std.proofs.Common.{◌≡◌, List, []}
use Rattle.batch_committer.specs.World.{World, Holds}
use Rattle.ledger_io.specs.declared.ending.Ending.TheVariants as run
use Rattle.ledger_model.specs.History.{History}
use Rattle.ledger_model.specs.Scheme.{Scheme}
use Rattle.time_peg.specs.Entries.{NotaryState}
use Rattle.batch_committer.specs.World.{Pair}
use Rattle.std.proofs.Common.{ℕ, Bool, Option}
use Rattle.ledger_io.specs.declared.failure.LineErr.{LineErr}
use Rattle.ledger_cli.specs.Runs.{Handed, AnswersAll, AnswersOn, Runs, RunsOn}
use Rattle.ledger_cli.specs.declared.ending.LedgerEnding.{LedgerEnding}
use Rattle.ledger_cli.specs.declared.ending.LedgerEnding.TheVariants.{Run, DiskFault, Damaged, Empty, Exists, NewerFormat, NotaryFault, Refused}

module _ (scheme : Scheme) (h : History) (P Q : History → Type 0) (to : (g : History) → P g → Q g) (before now : Handed) where
  answers_as : (disks : Pair) (n m : NotaryState) (lines : List (List ℕ)) (replies : List ℕ) → AnswersOn scheme h P disks n m lines replies → AnswersOn scheme h Q disks n m lines replies
  answers_as disks n m lines replies x = record { answers = x.answers; clean = x.clean; quiet = x.quiet; images = x.images; so = to _ x.so }

  all_as : (end : Option LineErr) (read replies : List ℕ) → AnswersAll scheme h P end read replies before now → AnswersAll scheme h Q end read replies before now
  all_as end read replies x = record { lines = x.lines; ended = x.ended; answered = answers_as now.disks before.notary now.notary x.lines replies x.answered; written = x.written }

  on_as : (ending : LedgerEnding) → RunsOn scheme h P ending before now → RunsOn scheme h Q ending before now
  on_as (Run run.Done) x = record { read = x.read; replies = x.replies; consumed = x.consumed; appended = x.appended; replied = all_as _ x.read x.replies x.replied }
  on_as (Run run.Usage) x = absurd x.replied
  on_as (Run run.ReadFault) x = record { read = x.read; replies = x.replies; consumed = x.consumed; appended = x.appended; replied = all_as _ x.read x.replies x.replied }
  on_as (Run run.WriteFault) x = record { read = x.read; replies = x.replies; consumed = x.consumed; appended = x.appended; replied = x.replied }
  on_as (Run run.NoMemory) x = record { read = x.read; replies = x.replies; consumed = x.consumed; appended = x.appended; replied = x.replied }
  on_as (Run run.LineTooLong) x = record { read = x.read; replies = x.replies; consumed = x.consumed; appended = x.appended; replied = all_as _ x.read x.replies x.replied }
  on_as (Run run.ScriptTooLong) x = record { read = x.read; replies = x.replies; consumed = x.consumed; appended = x.appended; replied = all_as _ x.read x.replies x.replied }
  on_as DiskFault x = record { read = x.read; replies = x.replies; consumed = x.consumed; appended = x.appended; replied = x.replied }
  on_as (Damaged damage) x = absurd x.replied
  on_as Empty x = absurd x.replied
  on_as Exists x = absurd x.replied
  on_as (NewerFormat found) x = absurd x.replied
  on_as NotaryFault x = absurd x.replied
  on_as (Refused why) x = absurd x.replied

pub runs_as : (scheme : Scheme) (tells : Bool) (w : World) (P Q : History → History → Type 0) (ending : LedgerEnding) (before now : Handed)
    → ((h g : History) → Holds tells w h → h.waiting ≡ [] → P h g → Q h g) → Runs scheme tells w P ending before now → Runs scheme tells w Q ending before now
runs_as scheme tells w P Q ending before now to x = record {
  serves = λ h p none list. on_as scheme h (P h) (Q h) (λ g. to h g p none) before now ending (x.serves h p none list);
  ends = x.ends;
  faults = x.faults;
  failures = x.failures;
}

-- What a run of the program did with some words, to its exit status.
use Rattle.std.specs.Prelude.{◌≡◌, ◌⊎◌, ℕ, Bool, Option, None, Some}
use Rattle.ledger_io.specs.Outside.{SinkState}
use Rattle.ledger_io.specs.Writing.{WritesLast}
use Rattle.ledger_io.specs.declared.ending.Ending.TheVariants as run
use Rattle.ledger_model.specs.Scheme.{Scheme}
use Rattle.ledger_cli.specs.Asking.{TracesClue}
use Rattle.ledger_cli.specs.Chaining.{chain_line}
use Rattle.ledger_cli.specs.Endings.{status_of, last_line, HasWords}
use Rattle.ledger_cli.specs.Runs.{Handed, handed, Anything, Exports, Makes, RunsAgain, RunsBoard, RunsNew, Signs, Soaks}
use Rattle.ledger_cli.specs.Signing.{signed_text}
use Rattle.ledger_cli.specs.Surviving.{CarriesSet, KeepsJournals, RevivesSet}
use Rattle.ledger_cli.specs.declared.ending.LedgerEnding.{LedgerEnding}
use Rattle.ledger_cli.specs.declared.ending.LedgerEnding.TheVariants.{Run}
use Rattle.ledger_cli.specs.declared.words.Command.{Command}
use Rattle.ledger_cli.specs.declared.words.Command.TheVariants as command

-- what a run did by the command that its words ask for: everything but the last line
abbrev pub ServedBy : Scheme → Bool → Option Command → LedgerEnding → Handed → Handed → Type 0
ServedBy scheme tells None ending before after_all = (ending ≡ Run run.Usage) × (after_all ≡ before)
ServedBy scheme tells (Some (command.Dry genesis)) ending before after_all = RunsNew scheme genesis tells ending before after_all
ServedBy scheme tells (Some (command.Init genesis)) ending before after_all = Makes genesis tells ending before after_all
ServedBy scheme tells (Some command.Run) ending before after_all = RunsAgain scheme tells Anything ending before after_all
ServedBy scheme tells (Some command.Export) ending before after_all = Exports tells ending before after_all
ServedBy scheme tells (Some (command.Lineage clue from)) ending before after_all = TracesClue from clue tells ending before after_all
ServedBy scheme tells (Some (command.Board provers count)) ending before after_all = RunsBoard scheme tells provers count ending before after_all
ServedBy scheme tells (Some (command.Keep point numbers)) ending before after_all = KeepsJournals point numbers.items tells ending before after_all
ServedBy scheme tells (Some (command.Carry point)) ending before after_all = CarriesSet point tells ending before after_all
ServedBy scheme tells (Some command.Revive) ending before after_all = RevivesSet tells ending before after_all
ServedBy scheme tells (Some (command.Sign signing)) ending before after_all = Signs (signed_text signing) ending before after_all
ServedBy scheme tells (Some (command.Chain text)) ending before after_all = Signs (chain_line text) ending before after_all
ServedBy scheme tells (Some (command.Soak seed count stop)) ending before after_all = Soaks seed count stop ending before after_all

-- The last line was written by one attempt, and this is the status. Where the line is made of words and there is no memory for them,
-- the run ends for want of memory.
pub record Finishes (met : LedgerEnding) (status : ℕ) (before now : SinkState) : Type 0 where
  pub ending : LedgerEnding
  pub told : (ending ≡ met) ⊎ ((ending ≡ Run run.NoMemory) × HasWords met)
  pub status_is : status ≡ status_of ending
  pub last : WritesLast (last_line ending) before now

-- what a run of the program did with some words, to its exit status
pub record RanProgram (scheme : Scheme) (tells : Bool) (words : Option Command) (status : ℕ) (before after_all : Handed) : Type 0 where
  pub met : LedgerEnding
  -- the sink as it was in front of the last line
  pub sink : SinkState
  pub served : ServedBy scheme tells words met before (handed after_all.source sink after_all.disks after_all.notary)
  pub finishes : Finishes met status sink after_all.sink

-- What a run of the program did, from the bytes that came in to the bytes that went out.
use Rattle.std.specs.Prelude.{◌≡◌, ◌≢◌, ◌⊎◌, ℕ, List, Option, Some, None}
use Rattle.ledger_io.specs.Endings.{last_line, status_of}
use Rattle.ledger_io.specs.Outside.{Outside}
use Rattle.ledger_io.specs.Runs.{Served, Ran}
use Rattle.ledger_io.specs.Writing.{WritesLast}
use Rattle.ledger_io.specs.declared.ending.Ending.{Ending}
use Rattle.ledger_io.specs.declared.ending.Ending.TheVariants.{NoMemory, Usage}
use Rattle.ledger_model.specs.Scheme.{Scheme}
use Rattle.tree_model.specs.Tree.{Hash}
use Rattle.audit_cli.specs.declared.words.Command.{Command}
use Rattle.audit_cli.specs.declared.words.Command.TheVariants.{Script, Dump, Lineage}
use Rattle.audit_cli.specs.Dumps.{RanDump, SoundDump}
use Rattle.audit_cli.specs.Lineages.{RanLineage, SoundLineage}
use Rattle.audit_cli.specs.Texts.{audit_text}
use Rattle.audit_cli.specs.Sound.{IsSoundText, SoundRun}

-- ---- a script

-- what is answered to the lines of a script: its text, of which all that it says is so
pub record AnswersScript (hash : Hash) (lines : List (List ℕ)) (replies : List ℕ) : Type 0 where
  pub text : replies ≡ audit_text hash lines
  pub sound : IsSoundText hash lines replies

-- what a run over a script did from its first line to its ending: everything but the last line
abbrev pub ServedScript : Hash → Ending → Outside → Outside → Type 0
ServedScript hash ending before after = Served (AnswersScript hash) ending before after

-- what a run over a script did, to its exit status
pub record RanScript (hash : Hash) (status : ℕ) (before after : Outside) : Type 0 where
  pub ending : Ending
  pub status_is : status ≡ status_of ending
  pub started : ending ≢ Usage
  pub ran : Ran (AnswersScript hash) ending before after

-- ---- a command

-- a run that ended so before it began: nothing was read, and only the last line was written
pub record Unstarted (ending : Ending) (status : ℕ) (before after : Outside) : Type 0 where
  pub status_is : status ≡ status_of ending
  pub unread : after.source ≡ before.source
  pub last : WritesLast (last_line ending) before.sink after.sink

-- what a run of a command did, to its exit status; None stands for words that are of no form
abbrev pub RanCommand : Hash → Scheme → Option Command → ℕ → Outside → Outside → Type 0
RanCommand hash scheme None status before after = Unstarted Usage status before after
RanCommand hash scheme (Some Script) status before after = RanScript hash status before after
RanCommand hash scheme (Some (Dump id ledger notary)) status before after = RanDump scheme id ledger notary status before after
RanCommand hash scheme (Some (Lineage clue head)) status before after = RanLineage clue head status before after

-- what a run of the program did, to its exit status: memory was wanted to read the words, or what they ask for was run
abbrev pub RanProgram : Hash → Scheme → Option Command → ℕ → Outside → Outside → Type 0
RanProgram hash scheme asked status before after =
    Unstarted NoMemory status before after ⊎ RanCommand hash scheme asked status before after

-- what was told without a fault is so: all that the text of a script says, all that the dump does, or that the
-- lineage is accepted
abbrev pub SoundCommand : Hash → Option Command → Outside → Outside → Type 0
SoundCommand hash None before after = ⊥
SoundCommand hash (Some Script) before after = SoundRun hash before after
SoundCommand hash (Some (Dump id ledger notary)) before after = SoundDump ledger notary before after
SoundCommand hash (Some (Lineage clue head)) before after = SoundLineage clue head before after

-- Lemmas on a run whose notary keeps its list on a disk.
use Rattle.std.specs.Prelude.{IsSome}
use Rattle.std.proofs.Common.{◌≡◌, ℕ, Bool, true, false, inl, inr, Option, Some, None, refl, ap, sym, subst, ◌∙◌}
use Rattle.block_file.specs.declared.failure.FileErr.{FileErr}
use Rattle.block_file.specs.declared.failure.FileErr.TheVariants as files
use Rattle.ledger_bytes.specs.declared.digest.Digest.{Digest}
use Rattle.ledger_disk.specs.Disk.{DiskState, MayLeave}
use Rattle.ledger_io.specs.Outside.{SinkState}
use Rattle.ledger_io.specs.Writing.{WritesLast}
use Rattle.ledger_io.specs.declared.ending.Ending.TheVariants as run
use Rattle.ledger_model.specs.Scheme.{Scheme}
use Rattle.notary_ledger.specs.Opening.{CountsOpenAt}
use Rattle.time_peg.specs.Entries.{NotaryState, Times}
use Rattle.ledger_cli.specs.Endings.{status_of, last_line, HasWords}
use Rattle.ledger_cli.specs.Keeping.{Given, names_folder, ending_of_keeper, IsLeftListed, IsUntouched, RanOnKeeper, WantsMemory, KeeperFailed, RanWith, RanMain}
use Rattle.ledger_cli.specs.Program.{Finishes, ServedBy}
use Rattle.ledger_cli.specs.Runs.{Handed}
use Rattle.ledger_cli.specs.declared.ending.LedgerEnding.{LedgerEnding}
use Rattle.ledger_cli.specs.declared.ending.LedgerEnding.TheVariants.{Run, DiskFault}
use Rattle.ledger_cli.specs.declared.words.Command.{Command}
use Rattle.ledger_cli.specs.declared.words.Command.TheVariants as command

-- ---- the last line

-- an ending whose last line needs no memory is told as it was met
told_as : (met : LedgerEnding) (status : ℕ) (before now : SinkState) → (HasWords met → ⊥) → Finishes met status before now → (status ≡ status_of met) × WritesLast (last_line met) before now
told_as met status before now plain f = elim f.told [
  | inl same ↦ (f.status_is ∙ ap status_of same, subst (λ e. WritesLast (last_line e) before now) same f.last)
  | inr other ↦ absurd (plain other.1)
]

-- ---- which run it was

-- what wasn't touched has its list
untouched_listed : (keeps : Bool) (before now : DiskState) → now ≡ before → IsLeftListed keeps before now
untouched_listed keeps before now is t image left = (image, subst (λ (d : DiskState). MayLeave d.bytes image) is left, λ es l. l)

module _ (scheme : Scheme) (tells keeps : Bool) (times : Times) (words : Option Command) (seed : Option Digest) (status : ℕ) (before after_all : Given) where
  abbrev By : Bool → Option Digest → Type 0
  By names s = RanWith scheme tells keeps times words names s status before after_all

  listed_only : WantsMemory IsUntouched words status before after_all → WantsMemory (IsLeftListed keeps) words status before after_all
  listed_only w = record {
    unbegun = w.unbegun;
    status_is = w.status_is;
    words_are = w.words_are;
    left = untouched_listed keeps before.keeper after_all.keeper w.left;
    faults = w.faults;
  }

  pub for_memory : WantsMemory IsUntouched words status before after_all → RanMain scheme tells keeps times words seed status before after_all
  for_memory w = by_cases (names_folder words) seed where
    by_cases : (names : Bool) (s : Option Digest) → By names s
    by_cases false s = inr w
    by_cases true None = inr w
    by_cases true (Some d) = inr (inr (listed_only w))

  pub on_keeper : (d : Digest) → true ≡ names_folder words → seed ≡ Some d → RanOnKeeper scheme tells keeps (record { seed = d.0; times = times }) words status before after_all
      → RanMain scheme tells keeps times words seed status before after_all
  on_keeper d is some r = subst (λ v. By v seed) is (subst (By true) (sym some) (inl r))

  for_keeper : (d : Digest) → true ≡ names_folder words → seed ≡ Some d → KeeperFailed keeps status before after_all → RanMain scheme tells keeps times words seed status before after_all
  for_keeper d is some f = subst (λ v. By v seed) is (subst (By true) (sym some) (inr (inl f)))

  named_memory : (d : Digest) → true ≡ names_folder words → seed ≡ Some d → WantsMemory (IsLeftListed keeps) words status before after_all → RanMain scheme tells keeps times words seed status before after_all
  named_memory d is some w = subst (λ v. By v seed) is (subst (By true) (sym some) (inr (inr w)))

  -- a notary that can't be taken up
  pub refused : (d : Digest) → true ≡ names_folder words → seed ≡ Some d → IsSome words → (error : FileErr) → after_all.source ≡ before.source → after_all.disks ≡ before.disks
      → IsLeftListed keeps before.keeper after_all.keeper → CountsOpenAt error before.keeper.faults after_all.keeper.faults → Finishes (ending_of_keeper error) status before.sink after_all.sink
      → RanMain scheme tells keeps times words seed status before after_all
  refused d is some named files.DiskFault unread untouched listed counts f =
      let told = told_as DiskFault status before.sink after_all.sink (λ has. has) f in
      for_keeper d is some (record { unbegun = record { unread = unread; untouched = untouched; last = told.1 }; status_is = told.0; listed = listed; faults = counts })
  refused d is some named (files.Damaged damage) unread untouched listed counts f = absurd counts
  refused d is some named (files.NewerFormat found) unread untouched listed counts f = absurd counts
  refused d is some named files.NoMemory unread untouched listed counts f =
      let told = told_as (Run run.NoMemory) status before.sink after_all.sink (λ has. has) f in
      named_memory d is some (record { unbegun = record { unread = unread; untouched = untouched; last = told.1 }; status_is = told.0; words_are = named; left = listed; faults = counts })

-- words that name a folder are of some form
pub named_some : (words : Option Command) → true ≡ names_folder words → IsSome words
named_some None is = cc
named_some (Some command) is = refl

-- what stays of the notary stayed, whatever the command
pub served_origin : (scheme : Scheme) (tells : Bool) (words : Option Command) (ending : LedgerEnding) (before now : Handed) → ServedBy scheme tells words ending before now → now.notary.origin ≡ before.notary.origin
served_origin scheme tells None ending before now s = ap (λ (x : Handed). x.notary.origin) s.1
served_origin scheme tells (Some (command.Dry genesis)) ending before now s = s.failures.fails.origin
served_origin scheme tells (Some (command.Init genesis)) ending before now s = ap (λ (n : NotaryState). n.origin) s.unasked
served_origin scheme tells (Some command.Run) ending before now s = s.failures.fails.origin
served_origin scheme tells (Some command.Export) ending before now s = s.asked.origin
served_origin scheme tells (Some (command.Lineage clue from)) ending before now s = ap (λ (n : NotaryState). n.origin) s.unasked
served_origin scheme tells (Some (command.Keep point numbers)) ending before now s = ap (λ (n : NotaryState). n.origin) s.unasked
served_origin scheme tells (Some (command.Carry point)) ending before now s = ap (λ (n : NotaryState). n.origin) s.unasked
served_origin scheme tells (Some command.Revive) ending before now s = s.asks.asked.origin
served_origin scheme tells (Some (command.Board provers count)) ending before now s = ap (λ (n : NotaryState). n.origin) s.notary_is ∙ s.ran.failures.fails.origin
served_origin scheme tells (Some (command.Sign signing)) ending before now s = ap (λ (n : NotaryState). n.origin) s.notary_is
served_origin scheme tells (Some (command.Chain text)) ending before now s = ap (λ (n : NotaryState). n.origin) s.notary_is
served_origin scheme tells (Some (command.Soak seed count stop)) ending before now s = ap (λ (n : NotaryState). n.origin) s.notary_is

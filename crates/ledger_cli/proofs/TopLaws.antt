-- Lemmas on the whole of a run.
use Rattle.std.proofs.Common.{◌≡◌, ℕ, ◌⊎◌, inl, inr, Bool, List, [], take, Option, Some, None, refl, sym, subst, ap, ◌∙◌, arith}
use Rattle.std.specs.Prelude.{IsSome}
use Rattle.std.proofs.KnownBytes.{Appends-nil}
use Rattle.batch_committer.specs.World.{Pair, OneFailed}
use Rattle.ledger_bytes.specs.Causes.{count_after}
use Rattle.ledger_io.specs.Outside.{SourceState, SinkState, MeetsNone, MeetsOne, outside}
use Rattle.ledger_io.specs.Runs.{Wrote}
use Rattle.ledger_io.specs.Writing.{WritesLast, WritesFirst}
use Rattle.ledger_io.specs.declared.ending.Ending.{Ending}
use Rattle.ledger_io.specs.declared.ending.Ending.TheVariants as run
use Rattle.ledger_io.specs.declared.writer.WriteErr.{WriteErr}
use Rattle.ledger_io.specs.declared.writer.WriteErr.TheVariants.{WriteFault}
use Rattle.ledger_model.specs.Scheme.{Scheme}
use Rattle.ledger_soak.specs.Soaking.{Soaked}
use Rattle.ledger_soak.specs.declared.running.SoakEnd.{SoakEnd}
use Rattle.ledger_soak.specs.declared.running.SoakEnd.TheVariants as soak
use Rattle.time_peg.specs.Entries.{NotaryState}
use Rattle.ledger_cli.specs.Endings.{status_of, last_line, HasWords}
use Rattle.ledger_cli.specs.Program.{ServedBy, Finishes}
use Rattle.ledger_cli.specs.Runs.{Handed, handed, Anything, FaultsBy, NothingFailed, Signs, ending_of_soak}
use Rattle.ledger_cli.specs.declared.ending.LedgerEnding.{LedgerEnding}
use Rattle.ledger_cli.specs.declared.ending.LedgerEnding.TheVariants.{Run, DiskFault, Damaged, Empty, Exists, NewerFormat, NotaryFault, Refused}
use Rattle.ledger_cli.specs.declared.words.Command.{Command}
use Rattle.ledger_cli.specs.declared.words.Command.TheVariants as command
use Rattle.ledger_cli.proofs.FailureLaws.{fails_unread}
use Rattle.ledger_cli.proofs.CarryLaws.{first_short}
use Rattle.ledger_cli.proofs.BesideLaws.{board_unstarted}
use Rattle.ledger_cli.proofs.OpeningLaws.{again_unstarted, dump_unstarted, write_unstarted}
use Rattle.ledger_cli.proofs.SurviveLaws.{none_read, unasked}

-- ---- a piece of a text

pub wrote_part : (due piece : List ℕ) (source : SourceState) (before now : SinkState) (error : WriteErr) → piece ≡ due → WritesFirst before.held now.held piece error
    → MeetsOne before now → Wrote due run.WriteFault (outside source before) (outside source now)
wrote_part due piece source before now (WriteFault taken) is first one = record {
  written = take taken piece;
  unread = refl;
  appended = first.1;
  output = (first_short due piece taken is first.0, one);
}

-- ---- nothing was done for want of memory

nothing : (x : Handed) → FaultsBy (Run run.NoMemory) x x
nothing x = record { source_is = inl refl; sink_is = (refl, refl); disks_are = record { a = refl; b = refl } }

-- no text was written
pub wrote_nothing : (due : List ℕ) (x : Handed) → Signs due (Run run.NoMemory) x x
wrote_nothing due x = record {
  plain = run.NoMemory;
  ending_is = refl;
  wrote = record { written = []; unread = refl; appended = Appends-nil x.sink.held; output = (refl, (refl, refl)) };
  disks_are = refl;
  notary_is = refl;
}

pub unstarted_by : (scheme : Scheme) (tells : Bool) (words : Option Command) (x : Handed) → IsSome words → ServedBy scheme tells words (Run run.NoMemory) x x
unstarted_by scheme tells None x some = absurd (let no : ⊥ = cc some in no)
unstarted_by scheme tells (Some (command.Dry genesis)) x some = record {
  serves = λ t none l. inr (record { outside = inr refl; unstarted = record { unread = refl; unwritten = refl; unasked = refl }; left = λ is. record { a = inl refl; b = inl refl }; images = inl (record { a = inl refl; b = inl refl }) });
  unstarted = λ some. record { unread = refl; unwritten = refl; unasked = refl };
  only = tt;
  ends = tt;
  left = λ t o. (record { unread = refl; unwritten = refl; unasked = refl }, inl (inr refl, record { a = inl refl; b = inl refl }));
  faults = nothing x;
  failures = fails_unread x.source x.notary;
}
unstarted_by scheme tells (Some (command.Init genesis)) x some = record {
  written = [];
  unread = refl;
  unasked = refl;
  appended = Appends-nil x.sink.held;
  made = (refl, λ t. inl (record { a = inl refl; b = inl refl }));
  images = λ t. inl (record { a = inl refl; b = inl refl });
  faults = nothing x;
}
unstarted_by scheme tells (Some command.Run) x some = again_unstarted scheme tells x.source x.sink x.notary x.disks x.disks Anything refl
unstarted_by scheme tells (Some command.Export) x some = dump_unstarted scheme tells x.source x.sink x.notary x.disks x.disks refl
unstarted_by scheme tells (Some (command.Lineage clue from)) x some = record { opens = write_unstarted scheme tells x.source x.sink x.notary x.disks x.disks _ _ refl; unread = refl; unasked = refl }
unstarted_by scheme tells (Some (command.Keep point numbers)) x some = record { opens = write_unstarted scheme tells x.source x.sink x.notary x.disks x.disks _ _ refl; unread = refl; unasked = refl }
unstarted_by scheme tells (Some (command.Carry point)) x some =
    record { read = []; consumed = none_read x.source.left; has_read = tt; opens = write_unstarted scheme tells x.source x.sink x.notary x.disks x.disks _ _ refl; unasked = refl }
unstarted_by scheme tells (Some command.Revive) x some = record {
  read = [];
  consumed = none_read x.source.left;
  has_read = tt;
  opens = write_unstarted scheme tells x.source x.sink x.notary x.disks x.disks _ _ refl;
  asks = record { asked = unasked x.notary; counts = refl };
}
unstarted_by scheme tells (Some (command.Board provers count)) x some = board_unstarted scheme tells provers count x.source x.sink x.notary x.disks x.disks refl
unstarted_by scheme tells (Some (command.Sign signing)) x some = wrote_nothing _ x
unstarted_by scheme tells (Some (command.Chain text)) x some = wrote_nothing _ x
unstarted_by scheme tells (Some (command.Soak seed count stop)) x some = record { end = soak.NoMemory; ending_is = refl; soaked = refl; source_is = refl; disks_are = refl; notary_is = refl }

-- ---- faults of a whole run

-- a soak met what its ending tells
soaked_faults : (seed count stop : ℕ) (end : SoakEnd) (before now : Handed) → Soaked seed count stop end before.sink now.sink → now.source ≡ before.source → now.disks ≡ before.disks → FaultsBy (Run (ending_of_soak end)) before now
soaked_faults seed count stop soak.Done before now s source disks =
    record { source_is = ap (λ (x : SourceState). x.faults) source; sink_is = s.no_fault; disks_are = record { a = ap (λ (d : Pair). d.a.faults) disks; b = ap (λ (d : Pair). d.b.faults) disks } }
soaked_faults seed count stop soak.WriteFault before now s source disks =
    record { source_is = inl (ap (λ (x : SourceState). x.faults) source); sink_is = s.one_fault; disks_are = record { a = ap (λ (d : Pair). d.a.faults) disks; b = ap (λ (d : Pair). d.b.faults) disks } }
soaked_faults seed count stop soak.NoMemory before now s source disks = record {
  source_is = inl (ap (λ (x : SourceState). x.faults) source);
  sink_is = subst (MeetsNone before.sink) (sym s) (refl, refl);
  disks_are = record { a = ap (λ (d : Pair). d.a.faults) disks; b = ap (λ (d : Pair). d.b.faults) disks };
}

-- a text that was written met what its ending tells
pub signed_faults : (written_text : List ℕ) (plain : Ending) (before now : Handed) → Wrote written_text plain (outside before.source before.sink) (outside now.source now.sink) → now.disks ≡ before.disks → FaultsBy (Run plain) before now
signed_faults written_text run.Done before now w is = record { source_is = ap (λ (s : SourceState). s.faults) w.unread; sink_is = w.output.1; disks_are = record { a = ap (λ (d : Pair). d.a.faults) is; b = ap (λ (d : Pair). d.b.faults) is } }
signed_faults written_text run.Usage before now w is = absurd w.output
signed_faults written_text run.ReadFault before now w is = absurd w.output
signed_faults written_text run.WriteFault before now w is = record { source_is = inl (ap (λ (s : SourceState). s.faults) w.unread); sink_is = w.output.1; disks_are = record { a = ap (λ (d : Pair). d.a.faults) is; b = ap (λ (d : Pair). d.b.faults) is } }
signed_faults written_text run.NoMemory before now w is = record { source_is = inl (ap (λ (s : SourceState). s.faults) w.unread); sink_is = w.output.1; disks_are = record { a = ap (λ (d : Pair). d.a.faults) is; b = ap (λ (d : Pair). d.b.faults) is } }
signed_faults written_text run.LineTooLong before now w is = absurd w.output
signed_faults written_text run.ScriptTooLong before now w is = absurd w.output

-- which faults a command met before its last line; words of no form did nothing
served_faults : (scheme : Scheme) (tells : Bool) (words : Option Command) (met : LedgerEnding) (before now : Handed) → ServedBy scheme tells words met before now → ((words ≡ None) × (met ≡ Run run.Usage)) ⊎ FaultsBy met before now
served_faults scheme tells None met before now s = inl (refl, s.0)
served_faults scheme tells (Some (command.Dry genesis)) met before now s = inr s.faults
served_faults scheme tells (Some (command.Init genesis)) met before now s = inr s.faults
served_faults scheme tells (Some command.Run) met before now s = inr s.faults
served_faults scheme tells (Some command.Export) met before now s = inr s.faults
served_faults scheme tells (Some (command.Lineage clue from)) met before now s = inr s.opens.faults
served_faults scheme tells (Some (command.Keep point numbers)) met before now s = inr s.opens.faults
served_faults scheme tells (Some (command.Carry point)) met before now s = inr s.opens.faults
served_faults scheme tells (Some command.Revive) met before now s = inr s.opens.faults
served_faults scheme tells (Some (command.Board provers count)) met before now s = inr s.faults
served_faults scheme tells (Some (command.Sign signing)) met before now s = inr (subst (λ e. FaultsBy e before now) (sym s.ending_is) (signed_faults _ s.plain before now s.wrote s.disks_are))
served_faults scheme tells (Some (command.Chain text)) met before now s = inr (subst (λ e. FaultsBy e before now) (sym s.ending_is) (signed_faults _ s.plain before now s.wrote s.disks_are))
served_faults scheme tells (Some (command.Soak seed count stop)) met before now s = inr (subst (λ e. FaultsBy e before now) (sym s.ending_is) (soaked_faults seed count stop s.end before now s.soaked s.source_is s.disks_are))

-- an ending by its status
is_usage : (e : LedgerEnding) → status_of e ≡ 1 → e ≡ Run run.Usage
is_usage (Run run.Usage) is = refl
is_usage (Run run.Done) is = absurd (omega (arith, is))
is_usage (Run run.ReadFault) is = absurd (omega (arith, is))
is_usage (Run run.WriteFault) is = absurd (omega (arith, is))
is_usage (Run run.NoMemory) is = absurd (omega (arith, is))
is_usage (Run run.LineTooLong) is = absurd (omega (arith, is))
is_usage (Run run.ScriptTooLong) is = absurd (omega (arith, is))
is_usage DiskFault is = absurd (omega (arith, is))
is_usage (Damaged damage) is = absurd (omega (arith, is))
is_usage Empty is = absurd (omega (arith, is))
is_usage Exists is = absurd (omega (arith, is))
is_usage (NewerFormat found) is = absurd (omega (arith, is))
is_usage NotaryFault is = absurd (omega (arith, is))
is_usage (Refused why) is = absurd (omega (arith, is))

is_done : (e : LedgerEnding) → status_of e ≡ 0 → e ≡ Run run.Done
is_done (Run run.Done) is = refl
is_done (Run run.Usage) is = absurd (omega (arith, is))
is_done (Run run.ReadFault) is = absurd (omega (arith, is))
is_done (Run run.WriteFault) is = absurd (omega (arith, is))
is_done (Run run.NoMemory) is = absurd (omega (arith, is))
is_done (Run run.LineTooLong) is = absurd (omega (arith, is))
is_done (Run run.ScriptTooLong) is = absurd (omega (arith, is))
is_done DiskFault is = absurd (omega (arith, is))
is_done (Damaged damage) is = absurd (omega (arith, is))
is_done Empty is = absurd (omega (arith, is))
is_done Exists is = absurd (omega (arith, is))
is_done (NewerFormat found) is = absurd (omega (arith, is))
is_done NotaryFault is = absurd (omega (arith, is))
is_done (Refused why) is = absurd (omega (arith, is))

is_read : (e : LedgerEnding) → status_of e ≡ 2 → e ≡ Run run.ReadFault
is_read (Run run.ReadFault) is = refl
is_read (Run run.Done) is = absurd (omega (arith, is))
is_read (Run run.Usage) is = absurd (omega (arith, is))
is_read (Run run.WriteFault) is = absurd (omega (arith, is))
is_read (Run run.NoMemory) is = absurd (omega (arith, is))
is_read (Run run.LineTooLong) is = absurd (omega (arith, is))
is_read (Run run.ScriptTooLong) is = absurd (omega (arith, is))
is_read DiskFault is = absurd (omega (arith, is))
is_read (Damaged damage) is = absurd (omega (arith, is))
is_read Empty is = absurd (omega (arith, is))
is_read Exists is = absurd (omega (arith, is))
is_read (NewerFormat found) is = absurd (omega (arith, is))
is_read NotaryFault is = absurd (omega (arith, is))
is_read (Refused why) is = absurd (omega (arith, is))

is_write : (e : LedgerEnding) → status_of e ≡ 3 → e ≡ Run run.WriteFault
is_write (Run run.WriteFault) is = refl
is_write (Run run.Done) is = absurd (omega (arith, is))
is_write (Run run.Usage) is = absurd (omega (arith, is))
is_write (Run run.ReadFault) is = absurd (omega (arith, is))
is_write (Run run.NoMemory) is = absurd (omega (arith, is))
is_write (Run run.LineTooLong) is = absurd (omega (arith, is))
is_write (Run run.ScriptTooLong) is = absurd (omega (arith, is))
is_write DiskFault is = absurd (omega (arith, is))
is_write (Damaged damage) is = absurd (omega (arith, is))
is_write Empty is = absurd (omega (arith, is))
is_write Exists is = absurd (omega (arith, is))
is_write (NewerFormat found) is = absurd (omega (arith, is))
is_write NotaryFault is = absurd (omega (arith, is))
is_write (Refused why) is = absurd (omega (arith, is))

is_disk : (e : LedgerEnding) → status_of e ≡ 4 → e ≡ DiskFault
is_disk DiskFault is = refl
is_disk (Run run.Done) is = absurd (omega (arith, is))
is_disk (Run run.Usage) is = absurd (omega (arith, is))
is_disk (Run run.ReadFault) is = absurd (omega (arith, is))
is_disk (Run run.WriteFault) is = absurd (omega (arith, is))
is_disk (Run run.NoMemory) is = absurd (omega (arith, is))
is_disk (Run run.LineTooLong) is = absurd (omega (arith, is))
is_disk (Run run.ScriptTooLong) is = absurd (omega (arith, is))
is_disk (Damaged damage) is = absurd (omega (arith, is))
is_disk Empty is = absurd (omega (arith, is))
is_disk Exists is = absurd (omega (arith, is))
is_disk (NewerFormat found) is = absurd (omega (arith, is))
is_disk NotaryFault is = absurd (omega (arith, is))
is_disk (Refused why) is = absurd (omega (arith, is))

-- an empty line meets no fault
no_last : (before now : SinkState) → WritesLast [] before now → MeetsNone before now
no_last before now w = elim w.once [ inl whole ↦ whole.1 | inr short ↦ absurd (let no : ⊥ = omega (arith, short.0) in no) ]

module _ (scheme : Scheme) (tells : Bool) (words : Option Command) (status : ℕ) (met : LedgerEnding) (before : Handed) (source : SourceState) (disks : Pair) (n : NotaryState) (mid last : SinkState)
    (s : ServedBy scheme tells words met before (handed source mid disks n)) (f : Finishes met status mid last) where
  -- the ending that the status tells is the one that was met, where it isn't want of memory
  was_met : (e : LedgerEnding) → f.ending ≡ e → (Run run.NoMemory ≡ e → ⊥) → met ≡ e
  was_met e is not = elim f.told [ inl same ↦ sym same ∙ is | inr none ↦ absurd (not (sym none.0 ∙ is)) ]

  -- .. and its faults are those that were met
  faults_met : (e : LedgerEnding) → met ≡ e → (e ≡ Run run.Usage → ⊥) → FaultsBy e before (handed source mid disks n)
  faults_met e is not =
      elim (served_faults scheme tells words met before (handed source mid disks n) s) [
        | inl usage ↦ absurd (not (sym is ∙ usage.1))
        | inr faults ↦ subst (λ x. FaultsBy x before (handed source mid disks n)) is faults
      ]

  empty_line : (e : LedgerEnding) → f.ending ≡ e → last_line e ≡ [] → MeetsNone mid last
  empty_line e is none = no_last mid last (subst (λ l. WritesLast l mid last) (ap last_line is ∙ none) f.last)

  pub usage_only : status ≡ 1 → words ≡ None
  usage_only is =
      let e : f.ending ≡ Run run.Usage = is_usage f.ending (sym f.status_is ∙ is) in
      let m = was_met (Run run.Usage) e (λ same. let no : ⊥ = cc same in no) in
      elim (served_faults scheme tells words met before (handed source mid disks n) s) [
        | inl usage ↦ usage.0
        | inr faults ↦ absurd (subst (λ x. FaultsBy x before (handed source mid disks n)) m faults)
      ]

  pub usage_where : words ≡ None → status ≡ 1
  usage_where is =
      let m : met ≡ Run run.Usage = (subst (λ w. ServedBy scheme tells w met before (handed source mid disks n)) is s).0 in
      elim f.told [
        | inl same ↦ f.status_is ∙ ap status_of (same ∙ m)
        | inr none ↦ absurd (subst HasWords m none.1)
      ]

  pub done_met : status ≡ 0 → NothingFailed before (handed source last disks n)
  done_met is =
      let e : f.ending ≡ Run run.Done = is_done f.ending (sym f.status_is ∙ is) in
      let faults = faults_met (Run run.Done) (was_met (Run run.Done) e (λ same. let no : ⊥ = cc same in no)) (λ same. let no : ⊥ = cc same in no) in
      let none = empty_line (Run run.Done) e refl in record {
        source_is = faults.source_is;
        sink_is = (none.0 ∙ faults.sink_is.0, none.1 ∙ faults.sink_is.1);
        disks_are = faults.disks_are;
      }

  pub read_met : status ≡ 2 → source.faults ≡ count_after before.source.faults
  read_met is =
      let e : f.ending ≡ Run run.ReadFault = is_read f.ending (sym f.status_is ∙ is) in
      (faults_met (Run run.ReadFault) (was_met (Run run.ReadFault) e (λ same. let no : ⊥ = cc same in no)) (λ same. let no : ⊥ = cc same in no)).source_is

  pub write_met : status ≡ 3 → MeetsOne before.sink last
  write_met is =
      let e : f.ending ≡ Run run.WriteFault = is_write f.ending (sym f.status_is ∙ is) in
      let faults = faults_met (Run run.WriteFault) (was_met (Run run.WriteFault) e (λ same. let no : ⊥ = cc same in no)) (λ same. let no : ⊥ = cc same in no) in
      let none = empty_line (Run run.WriteFault) e refl in
      elim faults.sink_is [ inl x ↦ inl (none.0 ∙ x.0, none.1 ∙ x.1) | inr x ↦ inr (none.0 ∙ x.0, none.1 ∙ x.1) ]

  pub disk_met : status ≡ 4 → OneFailed before.disks disks
  disk_met is =
      let e : f.ending ≡ DiskFault = is_disk f.ending (sym f.status_is ∙ is) in
      (faults_met DiskFault (was_met DiskFault e (λ same. let no : ⊥ = cc same in no)) (λ same. let no : ⊥ = cc same in no)).disks_are

-- A run that a failing disk ends wrote whole lines alone.
use Rattle.std.proofs.Common.{◌≡◌, ℕ, inl, inr, true, List, [], Option, Some, refl, sym, subst, ap, ◌∙◌}
use Rattle.std.specs.Io.KnownBytes.{Appends}
use Rattle.ledger_io.specs.Outside.{SinkState}
use Rattle.ledger_io.specs.Runs.{AreWhole}
use Rattle.ledger_model.specs.History.{History}
use Rattle.ledger_model.specs.Scheme.{Scheme}
use Rattle.time_peg.specs.Entries.{IsList}
use Rattle.ledger_cli.specs.Runs.{Handed, Anything, StandFor, RunsAgain}
use Rattle.ledger_cli.specs.declared.ending.LedgerEnding.TheVariants.{DiskFault}

-- what was written to an empty sink is what the sink holds
all_written : (replies written : List ℕ) → Appends (Some []) (Some written) replies → AreWhole replies → AreWhole written
all_written replies written is whole = subst AreWhole (sym is) whole

-- nothing was written to a sink that holds the same
none_written : (written : List ℕ) → Some written ≡ Some [] → AreWhole written
none_written written is = inl (cc is)

pub none_cut : (scheme : Scheme) (before now : Handed) (h : History) (written : List ℕ) → RunsAgain scheme true Anything DiskFault before now → StandFor before.disks h
    → IsList before.notary.entries → before.sink.held ≡ Some [] → now.sink.held ≡ Some written → AreWhole written
none_cut scheme before now h written ran stands list old is =
    elim (ran.serves refl h stands list) [
      | inl on ↦
          all_written on.replies written (subst (λ (o : Option (List ℕ)). Appends (Some []) o on.replies) is (subst (λ (o : Option (List ℕ)). Appends o now.sink.held on.replies) old on.appended)) on.replied.0
      | inr un ↦ none_written written (sym is ∙ ap (λ (s : SinkState). s.held) un.unstarted.unwritten ∙ old)
    ]

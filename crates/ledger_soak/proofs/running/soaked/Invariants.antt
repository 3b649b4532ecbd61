use Rattle.std.proofs.Common.{◌≡◌}
use Rattle.ledger_soak.specs.Runs.{IsUnderway}
use Rattle.ledger_soak.proofs.running.soaked.Given as goal

abbrev pub invariant-loop-done : goal.invariant-loop-done
invariant-loop-done g l = record {
  underway : IsUnderway l.seed l.run;
  taken : l.run.taken ≡ l.done;
  stop : l.run.stop ≡ l.stop;
}

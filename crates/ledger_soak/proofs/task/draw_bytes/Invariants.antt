use Rattle.std.proofs.Common.{◌≡◌}
use Rattle.ledger_soak.specs.Tasks.{state_after, drawn_bytes}
use Rattle.ledger_soak.proofs.task.draw_bytes.Given as goal

abbrev pub invariant-loop-made : goal.invariant-loop-made
invariant-loop-made l = record {
  items : l.bytes.items ≡ drawn_bytes l.made l.fn.draws.state;
  state : l.draws.state ≡ state_after l.made l.fn.draws.state;
}

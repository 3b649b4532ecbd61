use Rattle.std.proofs.Common.{◌≡◌}
use Rattle.ledger_open.proofs.TakeLaws.{Went}
use Rattle.ledger_open.proofs.replaying.replay_records.Given as goal

abbrev pub invariant-loop-index : goal.invariant-loop-index
invariant-loop-index l = record {
  went : Went l.fn.book l.book l.records l.index;
  limits : l.book.limits ≡ l.fn.book.limits;
  floor : l.book.floor ≡ l.fn.book.floor;
  sealed : l.book.sealed ≡ l.fn.book.sealed;
}

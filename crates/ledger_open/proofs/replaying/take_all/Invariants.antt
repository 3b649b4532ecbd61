use Rattle.std.proofs.Common.{◌≡◌, drop}
use Rattle.ledger_open.proofs.AheadLaws.{Taken}
use Rattle.ledger_open.proofs.replaying.take_all.Given as goal

abbrev pub invariant-loop-block : goal.invariant-loop-block
invariant-loop-block l = record {
  taken : Taken l.fn.book l.fn.places.list l.book l.places.list l.fn.blocks (drop l.block-index l.fn.blocks);
  limits : l.book.limits ≡ l.fn.book.limits;
}

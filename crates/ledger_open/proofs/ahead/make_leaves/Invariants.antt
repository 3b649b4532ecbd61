use Rattle.std.proofs.Common.{◌≡◌, ℕ, ◌<◌, length, get_or}
use Rattle.block_file.specs.declared.block.RecordAt.{RecordAt}
use Rattle.ledger_book.specs.Steps.{IsLeafOf}
use Rattle.ledger_bytes.specs.declared.digest.Digest.{Digest}
use Rattle.ledger_open.proofs.ahead.make_leaves.Given as goal

abbrev pub invariant-loop-index : goal.invariant-loop-index
invariant-loop-index l = record {
  size : length l.leaves ≡ length l.records;
  each : (i : ℕ) (r : RecordAt) (d : Digest) → i < l.index → IsLeafOf (get_or l.records i r).header (get_or l.leaves i d);
}

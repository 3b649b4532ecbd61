use Rattle.std.proofs.Common.{◌≡◌, length, drop}
use Rattle.ledger_disk.proofs.Settling.{AgreesBut}
use Rattle.ledger_disk.proofs.pieces.copy_ranges.Given as goal

abbrev pub invariant-loop-range : goal.invariant-loop-range
invariant-loop-range l = record {
  size : length l.stable ≡ length l.bytes;
  agrees : AgreesBut (drop l.range-index l.ranges) l.stable l.bytes;
}

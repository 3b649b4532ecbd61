use Rattle.std.proofs.Common.{◌≡◌, take}
use Rattle.ledger_disk.specs.Generator.{is_written}
use Rattle.ledger_disk.proofs.torn.is_written.Given as goal

abbrev pub invariant-loop-range : goal.invariant-loop-range
invariant-loop-range l = l.written ≡ is_written l.at (take l.range-index l.ranges)

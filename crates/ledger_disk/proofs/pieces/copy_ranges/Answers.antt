use Rattle.ledger_disk.proofs.Settling.{agrees_all}
use Rattle.ledger_disk.proofs.pieces.copy_ranges.Goals as goal

pub returns : goal.returns
returns c = agrees_all c.args.ranges.now c.loop-range.range-index c.loop-range.stable c.args.bytes.now c.loop-range.invariant.size c.loop-range-test.false c.loop-range.invariant.agrees

use Rattle.std.proofs.Common.{arith}
use Rattle.ledger_open.proofs.purging.prepare_purge.Goals as goal

pub base_bytes-requires-clause-high : goal.base_bytes-requires-clause-high
base_bytes-requires-clause-high c = omega (arith, c.in-Some.ensures.0.point, c.in-Some.ensures.0.size)

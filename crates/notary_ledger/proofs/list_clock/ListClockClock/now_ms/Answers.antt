use Rattle.std.proofs.Common.{rules}
use Rattle.notary_ledger.proofs.list_clock.ListClockClock.now_ms.Goals as goal

pub returns-clause-among : goal.returns-clause-among
returns-clause-among c = (c.self.inside.answered, search rules)

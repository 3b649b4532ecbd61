use Rattle.std.proofs.Common.{length, ◌-◌}
use Rattle.ledger_cli.proofs.reviving.+put_survivors.Given as goal

abbrev pub decreases-put_survivors : goal.decreases-put_survivors
decreases-put_survivors g l = length l.set.now.survivors - l.first

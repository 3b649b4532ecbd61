use Rattle.std.proofs.Common.{refl}
use Rattle.batch_committer.proofs.WayLaws.{goes_same}
use Rattle.ledger_cli.proofs.desk.Desk.settle.Goals as goal

-- nothing was asked for
pub returns-then-not-is_asked-clause-ok : goal.returns-then-not-is_asked-clause-ok
returns-then-not-is_asked-clause-ok g c = record { goes = goes_same _ _; still = c.requires; notary = refl; board = refl }

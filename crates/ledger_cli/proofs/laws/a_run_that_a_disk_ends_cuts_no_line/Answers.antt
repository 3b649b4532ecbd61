use Rattle.ledger_cli.proofs.CutLaws.{none_cut}
use Rattle.ledger_cli.proofs.laws.a_run_that_a_disk_ends_cuts_no_line.Goals as goal

pub returns : goal.returns
returns c = none_cut

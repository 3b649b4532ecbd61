use Rattle.ledger_model.proofs.RunLaws.{run_lines}
use Rattle.ledger_model.proofs.laws.a_run_is_its_dues.Goals as goal

pub returns : goal.returns
returns c = run_lines

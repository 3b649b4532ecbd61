use Rattle.ledger_model.proofs.KeepLaws.{run_lawful, run_sound}
use Rattle.ledger_model.proofs.laws.each_run_keeps_the_rules.Goals as goal

pub returns-clause-lawful : goal.returns-clause-lawful
returns-clause-lawful c = run_lawful

pub returns-clause-sound : goal.returns-clause-sound
returns-clause-sound c = run_sound

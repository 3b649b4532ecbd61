use Rattle.ledger_model.proofs.KeepLaws.{job_lawful, job_sound}
use Rattle.ledger_model.proofs.laws.each_job_keeps_the_rules.Goals as goal

pub returns-clause-lawful : goal.returns-clause-lawful
returns-clause-lawful c = job_lawful

pub returns-clause-sound : goal.returns-clause-sound
returns-clause-sound c = job_sound

use Rattle.ledger_model.proofs.KeepLaws.{founded_lawful, founded_sound}
use Rattle.ledger_model.proofs.laws.new_ledgers_keep_the_rules.Goals as goal

pub returns-clause-lawful : goal.returns-clause-lawful
returns-clause-lawful c = founded_lawful

pub returns-clause-sound : goal.returns-clause-sound
returns-clause-sound c = founded_sound

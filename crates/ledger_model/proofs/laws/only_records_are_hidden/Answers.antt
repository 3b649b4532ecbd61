use Rattle.ledger_model.proofs.HideLaws.{hidden_record, first_shown}
use Rattle.ledger_model.proofs.laws.only_records_are_hidden.Goals as goal

pub returns-clause-records : goal.returns-clause-records
returns-clause-records c = λ h n lawful. hidden_record h n lawful.journals_are

pub returns-clause-first : goal.returns-clause-first
returns-clause-first c = λ h lawful. first_shown h lawful.journals_are

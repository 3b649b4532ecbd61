use Rattle.ledger_model.proofs.OnceLaws.{repeat_is, repeat_same, repeat_told, repeat_refused, taken_refused}
use Rattle.ledger_model.proofs.laws.a_repeat_is_told_its_record.Goals as goal

pub returns-clause-repeat : goal.returns-clause-repeat
returns-clause-repeat c = repeat_is

pub returns-clause-same : goal.returns-clause-same
returns-clause-same c = repeat_same

pub returns-clause-told : goal.returns-clause-told
returns-clause-told c = repeat_told

pub returns-clause-refused : goal.returns-clause-refused
returns-clause-refused c = repeat_refused

pub returns-clause-taken : goal.returns-clause-taken
returns-clause-taken c = taken_refused

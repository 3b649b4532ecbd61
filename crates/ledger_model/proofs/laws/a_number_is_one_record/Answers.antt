use Rattle.ledger_model.proofs.OnceLaws.{kept_record, numbered_as}
use Rattle.ledger_model.proofs.laws.a_number_is_one_record.Goals as goal

pub returns-clause-found : goal.returns-clause-found
returns-clause-found c = kept_record

pub returns-clause-only : goal.returns-clause-only
returns-clause-only c h member number n lawful some x = numbered_as h member number n lawful.journals_are some x

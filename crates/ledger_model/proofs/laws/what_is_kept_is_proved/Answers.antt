use Rattle.ledger_model.proofs.ProveLaws.{kept_is_proved, kept_is_extended, list_is_extended}
use Rattle.ledger_model.proofs.laws.what_is_kept_is_proved.Goals as goal

pub returns-clause-journals : goal.returns-clause-journals
returns-clause-journals c = kept_is_proved

pub returns-clause-ledger : goal.returns-clause-ledger
returns-clause-ledger c = kept_is_extended

pub returns-clause-notary : goal.returns-clause-notary
returns-clause-notary c = list_is_extended

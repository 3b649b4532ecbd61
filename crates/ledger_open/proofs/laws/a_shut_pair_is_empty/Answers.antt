use Rattle.ledger_open.proofs.OpenLaws.{shut_empty}
use Rattle.ledger_open.proofs.laws.a_shut_pair_is_empty.Goals as goal

pub returns : goal.returns
returns c = shut_empty

use Rattle.ledger_open.proofs.PairLaws.{one_image, one_pair}
use Rattle.ledger_open.proofs.laws.a_pair_stands_for_one_history.Goals as goal

pub returns-clause-image : goal.returns-clause-image
returns-clause-image c = one_image

pub returns-clause-pair : goal.returns-clause-pair
returns-clause-pair c = one_pair

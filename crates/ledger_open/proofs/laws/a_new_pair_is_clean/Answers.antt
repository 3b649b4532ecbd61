use Rattle.ledger_open.proofs.FoundingLaws.{founded_pair}
use Rattle.ledger_open.proofs.laws.a_new_pair_is_clean.Goals as goal

pub returns : goal.returns
returns c = founded_pair

use Rattle.ledger_open.proofs.CauseLaws.{one_cause}
use Rattle.ledger_open.proofs.laws.a_pair_has_one_cause_of_refusal.Goals as goal

pub returns : goal.returns
returns c = one_cause

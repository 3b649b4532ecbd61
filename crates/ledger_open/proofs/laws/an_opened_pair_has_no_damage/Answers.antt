use Rattle.ledger_open.proofs.CarryLaws.{reopened_only}
use Rattle.ledger_open.proofs.laws.an_opened_pair_has_no_damage.Goals as goal

pub returns : goal.returns
returns c k in_a start blocks a b a_new b_new e r = reopened_only k in_a start blocks a b a_new b_new r e

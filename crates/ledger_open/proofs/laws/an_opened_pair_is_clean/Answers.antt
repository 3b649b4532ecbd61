use Rattle.ledger_open.proofs.CarryLaws.{reopened_for, reopened_tidy, left_clean}
use Rattle.ledger_open.proofs.laws.an_opened_pair_is_clean.Goals as goal

pub returns-clause-history : goal.returns-clause-history
returns-clause-history c k in_a start blocks a b a_new b_new h knows r p = reopened_for k in_a start blocks a b a_new b_new r h p

pub returns-clause-tidy : goal.returns-clause-tidy
returns-clause-tidy c k in_a start blocks a b a_new b_new knows r = reopened_tidy k in_a start blocks a b a_new b_new r knows

pub returns-clause-left : goal.returns-clause-left
returns-clause-left c k in_a start blocks a b a_new b_new h r clean = left_clean k in_a start blocks a b a_new b_new r h clean

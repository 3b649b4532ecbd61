use Rattle.ledger_open.proofs.CarryLaws.{pair_served}
use Rattle.ledger_open.proofs.laws.an_opened_book_stands_for_the_history.Goals as goal

pub returns : goal.returns
returns c k in_a start blocks a b a_new b_new h knows r p = pair_served k in_a start blocks a b a_new b_new r h p

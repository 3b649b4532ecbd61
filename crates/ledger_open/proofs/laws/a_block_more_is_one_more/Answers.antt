use Rattle.ledger_open.proofs.GrowLaws.{grows, grows_erased}
use Rattle.ledger_open.proofs.laws.a_block_more_is_one_more.Goals as goal

pub returns-clause-stands : goal.returns-clause-stands
returns-clause-stands c image new h block x n = grows image new h block x n.entries n.shape n.next

pub returns-clause-erased : goal.returns-clause-erased
returns-clause-erased c image new h block x n = grows_erased image new h block x n.entries n.shape n.next

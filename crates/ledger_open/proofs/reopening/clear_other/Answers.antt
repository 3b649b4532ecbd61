use Rattle.std.proofs.Common.{true, false}
use Rattle.twin_file.proofs.OpenLaws.{front_at}
use Rattle.ledger_open.proofs.reopening.clear_other.Goals as goal

pub returns-in_ok-clear-clause-front : goal.returns-in_ok-clear-clause-front
returns-in_ok-clear-clause-front g c told = front_at true _ _ _ _ c.if-in_a.true (c.clear.ensures.front told)

pub returns-in_err-clear-clause-front : goal.returns-in_err-clear-clause-front
returns-in_err-clear-clause-front g c told = front_at true _ _ _ _ c.if-in_a.true (c.clear.ensures.front told)

pub returns-in_ok-clear-2-clause-front : goal.returns-in_ok-clear-2-clause-front
returns-in_ok-clear-2-clause-front g c told = front_at false _ _ _ _ c.if-in_a.false (c.clear-else-in_a.ensures.front told)

pub returns-in_err-clear-2-clause-front : goal.returns-in_err-clear-2-clause-front
returns-in_err-clear-2-clause-front g c told = front_at false _ _ _ _ c.if-in_a.false (c.clear-else-in_a.ensures.front told)

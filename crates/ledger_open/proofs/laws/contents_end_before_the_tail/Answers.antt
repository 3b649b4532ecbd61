use Rattle.ledger_open.proofs.FinishLaws.{places_inside}
use Rattle.ledger_open.proofs.laws.contents_end_before_the_tail.Goals as goal

pub returns : goal.returns
returns c k start blocks knows = places_inside k blocks knows

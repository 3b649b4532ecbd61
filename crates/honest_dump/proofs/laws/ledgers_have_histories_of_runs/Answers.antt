use Rattle.honest_dump.proofs.Fewer.{new_is, more_is}
use Rattle.honest_dump.proofs.laws.ledgers_have_histories_of_runs.Goals as goal

pub returns-clause-new : goal.returns-clause-new
returns-clause-new c scheme genesis keys = new_is scheme genesis keys

pub returns-clause-more : goal.returns-clause-more
returns-clause-more c scheme h run is left took = more_is scheme h run is left took

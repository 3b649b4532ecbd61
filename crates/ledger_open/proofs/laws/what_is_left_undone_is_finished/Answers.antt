use Rattle.ledger_open.proofs.EndLaws.{occult_finished, purge_finished}
use Rattle.ledger_open.proofs.laws.what_is_left_undone_is_finished.Goals as goal

pub returns-clause-occult : goal.returns-clause-occult
returns-clause-occult c = occult_finished

pub returns-clause-purge : goal.returns-clause-purge
returns-clause-purge c = purge_finished

use Rattle.batch_committer.proofs.Opening.{opened_held, opened_fits, opened_room}
use Rattle.batch_committer.proofs.laws.an_opened_ledger_is_held.Goals as goal

pub returns-clause-held : goal.returns-clause-held
returns-clause-held c = opened_held

pub returns-clause-fits : goal.returns-clause-fits
returns-clause-fits c = opened_fits

pub returns-clause-room : goal.returns-clause-room
returns-clause-room c = opened_room

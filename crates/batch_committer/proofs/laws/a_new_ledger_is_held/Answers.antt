use Rattle.batch_committer.proofs.Opening.{founded_held, founded_fits}
use Rattle.batch_committer.proofs.laws.a_new_ledger_is_held.Goals as goal

pub returns-clause-held : goal.returns-clause-held
returns-clause-held c = founded_held

pub returns-clause-fits : goal.returns-clause-fits
returns-clause-fits c = founded_fits

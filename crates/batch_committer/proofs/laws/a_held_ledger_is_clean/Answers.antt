use Rattle.batch_committer.proofs.Grouped.{stored_whole}
use Rattle.batch_committer.proofs.Opening.{held_quiet}
use Rattle.batch_committer.proofs.laws.a_held_ledger_is_clean.Goals as goal

pub returns-clause-clean : goal.returns-clause-clean
returns-clause-clean c = held_quiet

pub returns-clause-whole : goal.returns-clause-whole
returns-clause-whole c = stored_whole

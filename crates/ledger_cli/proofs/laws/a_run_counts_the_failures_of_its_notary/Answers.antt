use Rattle.ledger_cli.proofs.NotaryLaws.{all_counted, taken_begins, some_counted}
use Rattle.ledger_cli.proofs.laws.a_run_counts_the_failures_of_its_notary.Goals as goal

pub returns-clause-counted : goal.returns-clause-counted
returns-clause-counted c scheme h lines replies first last a = all_counted scheme h first last a.steps a.took

pub returns-clause-stopped : goal.returns-clause-stopped
returns-clause-stopped c scheme h windows first last t = (taken_begins scheme h first last windows t, some_counted scheme h first last windows t)

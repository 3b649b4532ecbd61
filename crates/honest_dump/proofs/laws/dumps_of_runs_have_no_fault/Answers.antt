use Rattle.dump_model.specs.Shown.{ledger_dump}
use Rattle.honest_dump.proofs.Joined.{all_good, clean, clean_report, never_fails, passes_all}
use Rattle.honest_dump.proofs.laws.dumps_of_runs_have_no_fault.Goals as goal

pub returns-clause-journals : goal.returns-clause-journals
returns-clause-journals c scheme h entries run = all_good scheme h run entries

pub returns-clause-checks : goal.returns-clause-checks
returns-clause-checks c scheme h entries run pegged check = passes_all scheme h run entries pegged check

pub returns-clause-report : goal.returns-clause-report
returns-clause-report c scheme h entries run pegged = (clean_report (ledger_dump h entries), clean scheme h run entries pegged)

pub returns-clause-no_fault : goal.returns-clause-no_fault
returns-clause-no_fault c scheme h entries report run pegged is = never_fails scheme h run entries pegged report is

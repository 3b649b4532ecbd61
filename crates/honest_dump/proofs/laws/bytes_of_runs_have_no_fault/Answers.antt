use Rattle.dump_model.specs.Shown.{ledger_dump}
use Rattle.honest_dump.proofs.Joined.{bytes_never_fail, clean_bytes, clean_report}
use Rattle.honest_dump.proofs.laws.bytes_of_runs_have_no_fault.Goals as goal

pub returns-clause-report : goal.returns-clause-report
returns-clause-report c scheme h entries run pegged = (clean_report (ledger_dump h entries), clean_bytes scheme h run entries pegged)

pub returns-clause-no_fault : goal.returns-clause-no_fault
returns-clause-no_fault c scheme h entries report run pegged is = bytes_never_fail scheme h run entries pegged report is

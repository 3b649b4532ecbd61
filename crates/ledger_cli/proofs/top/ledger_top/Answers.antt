use Rattle.ledger_cli.proofs.TopLaws.{done_met, read_met, write_met, disk_met}
use Rattle.ledger_cli.proofs.top.ledger_top.Goals as goal

pub returns-clause-done : goal.returns-clause-done
returns-clause-done g c = done_met _ _ _ _ c.run_words-met.result _ _ _ _ _ _ c.run_words-met.ensures c.finish_run.ensures

pub returns-clause-read_fault : goal.returns-clause-read_fault
returns-clause-read_fault g c = read_met _ _ _ _ c.run_words-met.result _ _ _ _ _ _ c.run_words-met.ensures c.finish_run.ensures

pub returns-clause-write_fault : goal.returns-clause-write_fault
returns-clause-write_fault g c = write_met _ _ _ _ c.run_words-met.result _ _ _ _ _ _ c.run_words-met.ensures c.finish_run.ensures

pub returns-clause-disk_fault : goal.returns-clause-disk_fault
returns-clause-disk_fault g c = disk_met _ _ _ _ c.run_words-met.result _ _ _ _ _ _ c.run_words-met.ensures c.finish_run.ensures

use Rattle.ledger_model.proofs.CountLaws.{script_counted}
use Rattle.ledger_model.proofs.FitLaws.{run_fits}
use Rattle.ledger_model.proofs.laws.the_replies_of_a_run_fit.Goals as goal

pub returns-clause-replies : goal.returns-clause-replies
returns-clause-replies c = run_fits

pub returns-clause-steps : goal.returns-clause-steps
returns-clause-steps c = script_counted

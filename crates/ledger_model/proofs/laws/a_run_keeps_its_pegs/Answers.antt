use Rattle.ledger_model.proofs.PegLaws.{pegged_steps, pegged_windows, pegged_close, pegged_longer, pegged_between, pegged_fewer, pegged_new}
use Rattle.ledger_model.proofs.laws.a_run_keeps_its_pegs.Goals as goal

pub returns-clause-steps : goal.returns-clause-steps
returns-clause-steps c = pegged_steps

pub returns-clause-windows : goal.returns-clause-windows
returns-clause-windows c = pegged_windows

pub returns-clause-ended : goal.returns-clause-ended
returns-clause-ended c = pegged_close

pub returns-clause-longer : goal.returns-clause-longer
returns-clause-longer c = λ h es more list p. pegged_longer h es more list p

pub returns-clause-between : goal.returns-clause-between
returns-clause-between c = pegged_between

pub returns-clause-fewer : goal.returns-clause-fewer
returns-clause-fewer c = pegged_fewer

pub returns-clause-new : goal.returns-clause-new
returns-clause-new c = pegged_new

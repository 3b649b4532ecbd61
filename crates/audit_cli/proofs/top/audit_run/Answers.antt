use Rattle.audit_cli.proofs.TopLaws.{run_sound}
use Rattle.audit_cli.proofs.top.audit_run.Goals as goal

pub returns-clause-ran : goal.returns-clause-ran
returns-clause-ran g c = record {
  ending = c.run_script-ending.result;
  status_is = c.finish.ensures.status;
  started = c.run_script-ending.ensures.started;
  ran = record { sink = _; served = c.run_script-ending.ensures.served; last = c.finish.ensures.last };
}

pub returns-clause-sound : goal.returns-clause-sound
returns-clause-sound g c zero_is = run_sound _ _ _ _ (returns-clause-ran g c) zero_is

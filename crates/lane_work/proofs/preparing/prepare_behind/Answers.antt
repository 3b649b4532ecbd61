use Rattle.std.proofs.Common.{ℕ, Result, Ok, Err, ap, ◌∙◌}
use Rattle.ledger_bytes.specs.declared.refusal.Refusal.{Refusal}
use Rattle.script_lines.specs.declared.line.Line.{Line}
use Rattle.lane_work.proofs.JobLaws.{job_asked}
use Rattle.lane_work.proofs.preparing.prepare_behind.Goals as goal
use Rattle.lane_work.proofs.preparing.prepare_behind.Goals.{in-Ok+in_ok-job-in-Ok, in-Err}

pub returns-clause-job : goal.returns-clause-job
returns-clause-job g c =
    let said = c.in_ok-lane.field-0 in
    elim c.match-what.branch [
      | in-Ok+in_ok-job-in-Ok w ↦ w.job-is ∙ (w.in_ok-job-in-Ok.ensures.job ∙ job_asked _ c.args.id.now.0 c.args.line.now said.lane said.what (Ok w.in-Ok.line) c.in_ok-lane.ensures w.in-Ok.is)
      | in-Err w ↦ w.job-is ∙ job_asked _ c.args.id.now.0 c.args.line.now said.lane said.what (Err w.in-Err.refusal) c.in_ok-lane.ensures w.in-Err.is
    ]

pub returns-clause-lane : goal.returns-clause-lane
returns-clause-lane g c = ap (λ (said : ℕ × Result Line Refusal). said.0) c.in_ok-lane.ensures

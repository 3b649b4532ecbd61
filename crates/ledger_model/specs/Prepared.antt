-- The jobs of a window's lines, prepared with the ledger's id at the window's start.
use Rattle.std.specs.Prelude.{ℕ, List, [], ◌∷◌, map}
use Rattle.ledger_model.specs.Dues.{due_of}
use Rattle.ledger_model.specs.History.{History}
use Rattle.ledger_model.specs.Rules.{job_of, after_job}
use Rattle.ledger_model.specs.Scheme.{Scheme}
use Rattle.ledger_model.specs.Step.{Step}
use Rattle.ledger_model.specs.declared.due.Due.{Due}
use Rattle.ledger_model.specs.declared.job.Job.{Job}

-- a step of a line with the job that was prepared of it
pub record PreparedJob : Type 0 where
  pub step : Step
  pub job : Job

-- the item of this step and this job
abbrev pub item : Step → Job → PreparedJob
item step job = record { step = step; job = job }

-- Steps with the jobs that their lines ask for, on the ledger with this id. `a_window_is_its_lines` says that the id at a
-- window's start does for all of its lines.
abbrev pub prepared_items : Scheme → List ℕ → List Step → List PreparedJob
prepared_items scheme id steps = map (λ step. item step (job_of scheme id step.line)) steps

-- the history after some prepared jobs, one after the other
abbrev pub after_jobs : History → List PreparedJob → History
after_jobs h [] = h
after_jobs h (item ∷ items) = after_jobs (after_job h item.step item.job) items

-- the answers to some prepared jobs, each judged against the history that the one before it left
abbrev pub job_dues : History → List PreparedJob → List Due
job_dues h [] = []
job_dues h (item ∷ items) =
    due_of h item.step item.job ∷ job_dues (after_job h item.step item.job) items

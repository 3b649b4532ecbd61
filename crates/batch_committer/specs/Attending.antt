-- How the notary takes part in a committer's steps.
use Rattle.std.specs.Prelude.{◌≡◌, ◌⊎◌, ℕ, Bool, true, if◌then◌else◌, List, [], ◌∷◌}
use Rattle.ledger_bytes.specs.Causes.{count_after}
use Rattle.time_peg.specs.Entries.{NotaryState}
use Rattle.ledger_model.specs.Anchors.{stamp_of}
use Rattle.ledger_model.specs.Dues.{due_of}
use Rattle.ledger_model.specs.Limits.{real_limits}
use Rattle.ledger_model.specs.Outcomes.{with_job}
use Rattle.ledger_model.specs.declared.answer.Answer.{Answer}
use Rattle.ledger_model.specs.History.{History}
use Rattle.ledger_model.specs.Notary.{AttendsJob}
use Rattle.ledger_model.specs.Rules.{judged_at, after_job}
use Rattle.ledger_model.specs.Step.{Step}
use Rattle.ledger_model.specs.declared.job.Job.{Job}
use Rattle.ledger_model.specs.declared.job.Job.TheVariants.{Anchor}
use Rattle.batch_committer.specs.Steps.{due_by, Judged}
use Rattle.batch_committer.specs.World.{CommitterState, World, Keeps, Holds, Goes, EndsOnTheWay}
use Rattle.batch_committer.specs.declared.failure.CommitErr.{CommitErr}

-- the step of a line of a lane with this number there, where the notary went from one state to the other, and failed or not
abbrev pub step_in : NotaryState → NotaryState → Bool → ℕ → ℕ → List ℕ → Step
step_in n m failed lane index line =
    record { lane = lane; index = index; line = line; failed = failed; before = n.entries; after = m.entries }

-- the notary took part in the step of a job that is judged against g: its list changed as the job asks for, it failed only where
-- the job calls it, its count of faults is one more exactly where it failed, and what stays of it stayed
pub record Attended (n m : NotaryState) (g : History) (step : Step) (job : Job) : Type 0 where
  pub list : AttendsJob g n.origin.making step job
  pub origin : m.origin ≡ n.origin
  pub count : m.faults ≡ (if step.failed then count_after n.faults else n.faults)

-- the notary failed at most once in a call, a failure is counted, and what stays of it stayed; this is said of a ledger of which
-- nothing is known as well
abbrev pub FailsAtMostOnce : NotaryState → NotaryState → Type 0
FailsAtMostOnce n m = (m.origin ≡ n.origin) × ((m.faults ≡ n.faults) ⊎ (m.faults ≡ count_after n.faults))

-- a call took a job: it led from each history to the one after the job's step, and the notary took part in that step
pub record TakesJob (tells : Bool) (w t : World) (n m : NotaryState) (step : Step) (job : Job) : Type 0 where
  pub goes : Goes tells w (λ h. after_job h step job) (λ h. due_of h step job ∷ []) t
  pub attended : (h : History) → Holds tells w h → Attended n m (judged_at h job) step job

-- a call ended the run at a job, in whose step the notary took part
pub record EndsAt (tells : Bool) (w t : World) (n m : NotaryState) (step : Step) (job : Job) (end : CommitErr) : Type 0 where
  pub ended : EndsOnTheWay tells w (λ h. after_job h step job) (λ h. due_of h step job ∷ []) end t
  pub attended : (h : History) → Holds tells w h → Attended n m (judged_at h job) step job

-- a call ended the run at an anchor for which the notary didn't answer: its step stands as one that failed, which isn't
-- counted, and nothing is due for it
pub record EndsUnasked (tells : Bool) (w t : World) (n m : NotaryState) (step : Step) (job : Job) (end : CommitErr) : Type 0 where
  pub ended : EndsOnTheWay tells w (λ h. after_job h step job) (λ h. []) end t
  pub anchor : job ≡ Anchor
  pub same : m ≡ n

-- a call ended the run at a line with this lane and number, whatever its bytes are: the notary took part in its step, or it
-- is an anchor for which the notary didn't answer
abbrev pub EndsTaking : Bool → World → World → NotaryState → NotaryState → ℕ → ℕ → Job → CommitErr → Type 0
EndsTaking tells w t n m lane index job end =
    ((failed : Bool) × ((line : List ℕ) → EndsAt tells w t n m (step_in n m failed lane index line) job end))
    ⊎ ((line : List ℕ) → EndsUnasked tells w t n m (step_in n m true lane index line) job end)

-- ---- within a call: the judgement of a job, in front of which the open block has ended where the job asks for that

-- a job was judged against h within a call, and the notary took part in its step
pub record JudgedBy (new : CommitterState) (n m : NotaryState) (h : History) (step : Step) (job : Job) (answer : Answer) : Type 0 where
  pub judged : Judged new h step job answer
  pub attended : Attended n m h step job

-- within a call a job was judged, the notary took part in its step, and what is due for it was kept
pub record TakesIn (tells : Bool) (w t : World) (n m : NotaryState) (step : Step) (job : Job) : Type 0 where
  pub goes : Goes tells w (λ g. with_job real_limits (stamp_of step) g job) (λ g. due_by g step job ∷ []) t
  pub attended : (g : History) → Holds tells w g → Attended n m g step job

-- memory was short, or a disk failed, before a job's answer was there: the notary took part, or it didn't answer to an anchor
abbrev pub EndsAsking : CommitterState → NotaryState → NotaryState → Job → Type 0
EndsAsking old n m job =
    ((failed : Bool) × ((h : History) (lane index : ℕ) (line : List ℕ) → Keeps old h → Attended n m h (step_in n m failed lane index line) job))
    ⊎ ((job ≡ Anchor) × (m ≡ n))

-- within a call the run ended at the judgement of a job, in whose step the notary took part
pub record EndsInAt (tells : Bool) (w t : World) (n m : NotaryState) (step : Step) (job : Job) (end : CommitErr) : Type 0 where
  pub ended : EndsOnTheWay tells w (λ g. with_job real_limits (stamp_of step) g job) (λ g. due_by g step job ∷ []) end t
  pub attended : (g : History) → Holds tells w g → Attended n m g step job

-- within a call the run ended at the judgement of an anchor for which the notary didn't answer, and nothing is due for it
pub record EndsInUnasked (tells : Bool) (w t : World) (n m : NotaryState) (step : Step) (job : Job) (end : CommitErr) : Type 0 where
  pub ended : EndsOnTheWay tells w (λ g. with_job real_limits (stamp_of step) g job) (λ g. []) end t
  pub anchor : job ≡ Anchor
  pub same : m ≡ n

-- within a call the run ended at the judgement of a line with this lane and number, whatever its bytes are: the notary took
-- part in its step, or it is an anchor for which the notary didn't answer
abbrev pub EndsIn : Bool → World → World → NotaryState → NotaryState → ℕ → ℕ → Job → CommitErr → Type 0
EndsIn tells w t n m lane index job end =
    ((failed : Bool) × ((line : List ℕ) → EndsInAt tells w t n m (step_in n m failed lane index line) job end))
    ⊎ ((line : List ℕ) → EndsInUnasked tells w t n m (step_in n m true lane index line) job end)

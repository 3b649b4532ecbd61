-- How the notary takes part in a run of steps, with its list and its count of failures.
use Rattle.std.specs.Prelude.{◌≡◌, ℕ, false, if◌then◌else◌, List, [], ◌∷◌, ◌++◌, Option, ⊤}
use Rattle.ledger_bytes.specs.Causes.{count_after}
use Rattle.time_peg.specs.Entries.{NotaryState, Making, IsMade, entry_of}
use Rattle.ledger_model.specs.History.{History, id}
use Rattle.ledger_model.specs.Notary.{Attends, calls}
use Rattle.ledger_model.specs.Rules.{job_of, judged_at, after_step, after_window}
use Rattle.ledger_model.specs.Scheme.{Scheme}
use Rattle.ledger_model.specs.Step.{Step}

-- a count of failures after some steps: one more for each in which the notary failed
abbrev pub counts_after : List Step → ℕ → ℕ
counts_after [] n = n
counts_after (step ∷ steps) n = counts_after steps (if step.failed then count_after n else n)

-- what the notary has after a step: the list that the step left, and one failure more where it failed
abbrev pub notary_after : NotaryState → Step → NotaryState
notary_after n step = record { origin = n.origin; entries = step.after; faults = if step.failed then count_after n.faults else n.faults }

-- none of the steps that h takes calls the notary in a way that may fail
abbrev pub NoneCall : Scheme → History → List Step → Type 0
NoneCall scheme h [] = ⊤
NoneCall scheme h (step ∷ steps) =
    (let job = job_of scheme (id h) step.line in calls (judged_at h job) step.before job ≡ false) × NoneCall scheme (after_step scheme h step) steps

-- Along the steps that h takes the notary goes from state n to state m: each step begins with the list that the one before
-- it left, changes it as its line allows, and each failure is counted (`the_notary_is_attended`).
-- Example: n has 5 entries and no failure. An accepted anchor adds entry 5, and at the `head` behind it the notary fails.
-- The steps have the lists 5 to 6 and 6 to 6, the second has failed, and m has 6 entries and one failure.
abbrev pub Took : Scheme → History → NotaryState → List Step → NotaryState → Type 0
Took scheme h n [] m = m ≡ n
Took scheme h n (step ∷ steps) m =
    (step.before ≡ n.entries) × Attends scheme h n.origin.making step × Took scheme (after_step scheme h step) (notary_after n step) steps m

-- along windows of steps the notary goes from one state to another: its state at the end of one is the next one's first
abbrev pub TookAll : Scheme → History → NotaryState → List (List Step) → NotaryState → Type 0
TookAll scheme h n [] m = m ≡ n
TookAll scheme h n (window ∷ windows) m =
    (between : NotaryState) × Took scheme h n window between × TookAll scheme (after_window scheme h window) between windows m

-- an entry behind a list, with any peg, made as the notary makes them
abbrev pub IsEntry : Option Making → List (List ℕ) → List ℕ → Type 0
IsEntry making old e = (time : ℕ) × (peg : List ℕ) × (salt : List ℕ) × (e ≡ entry_of time peg salt) × IsMade making old time salt

-- entries behind a list of which each is made as the notary makes them
abbrev pub AreMade : Option Making → List (List ℕ) → List (List ℕ) → Type 0
AreMade making old [] = ⊤
AreMade making old (e ∷ es) = IsEntry making old e × AreMade making (old ++ e ∷ []) es

-- a list goes on from another one with entries that the notary makes
abbrev pub GoesOnMade : Option Making → List (List ℕ) → List (List ℕ) → Type 0
GoesOnMade making old new = (more : List (List ℕ)) × (new ≡ old ++ more) × AreMade making old more

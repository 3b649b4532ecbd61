-- What a step does to a history: what judges it, what it places, and which blocks it ends.
use Rattle.std.specs.Prelude.{ℕ, ◌||◌, Bool, true, false, if◌then◌else◌, List, [], ◌∷◌, length, nat_le, Result, Ok, Err}
use Rattle.ledger_bytes.specs.declared.limits.TheConstants.{BLOCK_LIMIT}
use Rattle.ledger_bytes.specs.declared.refusal.Refusal.{Refusal}
use Rattle.script_lines.specs.Grammar.{spoken_line}
use Rattle.script_lines.specs.declared.line.Line.{Line}
use Rattle.script_lines.specs.declared.line.Line.TheVariants as line
use Rattle.ledger_model.specs.Anchors.{stamp_of}
use Rattle.ledger_model.specs.Appends.{append_with, member_job, occult_job, clue_occult_job, purge_job, clue_of}
use Rattle.ledger_model.specs.History.{History, id, close}
use Rattle.ledger_model.specs.Limits.{real_limits}
use Rattle.ledger_model.specs.Outcomes.{with_job}
use Rattle.ledger_model.specs.Scheme.{Scheme}
use Rattle.ledger_model.specs.Step.{Step}
use Rattle.ledger_model.specs.declared.job.Job.{Job}
use Rattle.ledger_model.specs.declared.job.Job.TheVariants.{Refused, Append, NewMember, Anchor, Occult, OccultClue, Purge, Ask}
use Rattle.ledger_model.specs.declared.outcome.Query.TheVariants.{Get, Prove, Extend, Clue, Head}

-- what a line that was read asks for, on the ledger with this id: one equation for each verb, and a refusal where it wasn't
-- read
abbrev pub job_for : Scheme → List ℕ → Result Line Refusal → Job
job_for scheme id (Err refusal) = Refused refusal
job_for scheme id (Ok (line.Append member clue content proof number)) = append_with scheme id member (clue_of clue) content proof number
job_for scheme id (Ok (line.NewMember number key proof)) = member_job scheme id number key proof
job_for scheme id (Ok line.Anchor) = Anchor
job_for scheme id (Ok (line.Occult target leaf given)) = occult_job scheme id target leaf given
job_for scheme id (Ok (line.OccultClue name count given)) = clue_occult_job scheme id name count given
job_for scheme id (Ok (line.Purge p told given)) = purge_job scheme id p told given
job_for scheme id (Ok (line.Get n)) = Ask (Get n)
job_for scheme id (Ok (line.Prove n)) = Ask (Prove n)
job_for scheme id (Ok (line.Extend which m)) = Ask (Extend which m)
job_for scheme id (Ok (line.Clue name)) = Ask (Clue (clue_of name))
job_for scheme id (Ok line.Head) = Ask Head

-- what the bytes of a line ask for, on the ledger with this id
unfoldable pub job_of : Scheme → List ℕ → List ℕ → Job
job_of scheme id line = job_for scheme id (spoken_line line).1

-- whether a job ends the open block before it is judged
abbrev pub closes_before : Job → Bool
closes_before (Refused refusal) = false
closes_before (Append member clue content content_digest request by who number) = false
closes_before (NewMember number key by) = false
closes_before other = true

-- whether a job's journal is a block of its own
abbrev pub closes_after : Job → Bool
closes_after Anchor = true
closes_after (Occult target leaf given) = true
closes_after (OccultClue clue count given) = true
closes_after (Purge p told given) = true
closes_after other = false

-- the history that a job is judged against: the open block ends first where the job asks for that
abbrev pub judged_at : History → Job → History
judged_at h job = if closes_before job then close h else h

-- the history in which a job is done: the open block ends where it is full, or where the job's journal is a block of its own
abbrev pub settled_history : Job → History → History
settled_history job h = if closes_after job || nat_le BLOCK_LIMIT (length h.waiting) then close h else h

-- The history after a job, in three steps: 1. The open block ends where the job asks for that (`judged_at`). 2. The job is
-- judged, and its journal waits where it is accepted (`with_job`). 3. The block ends where it is full, or the job's own
-- (`settled_history`).
-- Example: blocks [0], journal 1 waits. An accepted record leaves [0] with 1 and 2 waiting. An anchor that gets its stamp
-- leaves [0] [1] [2]. `head` leaves [0] [1], and so does an anchor that gets none.
unfoldable pub after_job : History → Step → Job → History
after_job h step job = settled_history job (with_job real_limits (stamp_of step) (judged_at h job) job)

-- the history after a line was taken: after the job that it asks for on this ledger
unfoldable pub after_step : Scheme → History → Step → History
after_step scheme h step = after_job h step (job_of scheme (id h) step.line)

-- the history after some lines were taken one after the other, where the window hasn't ended
abbrev pub after_steps : Scheme → History → List Step → History
after_steps scheme h [] = h
after_steps scheme h (step ∷ steps) = after_steps scheme (after_step scheme h step) steps

-- the history after all lines of a window were taken, at whose end the open block ends
abbrev pub after_window : Scheme → History → List Step → History
after_window scheme h steps = close (after_steps scheme h steps)

-- the history after some windows, one after the other
abbrev pub after : Scheme → History → List (List Step) → History
after scheme h [] = h
after scheme h (window ∷ windows) = after scheme (after_window scheme h window) windows

-- The jobs of a soak as they went, one after the other.
use Rattle.std.specs.Prelude.{◌≡◌, ◌⊎◌, ℕ, ◌+◌, ◌&&◌, Bool, true, false, not, if◌then◌else◌, List, [], ◌∷◌, codes, ⊤}
use Rattle.journal_record.specs.Tags.{tag_key_of}
use Rattle.script_lines.specs.declared.reply.Reply.{Reply as AnyReply}
use Rattle.script_lines.specs.declared.reply.Reply.TheVariants.{Proof, Refused}
use Rattle.ledger_model.specs.History.{History, id, size}
use Rattle.ledger_model.specs.Notary.{Attends}
use Rattle.ledger_model.specs.Rules.{job_of, after_window}
use Rattle.ledger_model.specs.Step.{Step}
use Rattle.ledger_model.specs.Texts.{answer_to}
use Rattle.ledger_model.specs.declared.answer.Answer.{Answer}
use Rattle.ledger_model.specs.declared.answer.Answer.TheVariants.{Reply, Receipt}
use Rattle.ledger_model.specs.declared.genesis.Genesis.{Genesis}
use Rattle.notary_ledger.specs.Notaries.{memory_origin}
use Rattle.ledger_soak.specs.Lines.{key_of, job_line}
use Rattle.ledger_soak.specs.Tasks.{task_drawn, state_behind}

-- the name and the keys that every soak makes its ledger of
abbrev pub soak_genesis : Genesis
soak_genesis = record { name = codes "soak"; operator = key_of 0; regulator = key_of 1 }

-- How a job went: it was answered, or it was in hand at a stop. Of one in hand the image has what it places, or hasn't.
pub data Fate : Type 0 where
  answered : Fate
  kept_in_hand : Fate
  lost_in_hand : Fate

-- a job was in hand at a stop, whether its entry was kept or not
abbrev pub was_in_hand : Fate → Bool
was_in_hand answered = false
was_in_hand kept_in_hand = true
was_in_hand lost_in_hand = true

-- a job, which is a window of one line: its step, and how it went
pub record Turn : Type 0 where
  pub step : Step
  pub fate : Fate

-- where a soak stands between two jobs: the generator's state, the history, the notary's list, and whether the job before was
-- in hand at a stop
pub record Stage : Type 0 where
  pub draws : ℕ
  pub history : History
  pub entries : List (List ℕ)
  pub stopped : Bool

-- the history behind a job, by how it went
abbrev pub after_turn : Fate → History → Step → History
after_turn answered h step = after_window tag_key_of h (step ∷ [])
after_turn kept_in_hand h step = after_window tag_key_of h (step ∷ [])
after_turn lost_in_hand h step = h

-- The notary took part in the step of a job as its line wants. In one that was in hand, and of which the image has nothing, it
-- may have had no part.
abbrev pub TakesPart : Fate → History → Step → Type 0
TakesPart answered h step = Attends tag_key_of h memory_origin.making step
TakesPart kept_in_hand h step = Attends tag_key_of h memory_origin.making step
TakesPart lost_in_hand h step = (step.after ≡ step.before) ⊎ Attends tag_key_of h memory_origin.making step

-- The line of a job is what is drawn there, the first of lane 0. The notary goes on from its list, and doesn't fail. Without fuses, and
-- right behind a stop, each job is answered.
pub record IsTurn (stop : ℕ) (s : Stage) (t : Turn) : Type 0 where
  pub line_is : t.step.line ≡ job_line (task_drawn s.draws (size s.history)) s.history
  pub lane_is : t.step.lane ≡ 0
  pub index_is : t.step.index ≡ 1
  pub list_is : t.step.before ≡ s.entries
  pub unfailed : t.step.failed ≡ false
  pub part : TakesPart t.fate s.history t.step
  pub unfused : stop ≡ 0 → t.fate ≡ answered
  pub first : s.stopped ≡ true → t.fate ≡ answered

-- where a soak stands behind one job more
abbrev pub next_stage : Stage → Turn → Stage
next_stage s t = record {
  draws = state_behind s.draws;
  history = after_turn t.fate s.history t.step;
  entries = t.step.after;
  stopped = was_in_hand t.fate;
}

-- where a soak stands behind some jobs more
abbrev pub last_stage : Stage → List Turn → Stage
last_stage s [] = s
last_stage s (t ∷ ts) = last_stage (next_stage s t) ts

-- jobs went so one after the other, from this stage on
abbrev pub AreTurns : ℕ → Stage → List Turn → Type 0
AreTurns stop s [] = ⊤
AreTurns stop s (t ∷ ts) = IsTurn stop s t × AreTurns stop (next_stage s t) ts

-- ---- what is counted

-- how many of some jobs have a property
abbrev pub turn_count : (Stage → Turn → Bool) → Stage → List Turn → ℕ
turn_count is_so s [] = 0
turn_count is_so s (t ∷ ts) = (if is_so s t then 1 else 0) + turn_count is_so (next_stage s t) ts

-- a reply refuses what was asked
abbrev pub is_no : AnyReply → Bool
is_no (Refused refusal) = true
is_no other = false

-- a reply is a proof
abbrev pub is_proof_reply : AnyReply → Bool
is_proof_reply (Proof n leaf lo hi proof) = true
is_proof_reply other = false

-- an answer is due as a reply that has a property; a receipt has none
abbrev pub is_reply : (AnyReply → Bool) → Answer → Bool
is_reply is_so (Reply reply) = is_so reply
is_reply is_so (Receipt jsn leaf stamp) = false

-- what is due for a job, by the rules
abbrev pub answer_in : Stage → Turn → Answer
answer_in s t = answer_to s.history t.step (job_of tag_key_of (id s.history) t.step.line)

-- a job was answered by a reply that has a property
abbrev pub was_answered_by : (AnyReply → Bool) → Stage → Turn → Bool
was_answered_by is_so s t = not (was_in_hand t.fate) && is_reply is_so (answer_in s t)

-- a job was in hand at a stop
abbrev pub was_stopped : Stage → Turn → Bool
was_stopped s t = was_in_hand t.fate

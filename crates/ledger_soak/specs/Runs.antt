-- A soak on its way.
use Rattle.std.specs.Prelude.{◌≡◌, ◌⊎◌, ℕ, ◌+◌, ◌≤◌, true, false, All, List, [], ◌∷◌, length, Option, Some}
use Rattle.journal_record.specs.Tags.{tag_key_of}
use Rattle.time_peg.specs.Entries.{NotaryState}
use Rattle.script_lines.specs.Replies.{reply_text}
use Rattle.ledger_model.specs.Dues.{HasLeaf}
use Rattle.ledger_model.specs.Genesis.{new_ledger}
use Rattle.ledger_model.specs.History.{History, journals, id, size}
use Rattle.ledger_model.specs.Notary.{Attends}
use Rattle.ledger_model.specs.Pegs.{Pegged}
use Rattle.ledger_model.specs.Rules.{after_step, after_window}
use Rattle.ledger_model.specs.Step.{Step}
use Rattle.ledger_model.specs.Took.{Took}
use Rattle.ledger_model.specs.Texts.{reply_in}
use Rattle.batch_committer.specs.World.{World, Holds}
use Rattle.notary_ledger.specs.Notaries.{memory_origin}
use Rattle.ledger_soak.specs.Auditing.{Follows}
use Rattle.ledger_soak.specs.Lines.{job_line, member_line}
use Rattle.ledger_soak.specs.Posts.{Posted, LeavesEither}
use Rattle.ledger_soak.specs.Soaks.{IsSetUp, first_stage}
use Rattle.ledger_soak.specs.Tasks.{task_drawn, state_behind}
use Rattle.ledger_soak.specs.Turns.{soak_genesis, answered, kept_in_hand, Turn, Stage, IsTurn, AreTurns, next_stage, last_stage, after_turn, turn_count, was_stopped, was_answered_by, answer_in, is_no, is_proof_reply, is_reply}
use Rattle.ledger_soak.specs.declared.auditor.Auditor.{Auditor}
use Rattle.ledger_soak.specs.declared.receipts.Receipt.{Receipt}
use Rattle.ledger_soak.specs.declared.running.Asked.{Asked}
use Rattle.ledger_soak.specs.declared.running.Asked.TheVariants.{Answered, InHand}
use Rattle.ledger_soak.specs.declared.running.Run.{Run}
use Rattle.ledger_soak.specs.declared.running.Fuses.TheVariants.{Off}

-- what a soak has behind it: the steps of its setup, the notary after them, and the jobs since
pub record Past : Type 0 where
  pub setup : List Step
  pub notary : NotaryState
  pub turns : List Turn

-- where the jobs of a soak began
abbrev pub begun_at : ℕ → Past → Stage
begun_at seed p = first_stage seed p.setup p.notary

-- where the jobs of a soak led
abbrev pub led_to : ℕ → Past → Stage
led_to seed p = last_stage (begun_at seed p) p.turns

-- the jobs were drawn and went so, and each was counted
pub record AreTallied (seed : ℕ) (run : Run) (p : Past) : Type 0 where
  pub is_set_up : IsSetUp p.setup p.notary
  pub are : AreTurns run.stop (begun_at seed p) p.turns
  pub stops_are : run.stops ≡ turn_count was_stopped (begun_at seed p) p.turns
  pub refused_are : run.refused ≡ turn_count (was_answered_by is_no) (begun_at seed p) p.turns
  pub proofs_are : run.proofs ≡ turn_count (was_answered_by is_proof_reply) (begun_at seed p) p.turns
  pub accepted : run.yes ≡ run.proofs
  pub none_lost : run.lost ≡ 0

-- the journal of a receipt is in a history, with its leaf digest
abbrev pub IsHeld : History → Receipt → Type 0
IsHeld h receipt = HasLeaf (journals h) receipt.jsn receipt.leaf

-- what a soak remembers of heads and receipts is of this history and this list
pub record Recalls (auditor : Auditor) (receipts : List Receipt) (h : History) (es : List (List ℕ)) : Type 0 where
  pub pegged : Pegged h es
  pub follows : Follows h es auditor
  pub receipts_held : All (IsHeld h) receipts

-- the committer and its disks hold this history, and nothing is due
pub record IsAtRest (post : Posted) (h : History) : Type 0 where
  pub holds : Holds true post.world h
  pub none : h.waiting ≡ []
  pub dues : post.world.kept.dues ≡ []
  pub open_now : post.ended ≡ false

-- a soak stands at this stage: ledger, notary and generator do
pub record IsAtStage (run : Run) (s : Stage) : Type 0 where
  pub draws : run.draws.state ≡ s.draws
  pub rests : IsAtRest run.post s.history
  pub list : run.notary.entries ≡ s.entries
  pub unfailed : run.notary.faults ≡ 0
  pub kept : Recalls run.auditor run.receipts.items s.history s.entries
  pub unfused : run.stop ≡ 0 → run.fuses ≡ Off
  pub first : s.stopped ≡ true → run.fuses ≡ Off

-- a call placed a member, in a step of this history in which the notary took part
pub record IsPlaced (w t : World) (n m : NotaryState) (member : ℕ) (h : History) : Type 0 where
  pub step : Step
  pub line_is : step.line ≡ member_line (id h) member
  pub place_is : (step.lane ≡ 0) × (step.index ≡ 1)
  pub holds : Holds true t (after_step tag_key_of h step)
  pub took : Took tag_key_of h n (step ∷ []) m

-- the members are placed in a new ledger, and nothing is due
pub record IsReady (post : Posted) (notary : NotaryState) : Type 0 where
  pub setup : List Step
  pub is_set_up : IsSetUp setup notary
  pub rests : IsAtRest post (after_window tag_key_of (new_ledger soak_genesis) setup)

-- a soak between two jobs: those so far were drawn, went so and were counted, and led to where it stands
pub record IsUnderway (seed : ℕ) (run : Run) : Type 0 where
  pub past : Past
  pub tallied : AreTallied seed run past
  pub taken : run.taken ≡ length past.turns
  pub stands : IsAtStage run (led_to seed past)

-- Behind a job that was answered, of which nothing was counted so far. Where the answer is a proof, the line that the auditor
-- accepts is the reply.
pub record IsAnswered (seed : ℕ) (run : Run) (t : Turn) (accepted : Option (List ℕ)) : Type 0 where
  pub past : Past
  pub tallied : AreTallied seed run past
  pub taken : run.taken ≡ length past.turns + 1
  pub is_turn : IsTurn run.stop (led_to seed past) t
  pub was_answered : t.fate ≡ answered
  pub stands : IsAtStage run (next_stage (led_to seed past) t)
  pub text : (f : History) × (run.post.world.sink.held ≡ Some (reply_text 0 1 (reply_in f (answer_in (led_to seed past) t))))
  pub line : is_reply is_proof_reply (answer_in (led_to seed past) t) ≡ true → accepted ≡ run.post.world.sink.held

-- Behind a stop, at which a job was in hand with this step. What is left has the job's entry or hasn't, and the notary took part;
-- or it had no part, and nothing of the job is left.
pub record IsInHand (seed : ℕ) (run : Run) (step : Step) : Type 0 where
  pub past : Past
  pub tallied : AreTallied seed run past
  pub taken : run.taken ≡ length past.turns + 1
  pub draws : run.draws.state ≡ state_behind (led_to seed past).draws
  pub line_is : let s = led_to seed past in step.line ≡ job_line (task_drawn s.draws (size s.history)) s.history
  pub lane_is : step.lane ≡ 0
  pub index_is : step.index ≡ 1
  pub list_is : step.before ≡ (led_to seed past).entries
  pub unfailed : step.failed ≡ false
  pub list : run.notary.entries ≡ step.after
  pub well : run.notary.faults ≡ 0
  pub none : (led_to seed past).history.waiting ≡ []
  pub some : 1 ≤ size (led_to seed past).history
  pub leaves : let h = (led_to seed past).history in
      (LeavesEither run.post.world.disks h (after_turn kept_in_hand h step) × Attends tag_key_of h memory_origin.making step)
      ⊎ (LeavesEither run.post.world.disks h h × (step.after ≡ step.before))
  pub kept : Recalls run.auditor run.receipts.items (led_to seed past).history (led_to seed past).entries
  pub unfused : run.stop ≡ 0 → run.fuses ≡ Off
  pub first : (led_to seed past).stopped ≡ true → run.fuses ≡ Off

-- what came of a job that was drawn: it was answered, or it was in hand at a stop
abbrev pub ComesTo : ℕ → Run → Asked → Type 0
ComesTo seed run (Answered accepted) = (t : Turn) × IsAnswered seed run t accepted
ComesTo seed run InHand = (step : Step) × IsInHand seed run step

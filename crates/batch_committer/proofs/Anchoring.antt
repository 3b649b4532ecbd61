-- An anchor that the ledger accepts: what comes of it, by what the notary answered.
use Rattle.std.specs.Prelude.{Result, Ok, Err, OnErr}
use Rattle.std.proofs.Common.{◌≡◌, ◌≢◌, ℕ, ◌⊎◌, List, length, Option, Some, None, refl, ap, sym, subst, ◌∙◌}
use Rattle.ledger_bytes.specs.declared.refusal.Refusal.{Refusal}
use Rattle.journal_record.specs.declared.stamp.Stamp.{Stamp}
use Rattle.script_lines.specs.declared.reply.Reply.{Reply as AnyReply}
use Rattle.script_lines.specs.declared.reply.Reply.TheVariants as reply
use Rattle.ledger_bytes.specs.Causes.{count_after}
use Rattle.journal_record.specs.declared.rules.TheConstants.{NOTARY_LIMIT}
use Rattle.time_peg.specs.Entries.{Making, NotaryState, IsStamped, HasOneMore, CountsFailures}
use Rattle.time_peg.specs.declared.notary.NotaryErr.{NotaryErr}
use Rattle.time_peg.specs.declared.notary.NotaryErr.TheVariants.{Failed, Full, NoMemory}
use Rattle.ledger_model.specs.Anchors.{stamp_of, no_stamp}
use Rattle.ledger_model.specs.History.{History}
use Rattle.ledger_model.specs.Judgements.{own_refusal}
use Rattle.ledger_model.specs.Limits.{real_limits}
use Rattle.ledger_model.specs.Outcomes.{accepted_outcome, after_judgement, with_job, anchor_outcome, judged_outcome, outcome}
use Rattle.ledger_model.specs.Step.{Step}
use Rattle.ledger_model.specs.Texts.{answer_for, told_reply}
use Rattle.ledger_model.specs.declared.answer.Answer.TheVariants.{Reply}
use Rattle.ledger_model.specs.declared.job.Job.{Job}
use Rattle.ledger_model.specs.declared.job.Job.TheVariants.{Anchor}
use Rattle.ledger_model.specs.declared.limits.Limits.{Limits}
use Rattle.ledger_model.specs.declared.outcome.Outcome.{Outcome}
use Rattle.ledger_model.specs.declared.outcome.Outcome.TheVariants as came
use Rattle.ledger_model.specs.declared.outcome.Query.{Query}
use Rattle.ledger_book.specs.Books as books
use Rattle.ledger_book.proofs.ApplyLaws.{anchor_accepted}
use Rattle.ledger_book.specs.Steps.{Applies, HasOperatorRoom, PlacesNothing}
use Rattle.batch_committer.specs.Steps.{Gathers, Judged}
use Rattle.batch_committer.specs.World.{CommitterState, Keeps}
use Rattle.batch_committer.specs.Attending.{Attended, JudgedBy}
use Rattle.batch_committer.proofs.Judging.{gathers_kept, judged_same_kept}

-- a result that is an error, or isn't
pub on_err_all : {T E : Type 0} {A : Type 0} (result : Result T E) → A → OnErr result A
on_err_all (Ok value) a = tt
on_err_all (Err error) a = a

-- ---- no stamp

none_placed : (h : History) (refusal : Option Refusal) → after_judgement refusal None h ≡ h
none_placed h (Some refusal) = refl
none_placed h None = refl

pub unplaced : (limits : Limits) (h : History) → with_job limits None h Anchor ≡ h
unfolding with_job
unplaced limits h = none_placed h (own_refusal limits h Anchor)

-- the notary gave no stamp: nothing changes, and that is told
pub unstamped_judged : (k : CommitterState) (h : History) (step : Step) (why : Refusal) → Keeps k h → own_refusal real_limits h Anchor ≡ None → stamp_of step ≡ None → no_stamp step ≡ why → Judged k h step Anchor (Reply (reply.Refused why))
unfolding outcome
unstamped_judged k h step why p accepted none is = record {
  answer_is =
      ap (λ r. Reply (reply.Refused r)) (sym is)
      ∙ sym (ap (λ o. answer_for h step (judged_outcome (own_refusal real_limits h Anchor) (anchor_outcome h o))) none ∙ ap (λ r. answer_for h step (judged_outcome r came.StampWanted)) accepted);
  gathers = subst (λ o. Gathers k (with_job real_limits o h Anchor)) (sym none) (subst (Gathers k) (sym (unplaced real_limits h)) (gathers_kept k h p));
}

-- ---- from the clauses of a notary

pub accepted_real : (k : CommitterState) (h : History) → Keeps k h → HasOperatorRoom k.book → own_refusal real_limits h Anchor ≡ None
accepted_real k h p room = subst (λ limits. own_refusal limits h Anchor ≡ None) p.limits (anchor_accepted k.book h p.serves room)

pub full_of : (making : Option Making) (peg : List ℕ) (old new : List (List ℕ)) (before now : ℕ) (e : NotaryErr) → e ≡ Full → IsStamped making peg old new (Err e) → CountsFailures {T = Stamp} (Err e) before now → (new ≡ old) × (length old ≡ NOTARY_LIMIT) × (now ≡ before)
full_of making peg old new before now e is list count =
    let l = subst (λ x. IsStamped making peg old new (Err x)) is list in (l.0, l.1, subst (λ x. CountsFailures {T = Stamp} (Err x) before now) is count)

pub failed_of : (making : Option Making) (peg : List ℕ) (old new : List (List ℕ)) (before now : ℕ) (e : NotaryErr) → e ≡ Failed → IsStamped making peg old new (Err e) → CountsFailures {T = Stamp} (Err e) before now → ((new ≡ old) ⊎ HasOneMore making peg old new) × (now ≡ count_after before)
failed_of making peg old new before now e is list count = (subst (λ x. IsStamped making peg old new (Err x)) is list, subst (λ x. CountsFailures {T = Stamp} (Err x) before now) is count)

-- where memory was short nothing changed
pub memory_of : (peg : List ℕ) (n m : NotaryState) (e : NotaryErr) → e ≡ NoMemory → m.origin ≡ n.origin → IsStamped n.origin.making peg n.entries m.entries (Err e) → CountsFailures {T = Stamp} (Err e) n.faults m.faults → m ≡ n
memory_of peg n m e is origin list count =
    let entries : m.entries ≡ n.entries = subst (λ x. IsStamped n.origin.making peg n.entries m.entries (Err x)) is list in
    let faults : m.faults ≡ n.faults = subst (λ x. CountsFailures {T = Stamp} (Err x) n.faults m.faults) is count in
    λ i. record { origin = origin i; entries = entries i; faults = faults i }

result_full : Result Stamp NotaryErr → Type 0
result_full (Ok s) = ⊥
result_full (Err Failed) = ⊥
result_full (Err Full) = Unit {0}
result_full (Err NoMemory) = ⊥

pub failed_not_full : (old : List (List ℕ)) (e : NotaryErr) → e ≡ Failed → (length old ≡ NOTARY_LIMIT → (let r : Result Stamp NotaryErr = Err e in r ≡ Err Full)) → length old ≢ NOTARY_LIMIT
unfolding result_full
failed_not_full old e is full at = subst result_full (sym (full at) ∙ ap (λ x. Err x) is) tt

-- ---- by what the book told before

-- a job that was told to read wasn't refused
accepted_by : (refusal : Option Refusal) (o : Outcome) (q : Query) → came.Reading q ≡ judged_outcome refusal o → refusal ≡ None
accepted_by None o q is = refl
accepted_by (Some why) o q is = absurd (let no : ⊥ = cc is in no)

pub asked_accepted : (limits : Limits) (h : History) (job : Job) (o : Outcome) (q : Query) (new : books.Kept) → Applies limits None h job o new → o ≡ came.Reading q → own_refusal limits h job ≡ None
unfolding outcome
asked_accepted limits h job o q new a is = accepted_by (own_refusal limits h job) (accepted_outcome h None job) q (sym is ∙ a.outcome_is)

-- an anchor without a stamp wants one, where it is accepted
pub anchor_wants : (limits : Limits) (h : History) (job : Job) (o : Outcome) (new : books.Kept) → Applies limits None h job o new → job ≡ Anchor → own_refusal limits h job ≡ None → o ≡ came.StampWanted
unfolding outcome
anchor_wants limits h job o new a is none =
    a.outcome_is ∙ ap (λ x. judged_outcome x (accepted_outcome h None job)) none ∙ ap (λ (j : Job). accepted_outcome h None j) is

pub keeps_book : (k : CommitterState) (book : books.Kept) (h : History) → book ≡ k.book → Keeps k h → Keeps (record k { book = book }) h
keeps_book k book h is p = subst (λ b. Keeps (record k { book = b }) h) (sym is) p

-- what was told to a job that only asks is due for it, and nothing changes
pub told_judged : (old : CommitterState) (book : books.Kept) (n m : NotaryState) (h : History) (step : Step) (job asked : Job) (o : Outcome) (q known : Query) (said : AnyReply) → Keeps old h → Applies old.book.limits None h job o book → (PlacesNothing o → book ≡ old.book) → o ≡ came.Reading q → q ≡ known → job ≡ asked
    → stamp_of step ≡ None → (said ≡ told_reply h step known) × Attended n m h step asked → JudgedBy (record old { book = book }) n m h step job (Reply said)
told_judged old book n m h step job asked o q known said p applies same is at which none told = record {
  judged = judged_same_kept old (record old { book = book }) h step job o (Reply said) p applies (subst PlacesNothing (sym is) tt) same (record { body = refl; places = refl; gate = refl; next = refl; ended = refl; before = refl })
      (ap Reply told.0 ∙ ap (λ x. answer_for h step (came.Reading x)) (sym at) ∙ sym (ap (answer_for h step) is)) none;
  attended = subst (λ (j : Job). Attended n m h step j) (sym which) told.1;
}

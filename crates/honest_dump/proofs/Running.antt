-- What each journal that is placed keeps true holds of each history that a run makes.
use Rattle.std.specs.Prelude.{nat_le}
use Rattle.std.proofs.Common.{◌≡◌, ℕ, ◌||◌, true, false, cond, List, [], ◌∷◌, ◌++◌, length, Option, Some, None, Result, Ok, Err, refl, sym, ap, ◌∙◌, subst}
use Rattle.std.proofs.lemmas.Option.{same_Some}
use Rattle.ledger_bytes.specs.declared.limits.TheConstants.{BLOCK_LIMIT}
use Rattle.ledger_bytes.specs.declared.refusal.Refusal.{Refusal}
use Rattle.journal_record.specs.Entry.{Entry}
use Rattle.script_lines.specs.Grammar.{spoken_line}
use Rattle.script_lines.specs.Limits.{fits_line, fits_what}
use Rattle.script_lines.specs.declared.line.Line.{Line}
use Rattle.script_lines.proofs.Fitting.{LineFits, WhatFits, spoken_fits, spoken_counts}
use Rattle.time_peg.specs.Entries.{Making, NotaryState}
use Rattle.ledger_model.specs.Anchors.{stamp_of}
use Rattle.ledger_model.specs.History.{History, history, journals, id, first_leaf_digest, close}
use Rattle.ledger_model.specs.Judgements.{own_refusal}
use Rattle.ledger_model.specs.Lawful.{AreLawful, IsLawful}
use Rattle.ledger_model.specs.Limits.{real_limits}
use Rattle.ledger_model.specs.Notary.{Attends, ChangesBy}
use Rattle.ledger_model.specs.Numbers.{unless_repeated}
use Rattle.ledger_model.specs.Outcomes.{placed_journal, after_judgement, with_job}
use Rattle.ledger_model.specs.Rules.{job_for, job_of, closes_before, closes_after, judged_at, settled_history, after_job, after_step, after_steps, after}
use Rattle.ledger_model.specs.Scheme.{Scheme}
use Rattle.ledger_model.specs.Step.{Step}
use Rattle.ledger_model.specs.Took.{notary_after, Took, TookAll}
use Rattle.ledger_model.specs.declared.job.Job.{Job}
use Rattle.ledger_model.proofs.AcceptedLaws.{IsNew}
use Rattle.ledger_model.proofs.KeepLaws.{journals_close, journals_wider, close_lawful, step_lawful, steps_lawful}

-- the history with a journal more, which waits
abbrev pub wider : History → Entry → History
wider h e = history h.closed (h.waiting ++ e ∷ [])

-- a line places a journal behind a history, by this job
pub record Places (h : History) (making : Option Making) (step : Step) (said : Line) (job : Job) (e : Entry) : Type 0 where
  pub lawful : IsLawful h
  pub more : AreLawful (journals h ++ e ∷ [])
  pub fits : fits_line said ≡ true
  pub short : LineFits said
  pub accepted : own_refusal real_limits h job ≡ None
  pub placed : placed_journal h (stamp_of step) job ≡ Some e
  pub changes : ChangesBy h making step job

-- .. by the job that it asks for
abbrev pub LinePlaces : Scheme → History → Option Making → Step → Line → Entry → Type 0
LinePlaces scheme h making step said e = Places h making step said (job_for scheme (id h) (Ok said)) e

pub id_close : (h : History) → id (close h) ≡ id h
unfolding id
id_close h = ap first_leaf_digest (journals_close h)

-- a record that is placed repeats none, and is the one that its job gives
pub unrepeated : (again : Option ℕ) (record_of e : Entry) → unless_repeated again (Some record_of) ≡ Some e → IsNew again × (record_of ≡ e)
unrepeated None record_of e is = (refl, same_Some record_of e is)
unrepeated (Some n) record_of e is = absurd cc

module _ (scheme : Scheme) (Keeps : History → Type 0) (ended : (h : History) → Keeps h → Keeps (close h))
    (placing : (h : History) (making : Option Making) (step : Step) (said : Line) (e : Entry) → LinePlaces scheme h making step said e → Keeps h → Keeps (wider h e)) where
  settled : (job : Job) (h : History) → Keeps h → Keeps (settled_history job h)
  settled job h k = elim (closes_after job || nat_le BLOCK_LIMIT (length h.waiting)) as (λ full. Keeps (cond full (close h) h)) [ true ↦ ended h k | false ↦ k ]

  judged : (job : Job) (h : History) → Keeps h → Keeps (judged_at h job)
  judged job h k = elim (closes_before job) as (λ first. Keeps (cond first (close h) h)) [ true ↦ ended h k | false ↦ k ]

  judged_journals : (job : Job) (h : History) → IsLawful h → IsLawful (judged_at h job) × (id (judged_at h job) ≡ id h)
  judged_journals job h l = elim (closes_before job) as (λ first. IsLawful (cond first (close h) h) × (id (cond first (close h) h) ≡ id h)) [ true ↦ (close_lawful h l, id_close h) | false ↦ (l, refl) ]

  settled_journals : (job : Job) (h : History) → journals (settled_history job h) ≡ journals h
  settled_journals job h = elim (closes_after job || nat_le BLOCK_LIMIT (length h.waiting)) as (λ full. journals (cond full (close h) h) ≡ journals h) [ true ↦ journals_close h | false ↦ refl ]

  -- what the judgement of a job leaves
  by_judgement : (g : History) (making : Option Making) (step : Step) (what : Result Line Refusal) (job : Job) → job ≡ job_for scheme (id g) what → IsLawful g → fits_what what ≡ true → WhatFits what → ChangesBy g making step job
      → IsLawful (settled_history job (after_judgement (own_refusal real_limits g job) (placed_journal g (stamp_of step) job) g)) → Keeps g
      → (r : Option Refusal) → own_refusal real_limits g job ≡ r → (o : Option Entry) → placed_journal g (stamp_of step) job ≡ o → Keeps (settled_history job (after_judgement r o g))
  by_judgement g making step what job is l fits short changes later k (Some why) r o p = settled job g k
  by_judgement g making step what job is l fits short changes later k None r None p = settled job g k
  by_judgement g making step (Err refusal) job is l fits short changes later k None r (Some e) p = let never = ap (own_refusal real_limits g) (sym is) ∙ r in absurd cc
  by_judgement g making step (Ok said) job is l fits short changes later k None r (Some e) p =
      settled job (wider g e) (placing g making step said e (record {
        lawful = l;
        more = subst AreLawful (ap (λ x. journals (settled_history job (after_judgement x (placed_journal g (stamp_of step) job) g))) r ∙ ap (λ x. journals (settled_history job (after_judgement None x g))) p ∙ settled_journals job (wider g e) ∙ journals_wider g e) later.journals_are;
        fits = fits;
        short = short;
        accepted = ap (own_refusal real_limits g) (sym is) ∙ r;
        placed = ap (placed_journal g (stamp_of step)) (sym is) ∙ p;
        changes = subst (ChangesBy g making step) is changes;
      }) k)

  step_keeps : (h : History) (making : Option Making) (step : Step) → IsLawful h → Attends scheme h making step → Keeps h → Keeps (after_step scheme h step)
  unfolding after_step after_job with_job job_of
  step_keeps h making step l attends k =
      let what = (spoken_line step.line).1 in
      let job = job_for scheme (id h) what in
      let g = judged_at h job in
      let there = judged_journals job h l in
      by_judgement g making step what job (ap (λ (i : List ℕ). job_for scheme i what) (sym there.1)) there.0 (spoken_fits step.line) (spoken_counts step.line) attends.list (step_lawful scheme h step l) (judged job h k)
      (own_refusal real_limits g job) refl (placed_journal g (stamp_of step) job) refl

  steps_keep : (h : History) (n m : NotaryState) (steps : List Step) → IsLawful h → Took scheme h n steps m → Keeps h → Keeps (after_steps scheme h steps)
  steps_keep h n m [] l took k = k
  steps_keep h n m (step ∷ steps) l took k = steps_keep (after_step scheme h step) (notary_after n step) m steps (step_lawful scheme h step l) took.2 (step_keeps h n.origin.making step l took.1 k)

  pub run_keeps : (h : History) (n m : NotaryState) (windows : List (List Step)) → IsLawful h → TookAll scheme h n windows m → Keeps h → Keeps (after scheme h windows)
  run_keeps h n m [] l took k = k
  run_keeps h n m (window ∷ windows) l took k =
      let g = after_steps scheme h window in
      run_keeps (close g) took.0 m windows (close_lawful g (steps_lawful scheme h window l)) took.2 (ended g (steps_keep h n took.0 window l took.1 k))

-- The id stays as journals are placed, so jobs that were prepared at a window's start are those of its lines.
use Rattle.std.proofs.Common.{◌≡◌, ℕ, ◌≤◌, List, [], ◌∷◌, ◌++◌, length, refl, sym, ◌∙◌, ap, arith}
use Rattle.journal_record.specs.Entry.{Entry}
use Rattle.ledger_model.specs.Dues.{due_of, dues}
use Rattle.ledger_model.specs.Growing.{Grows}
use Rattle.ledger_model.specs.History.{History, journals, size, id, first_leaf_digest}
use Rattle.ledger_model.specs.Prepared.{PreparedJob, prepared_items, after_jobs, job_dues}
use Rattle.ledger_model.specs.Rules.{job_of, after_job, after_step, after_steps}
use Rattle.ledger_model.specs.Scheme.{Scheme}
use Rattle.ledger_model.specs.Step.{Step}
use Rattle.ledger_model.specs.declared.due.Due.{Due}
use Rattle.ledger_model.proofs.GrowLaws.{grows_job, grows_size}

first_kept : (xs more : List Entry) → 1 ≤ length xs → first_leaf_digest (xs ++ more) ≡ first_leaf_digest xs
first_kept [] more some = absurd (omega (arith, some))
first_kept (x ∷ xs) more some = refl

-- the id of a ledger that has a journal is the same in each later history
pub id_kept : (h g : History) → Grows h g → 1 ≤ size h → id g ≡ id h
unfolding id
id_kept h g later some = ap first_leaf_digest later.journals_are ∙ first_kept (journals h) later.more some

module _ (scheme : Scheme) (known : List ℕ) where
  pub after_items : (h : History) (steps : List Step) → id h ≡ known → 1 ≤ size h → after_jobs h (prepared_items scheme known steps) ≡ after_steps scheme h steps
  unfolding after_step
  after_items h [] is some = refl
  after_items h (step ∷ steps) is some =
      let job = job_of scheme known step.line in
      let g = after_job h step job in
      after_items g steps (id_kept h g (grows_job h step job) some ∙ is) (omega (arith, grows_size h g (grows_job h step job), some))
      ∙ ap (λ (k : List ℕ). after_steps scheme (after_job h step (job_of scheme k step.line)) steps) (sym is)

  pub dues_of_items : (h : History) (steps : List Step) → id h ≡ known → 1 ≤ size h → job_dues h (prepared_items scheme known steps) ≡ dues scheme h steps
  unfolding after_step
  dues_of_items h [] is some = refl
  dues_of_items h (step ∷ steps) is some =
      let job = job_of scheme known step.line in
      let g = after_job h step job in
      ap (λ (l : List Due). due_of h step job ∷ l) (dues_of_items g steps (id_kept h g (grows_job h step job) some ∙ is) (omega (arith, grows_size h g (grows_job h step job), some)))
      ∙ ap (λ (k : List ℕ). due_of h step (job_of scheme k step.line) ∷ dues scheme (after_job h step (job_of scheme k step.line)) steps) (sym is)

-- a job more
pub after_jobs-more : (h : History) (items : List PreparedJob) (item : PreparedJob) → after_jobs h (items ++ item ∷ []) ≡ after_job (after_jobs h items) item.step item.job
after_jobs-more h [] item = refl
after_jobs-more h (x ∷ xs) item = after_jobs-more (after_job h x.step x.job) xs item

pub job_dues-more : (h : History) (items : List PreparedJob) (item : PreparedJob) → job_dues h (items ++ item ∷ []) ≡ job_dues h items ++ due_of (after_jobs h items) item.step item.job ∷ []
job_dues-more h [] item = refl
job_dues-more h (x ∷ xs) item = ap (λ (l : List Due). due_of h x.step x.job ∷ l) (job_dues-more (after_job h x.step x.job) xs item)

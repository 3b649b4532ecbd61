-- What a purge that is accepted does: the journals in front of its point can't be shown any more, and nothing else changes in
-- what can be shown.
use Rattle.std.specs.Prelude.{nat_lt}
use Rattle.std.specs.Option.{is_some}
use Rattle.std.proofs.Common.{◌≡◌, ℕ, ◌+◌, ◌<◌, ◌≤◌, cond, List, [], ◌∷◌, ◌++◌, length, Some, None, refl, sym, ◌∙◌, ap, subst, arith, length-append}
use Rattle.std.proofs.lemmas.Bool.{lt-leb, lt-ltb, le-ltb}
use Rattle.ledger_bytes.specs.Digests.{digest}
use Rattle.ledger_bytes.specs.declared.digest.Digest.{Digest}
use Rattle.journal_record.specs.Entry.{Entry}
use Rattle.journal_record.specs.declared.approval.Approval.{Approval}
use Rattle.ledger_model.specs.Appends.{purge_header, purge_journal}
use Rattle.ledger_model.specs.Bases.{base_of, digest_of_base}
use Rattle.ledger_model.specs.History.{History, history, journals, size, point, close, greatest_point}
use Rattle.ledger_model.specs.Judgements.{own_refusal}
use Rattle.ledger_model.specs.Lawful.{IsNextPurge, AreLawful, IsLawful}
use Rattle.ledger_model.specs.Limits.{real_limits}
use Rattle.ledger_model.specs.Outcomes.{after_judgement, with_job, view}
use Rattle.ledger_model.specs.Rules.{after_job}
use Rattle.ledger_model.specs.Step.{Step}
use Rattle.ledger_model.specs.Targets.{is_hidden, hider}
use Rattle.ledger_model.specs.declared.job.Job.TheVariants.{Purge}
use Rattle.ledger_model.specs.declared.view.View.TheVariants.{Absent, Purged, Occulted, Whole}
use Rattle.ledger_model.proofs.AcceptedLaws.{purge_own, purge_next}
use Rattle.ledger_model.proofs.GrowLaws.{size_close}
use Rattle.ledger_model.proofs.HideLaws.{hider_at, hidden_is, hider_kept, none_behind}
use Rattle.ledger_model.proofs.KeepLaws.{journals_close, journals_wider, close_lawful, real_within}
use Rattle.ledger_model.proofs.LawfulLaws.{AreFrom, lawful_from, lawful_more}
use Rattle.ledger_model.proofs.PlaceLaws.{point_more}

module _ (h : History) (step : Step) (p : ℕ) (told : Digest) (given : List Approval) (lawful : IsLawful h) (accepted : own_refusal real_limits (close h) (Purge p told given) ≡ None) where
  abbrev placed : Entry
  placed = purge_journal (close h) p given

  abbrev later : History
  later = after_job h step (Purge p told given)

  closed : AreLawful (journals (close h))
  closed = (close_lawful h lawful).journals_are

  own : IsNextPurge (close h) placed.header
  own = purge_own real_limits real_within (close h) p told given accepted (digest (digest_of_base (base_of (close h) p))) closed

  journals_later : journals later ≡ journals h ++ placed ∷ []
  unfolding after_job with_job
  journals_later =
      let g = history (close h).closed ((close h).waiting ++ purge_journal (close h) p given ∷ []) in
      ap (λ r. journals (close (after_judgement r (Some (purge_journal (close h) p given)) (close h)))) accepted
      ∙ journals_close g ∙ journals_wider (close h) (purge_journal (close h) p given)
      ∙ ap (λ js. js ++ purge_journal (close h) p given ∷ []) (journals_close h)

  lawful_later : AreLawful (journals later)
  lawful_later =
      subst AreLawful (ap (λ js. js ++ placed ∷ []) (journals_close h) ∙ sym journals_later)
      (lawful_more (journals (close h)) placed closed (purge_next real_limits real_within (close h) p told given accepted (digest (digest_of_base (base_of (close h) p))) closed))

  there : p < size h
  unfolding purge_header
  there = omega (arith, own.before, size_close h)

  above : point h < p
  unfolding purge_header point
  above = omega (arith, own.above, ap greatest_point (journals_close h))

  size_later : size later ≡ size h + 1
  size_later = ap length journals_later ∙ length-append (journals h) (placed ∷ [])

  pub point_later : point later ≡ p
  unfolding purge_header point
  point_later = ap greatest_point journals_later ∙ point_more (journals h) placed ∙ omega (arith, own.above, ap greatest_point (journals_close h))

  -- it hides none
  from_later : AreFrom 0 (journals h ++ placed ∷ [])
  from_later = subst (AreFrom 0) journals_later (lawful_from (journals later) lawful_later)

  hidden_later : (n : ℕ) → is_hidden later n ≡ is_some (hider_at (journals h ++ placed ∷ []) n)
  hidden_later n = hidden_is later n ∙ ap (λ es. is_some (hider_at es n)) journals_later

  hider_later : (n : ℕ) → hider_at (journals h ++ placed ∷ []) n ≡ hider h n
  unfolding purge_header
  hider_later n = hider_kept (journals h) placed n from_later (λ e at. refl)

  -- what can be shown of those in front of the point, of those from it on, and of the purge
  pub front_view : (n : ℕ) → n < p → view later n ≡ Purged p
  unfolding view
  front_view n below =
      ap (λ v. cond v Absent (cond (nat_lt n (point later)) (Purged (point later)) (cond (is_hidden later n) Occulted Whole))) (lt-leb (size later) n (omega (arith, below, there, size_later)))
      ∙ ap (λ q. cond (nat_lt n q) (Purged q) (cond (is_hidden later n) Occulted Whole)) point_later
      ∙ ap (λ v. cond v (Purged p) (cond (is_hidden later n) Occulted Whole)) (lt-ltb n p below)

  kept_as : (n : ℕ) → p ≤ n → n < size later → view later n ≡ cond (is_hidden later n) Occulted Whole
  unfolding view
  kept_as n at below =
      ap (λ v. cond v Absent (cond (nat_lt n (point later)) (Purged (point later)) (cond (is_hidden later n) Occulted Whole))) (lt-leb (size later) n below)
      ∙ ap (λ v. cond v (Purged (point later)) (cond (is_hidden later n) Occulted Whole)) (le-ltb n (point later) (omega (arith, at, point_later)))

  pub kept_view : (n : ℕ) → p ≤ n → n < size h → view later n ≡ view h n
  unfolding view
  kept_view n at below =
      kept_as n at (omega (arith, below, size_later))
      ∙ ap (λ v. cond v Occulted Whole) (hidden_later n ∙ ap is_some (hider_later n) ∙ sym (hidden_is h n))
      ∙ sym (ap (λ v. cond v Absent (cond (nat_lt n (point h)) (Purged (point h)) (cond (is_hidden h n) Occulted Whole))) (lt-leb (size h) n below)
      ∙ ap (λ v. cond v (Purged (point h)) (cond (is_hidden h n) Occulted Whole)) (le-ltb n (point h) (omega (arith, at, above))))

  pub own_view : view later (size h) ≡ Whole
  own_view =
      kept_as (size h) (omega (arith, there)) (omega (arith, size_later))
      ∙ ap (λ v. cond v Occulted Whole) (hidden_later (size h) ∙ ap is_some (none_behind (journals h ++ placed ∷ []) (size h) from_later (omega (arith, length-append (journals h) (placed ∷ [])))))

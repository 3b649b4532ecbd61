-- However a run ends, the notary's list keeps the entries of the time journals that are kept.
use Rattle.std.proofs.Common.{Option, ◌≡◌, ℕ, ◌<◌, inl, Bool, true, false, List, [], ◌∷◌, ◌++◌, length, ap, sym, subst, ◌∙◌, arith, append_assoc, append-nil}
use Rattle.std.proofs.lemmas.List.Concat.{flat_map-append}
use Rattle.ledger_bytes.specs.Begins.{Begins}
use Rattle.journal_record.specs.Entry.{Entry}
use Rattle.time_peg.specs.Entries.{Making, NotaryState}
use Rattle.ledger_model.specs.Anchors.{peg_at}
use Rattle.ledger_model.specs.Growing.{Grows}
use Rattle.ledger_model.specs.History.{History, id, size, journals, journals_of, point}
use Rattle.ledger_model.specs.Lawful.{AreLawful, IsLawful}
use Rattle.ledger_model.specs.Notary.{asks, Changes, ChangesBy}
use Rattle.ledger_model.specs.Pegs.{PeggedFrom, Pegged}
use Rattle.ledger_model.specs.Rules.{job_of, judged_at, after_step, after_steps, after_window, after}
use Rattle.ledger_model.specs.Scheme.{Scheme}
use Rattle.ledger_model.specs.Step.{Step}
use Rattle.ledger_model.specs.Took.{Took}
use Rattle.ledger_model.specs.declared.job.Job.{Job}
use Rattle.ledger_model.proofs.DueLaws.{after_steps-append, grows_steps}
use Rattle.ledger_model.proofs.GrowLaws.{grows_job, grows_size, size_close}
use Rattle.ledger_model.proofs.PegLaws.{from_job, from_close, from_fewer, from_later, from_steps, from_windows, grows_point}
use Rattle.ledger_cli.specs.Taken.{IsUnasked, AllUnasked, EachUnasked, TakesFirst, TookSome}
use Rattle.ledger_cli.proofs.LineLaws.{after-append}
use Rattle.ledger_cli.proofs.NotaryLaws.{took_parts}

-- a step that the notary had no part in: its list stays, as it may where a call failed
unasked_by : (making : Option Making) (asked : Bool) (peg : List ℕ) (before now : List (List ℕ)) → now ≡ before → Changes asked true making peg before now
unasked_by making false peg before now same = same
unasked_by making true peg before now same = inl same

changes_unasked : (n : NotaryState) (g : History) (step : Step) (job : Job) → IsUnasked n step → ChangesBy g n.origin.making step job
changes_unasked n g step job u =
    subst (λ v. Changes (asks g step.before job) v n.origin.making (peg_at g (size g)) step.before step.after) (sym u.0)
    (unasked_by n.origin.making (asks g step.before job) (peg_at g (size g)) step.before step.after (u.2 ∙ sym u.1))

module _ (scheme : Scheme) where
  some_after : (h : History) (steps : List Step) → 0 < size h → 0 < size (after_steps scheme h steps)
  some_after h steps some = omega (arith, some, grows_size h (after_steps scheme h steps) (grows_steps scheme h steps))

  some_window : (h : History) (window : List Step) → 0 < size h → 0 < size (after_window scheme h window)
  some_window h window some = omega (arith, some_after h window some, size_close (after_steps scheme h window))

  from_unasked : {q : ℕ} (h : History) (n : NotaryState) (steps : List Step) → 0 < size h → AllUnasked n steps → PeggedFrom q h n.entries → PeggedFrom q (after_steps scheme h steps) n.entries
  unfolding after_step
  from_unasked {q} h n [] some u p = p
  from_unasked {q} h n (step ∷ steps) some u p =
      let job = job_of scheme (id h) step.line in
      from_unasked (after_step scheme h step) n steps (omega (arith, some, grows_size h (after_step scheme h step) (grows_job h step job))) u.1
      (subst (PeggedFrom q (after_step scheme h step)) u.0.2 (from_job n.origin.making h step job some (subst (PeggedFrom q h) (sym u.0.1) p) (changes_unasked n (judged_at h job) step job u.0)))

  from_windows_unasked : {q : ℕ} (h : History) (n : NotaryState) (windows : List (List Step)) → 0 < size h → EachUnasked n windows → PeggedFrom q h n.entries → PeggedFrom q (after scheme h windows) n.entries
  from_windows_unasked {q} h n [] some u p = p
  from_windows_unasked {q} h n (window ∷ windows) some u p =
      from_windows_unasked (after_window scheme h window) n windows (some_window h window some) u.1
      (from_close (after_steps scheme h window) n.entries (some_after h window some) (from_unasked h n window some u.0 p))

  from_first : {q : ℕ} (h : History) (n m : NotaryState) (now : List Step) (windows : List (List Step)) → 0 < size h → TakesFirst m now windows → Took scheme h n now m → PeggedFrom q h n.entries → PeggedFrom q (after scheme h windows) m.entries
  from_first {q} h n m now [] some first took p = subst (λ (x : NotaryState). PeggedFrom q h x.entries) (sym (subst (λ (l : List Step). Took scheme h n l m) first took)) p
  from_first {q} h n m now (window ∷ windows) some first took p =
      let rest = first.0 in
      let k = after_steps scheme h now in
      let whole : PeggedFrom q (after_steps scheme h window) m.entries =
      subst (λ l. PeggedFrom q (after_steps scheme h l) m.entries) (sym first.1)
      (subst (λ g. PeggedFrom q g m.entries) (sym (after_steps-append scheme h now rest))
      (from_unasked k m rest (some_after h now some) first.2 (from_steps scheme h n m now some took p))) in
      from_windows_unasked (after_window scheme h window) m windows (some_window h window some) first.3
      (from_close (after_steps scheme h window) m.entries (some_after h window some) whole)

  some_windows : (h : History) (windows : List (List Step)) → 0 < size h → 0 < size (after scheme h windows)
  some_windows h [] some = some
  some_windows h (window ∷ windows) some = some_windows (after_window scheme h window) windows (some_window h window some)

  -- a run that stopped
  pub pegged_some : {q : ℕ} (h : History) (n m : NotaryState) (windows : List (List Step)) → 0 < size h → TookSome scheme h n windows m → PeggedFrom q h n.entries → PeggedFrom q (after scheme h windows) m.entries
  pegged_some {q} h n m windows some t p =
      let o = took_parts scheme h n m windows t in
      subst (λ l. PeggedFrom q (after scheme h l) m.entries) (sym t.split)
      (subst (λ g. PeggedFrom q g m.entries) (sym (after-append scheme h t.done t.rest))
      (from_first (after scheme h t.done) o.between m t.now t.rest (some_windows h t.done some) t.first o.steps (from_windows scheme h n o.between t.done some o.whole p)))

-- a lawful history has a journal
pub some_journal : (h : History) → IsLawful h → 0 < size h
some_journal h l = by_list (journals h) l.journals_are where
  by_list : (es : List Entry) → AreLawful es → 0 < length es
  by_list [] a = absurd a.founded
  by_list (e ∷ es) a = omega arith

-- the journals of a history whose blocks begin with those of one that has no open block
journals_on : (kept whole : History) → kept.waiting ≡ [] → (b : Begins kept.closed whole.closed) → journals whole ≡ journals kept ++ (journals_of b.rest ++ whole.waiting)
journals_on kept whole none b =
    let more = journals_of b.rest ++ whole.waiting in
    ap (λ bs. journals_of bs ++ whole.waiting) b.is ∙ ap (λ js. js ++ whole.waiting) (flat_map-append (λ (x : List Entry). x) kept.closed b.rest)
    ∙ append_assoc (journals_of kept.closed) (journals_of b.rest) whole.waiting
    ∙ ap (λ js. js ++ more) (sym (append-nil (journals_of kept.closed)) ∙ ap (λ w. journals_of kept.closed ++ w) (sym none))

-- The history of an image, which begins the whole one and goes on from h: where the list has the entries from h's point on, it has
-- those that this one keeps.
pub pegged_kept : (h kept whole : History) (es : List (List ℕ)) → 0 < size kept → h.waiting ≡ [] → kept.waiting ≡ [] → Begins h.closed kept.closed → Begins kept.closed whole.closed → PeggedFrom (point h) whole es → Pegged kept es
pegged_kept h kept whole es some settled none front b p =
    let goes : Grows h kept = record { more = journals_of front.rest ++ kept.waiting; journals_are = journals_on h kept settled front; blocks = front.rest; closed_are = front.is } in
    from_later (point kept) kept es (grows_point h kept goes)
    (from_fewer kept whole (journals_of b.rest ++ whole.waiting) es (journals_on kept whole none b) some p)

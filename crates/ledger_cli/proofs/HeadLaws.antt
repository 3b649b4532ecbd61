-- Lemmas on the moments of a run: what stood at one stands at each later one.
use Rattle.std.proofs.Common.{◌≡◌, ℕ, List, [], ◌∷◌, ◌++◌, refl, ap, sym, subst, ◌∙◌}
use Rattle.batch_committer.proofs.WayLaws.{begins_then}
use Rattle.journal_record.specs.Entry.{Entry}
use Rattle.ledger_bytes.specs.Begins.{Begins}
use Rattle.time_peg.specs.Entries.{NotaryState, IsList}
use Rattle.ledger_model.specs.Anchors.{peg_at}
use Rattle.ledger_model.specs.History.{History, id, size, journals}
use Rattle.ledger_model.specs.Lawful.{IsLawful}
use Rattle.ledger_model.specs.Notary.{asks}
use Rattle.ledger_model.specs.Rules.{job_of, judged_at, after_step, after_steps, after_window, after}
use Rattle.ledger_model.specs.Scheme.{Scheme}
use Rattle.ledger_model.specs.Step.{Step}
use Rattle.ledger_model.specs.Took.{Took, TookAll, notary_after}
use Rattle.ledger_model.proofs.DueLaws.{after_steps-append, grows_steps, grows_windows}
use Rattle.ledger_model.proofs.KeepLaws.{journals_close, run_lawful}
use Rattle.proof_maker.proofs.WrittenLaws.{leads_on}
use Rattle.ledger_cli.specs.Heads.{list_after, list_behind, IsMoment, HeadsLeadOn}
use Rattle.ledger_cli.specs.Taken.{taken}
use Rattle.ledger_cli.proofs.CountedLaws.{change_list}
use Rattle.ledger_cli.proofs.LineLaws.{after-append}
use Rattle.ledger_cli.proofs.ListLaws.{took_goes, all_goes}
use Rattle.ledger_cli.proofs.NotaryLaws.{all_then, all_split, flat}

list_after-append : (es : List (List ℕ)) (xs ys : List Step) → list_after es (xs ++ ys) ≡ list_after (list_after es xs) ys
list_after-append es [] ys = refl
list_after-append es (x ∷ xs) ys = list_after-append x.after xs ys

module _ (scheme : Scheme) where
  -- ---- the notary's list after steps in which it took part

  took_list : (h : History) (n m : NotaryState) (steps : List Step) → IsList n.entries → Took scheme h n steps m → (m.entries ≡ list_after n.entries steps) × IsList m.entries
  took_list h n m [] list t = (ap (λ (x : NotaryState). x.entries) t, subst (λ (x : NotaryState). IsList x.entries) (sym t) list)
  took_list h n m (step ∷ steps) list t =
      let job = job_of scheme (id h) step.line in
      let g = judged_at h job in
      let now = change_list n.origin.making (asks g step.before job) step.failed (peg_at g (size g)) step.before step.after (subst IsList (sym t.0) list) t.1.list in
      took_list (after_step scheme h step) (notary_after n step) m steps now t.2

  all_list : (h : History) (n m : NotaryState) (windows : List (List Step)) → IsList n.entries → TookAll scheme h n windows m → (m.entries ≡ list_behind n.entries windows) × IsList m.entries
  all_list h n m [] list t = (ap (λ (x : NotaryState). x.entries) t, subst (λ (x : NotaryState). IsList x.entries) (sym t) list)
  all_list h n m (window ∷ windows) list t =
      let first = took_list h n t.0 window list t.1 in
      let more = all_list (after_window scheme h window) t.0 m windows first.1 t.2 in
      (more.0 ∙ ap (λ es. list_after es (flat windows)) first.0 ∙ sym (list_after-append n.entries window (flat windows)), more.1)

  took_split : (h : History) (n m : NotaryState) (xs ys : List Step) → Took scheme h n (xs ++ ys) m → (mid : NotaryState) × Took scheme h n xs mid × Took scheme (after_steps scheme h xs) mid ys m
  took_split h n m [] ys t = (n, refl, t)
  took_split h n m (x ∷ xs) ys t = let r = took_split (after_step scheme h x) (notary_after n x) m xs ys t.2 in (r.0, (t.0, t.1, r.1), r.2)

  -- ---- at a moment of a run

  -- the notary took part in the steps up to there, and its list only went on from there
  record TookPart (h : History) (n m : NotaryState) (moment : List (List Step)) : Type 0 where
    between : NotaryState
    took : TookAll scheme h n moment between
    list : Begins between.entries m.entries

  part_taken : (h : History) (n m : NotaryState) (done : List (List Step)) (now rest : List Step) (behind : List (List Step)) → TookAll scheme h n (done ++ (now ++ rest) ∷ behind) m → TookPart h n m (taken done now)
  part_taken h n m done now rest behind t =
      let s = all_split scheme h n m done ((now ++ rest) ∷ behind) t in
      let g = after scheme h done in
      let last = s.2.0 in
      let p = took_split g s.0 last now rest s.2.1 in record {
        between = p.0;
        took = all_then scheme h n s.0 p.0 done (now ∷ []) s.1 (p.0, p.1, refl);
        list = begins_then p.0.entries last.entries m.entries (took_goes scheme (after_steps scheme g now) p.0 last rest p.2).begins (all_goes scheme (after_window scheme g (now ++ rest)) last m behind s.2.2).begins;
      }

  moment_taken : (h : History) (n m : NotaryState) (moment windows : List (List Step)) → IsMoment moment windows → TookAll scheme h n windows m → TookPart h n m moment
  moment_taken h n m moment windows is t =
      subst (TookPart h n m) (sym is.moment_is) (part_taken h n m is.done is.now is.rest is.behind (subst (λ l. TookAll scheme h n l m) is.windows_are t))

  -- the journals that stand there go on
  part_begins : (h : History) (done : List (List Step)) (now rest : List Step) (behind : List (List Step)) → Begins (journals (after scheme h (taken done now))) (journals (after scheme h (done ++ (now ++ rest) ∷ behind)))
  part_begins h done now rest behind =
      let g = after scheme h done in
      let k = after_steps scheme g now in
      let there : journals (after scheme h (taken done now)) ≡ journals k = ap journals (after-append scheme h done (now ∷ [])) ∙ journals_close k in
      let last = after_window scheme g (now ++ rest) in
      let window : journals last ≡ journals (after_steps scheme k rest) = journals_close (after_steps scheme g (now ++ rest)) ∙ ap journals (after_steps-append scheme g now rest) in
      let grows = grows_steps scheme k rest in
      let more = grows_windows scheme last behind in
      let first : Begins (journals k) (journals last) = record { rest = grows.more; is = window ∙ grows.journals_are } in
      let second : Begins (journals last) (journals (after scheme last behind)) = record { rest = more.more; is = more.journals_are } in
      subst (λ (x : List Entry × List Entry). Begins x.0 x.1) (λ i. (sym there i, ap journals (sym (after-append scheme h done ((now ++ rest) ∷ behind))) i))
      (begins_then (journals k) (journals last) (journals (after scheme last behind)) first second)

  moment_begins : (h : History) (moment windows : List (List Step)) → IsMoment moment windows → Begins (journals (after scheme h moment)) (journals (after scheme h windows))
  moment_begins h moment windows is =
      subst (λ (x : List (List Step) × List (List Step)). Begins (journals (after scheme h x.0)) (journals (after scheme h x.1))) (λ i. (sym is.moment_is i, sym is.windows_are i))
      (part_begins h is.done is.now is.rest is.behind)

  -- ---- its heads lead on

  pub heads_lead_on : (h : History) (n m : NotaryState) (windows : List (List Step)) → IsLawful h → IsList n.entries → TookAll scheme h n windows m → HeadsLeadOn scheme h n.entries windows
  heads_lead_on h n m windows lawful list took = λ earlier later first second.
      let there = moment_taken h n m later windows second took in
      let here = moment_taken h n there.between earlier later first there.took in
      let at = all_list h n there.between later list there.took in
      let was = all_list h n here.between earlier list here.took in
      leads_on (after scheme h earlier) (after scheme h later) (list_behind n.entries earlier) (list_behind n.entries later) (run_lawful scheme h later lawful) (moment_begins h earlier later first)
      (subst IsList at.0 at.1) (subst (λ (x : List (List ℕ) × List (List ℕ)). Begins x.0 x.1) (λ i. (was.0 i, at.0 i)) here.list)

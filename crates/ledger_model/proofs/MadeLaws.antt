-- The entries of a run are made as the notary makes them.
use Rattle.std.proofs.Common.{◌≡◌, ℕ, inl, inr, Bool, true, false, List, [], ◌∷◌, ◌++◌, append_assoc, append-nil, Option, refl, sym, ap, ◌∙◌, subst}
use Rattle.ledger_model.specs.Anchors.{peg_at}
use Rattle.ledger_model.specs.History.{History, id, size}
use Rattle.ledger_model.specs.Notary.{asks, Changes}
use Rattle.ledger_model.specs.Rules.{after_step, job_of, judged_at}
use Rattle.ledger_model.specs.Scheme.{Scheme}
use Rattle.ledger_model.specs.Step.{Step}
use Rattle.time_peg.specs.Entries.{Making, NotaryState, HasOneMore, entry_of}
use Rattle.ledger_model.specs.Took.{notary_after, AreMade, GoesOnMade, Took}

-- what stays of the notary stays
pub took_origin : (scheme : Scheme) (h : History) (n m : NotaryState) (steps : List Step) → Took scheme h n steps m → m.origin ≡ n.origin
took_origin scheme h n m [] a = ap (λ (x : NotaryState). x.origin) a
took_origin scheme h n m (step ∷ steps) a = took_origin scheme (after_step scheme h step) (notary_after n step) m steps a.2

module _ (making : Option Making) where
  made_append : (old xs ys : List (List ℕ)) → AreMade making old xs → AreMade making (old ++ xs) ys → AreMade making old (xs ++ ys)
  made_append old [] ys a b = subst (λ l. AreMade making l ys) (append-nil old) b
  made_append old (x ∷ xs) ys a b =
      (a.0, made_append (old ++ x ∷ []) xs ys a.1 (subst (λ l. AreMade making l ys) (sym (append_assoc old (x ∷ []) xs)) b))

  none_more : (old new : List (List ℕ)) → new ≡ old → GoesOnMade making old new
  none_more old new is = ([], is ∙ sym (append-nil old), tt)

  one_more : (peg : List ℕ) (old new : List (List ℕ)) → HasOneMore making peg old new → GoesOnMade making old new
  one_more peg old new m = (entry_of m.0 peg m.1 ∷ [], m.3, ((m.0, peg, m.1, refl, m.4), tt))

  join : (a b c : List (List ℕ)) → GoesOnMade making a b → GoesOnMade making b c → GoesOnMade making a c
  join a b c x y = (
    x.0 ++ y.0,
    y.1 ∙ ap (λ l. l ++ y.0) x.1 ∙ append_assoc a x.0 y.0,
    made_append a x.0 y.0 x.2 (subst (λ l. AreMade making l y.0) x.1 y.2),
  )

  pub changes_made : (asked failed : Bool) (peg : List ℕ) (before after : List (List ℕ)) → Changes asked failed making peg before after → GoesOnMade making before after
  changes_made false failed peg before after same = none_more before after same
  changes_made true false peg before after more = one_more peg before after more.0
  changes_made true true peg before after (inl same) = none_more before after same
  changes_made true true peg before after (inr more) = one_more peg before after more.0

pub took_made : (scheme : Scheme) (h : History) (n m : NotaryState) (steps : List Step) → Took scheme h n steps m → GoesOnMade n.origin.making n.entries m.entries
took_made scheme h n m [] a = none_more n.origin.making n.entries m.entries (ap (λ (x : NotaryState). x.entries) a)
took_made scheme h n m (step ∷ steps) a =
    let job = job_of scheme (id h) step.line in
    let g = judged_at h job in
    join n.origin.making n.entries step.after m.entries
    (subst (λ l. GoesOnMade n.origin.making l step.after) a.0 (changes_made n.origin.making (asks g step.before job) step.failed (peg_at g (size g)) step.before step.after a.1.list))
    (took_made scheme (after_step scheme h step) (notary_after n step) m steps a.2)

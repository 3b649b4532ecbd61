-- A run of steps after another, as the notary took part in both.
use Rattle.std.proofs.Common.{◌≡◌, ℕ, Bool, true, false, cond, List, [], ◌∷◌, ◌++◌, refl, sym, ap, ◌∙◌, subst}
use Rattle.std.proofs.lemmas.Bool.{true≢false}
use Rattle.ledger_bytes.specs.Causes.{count_after}
use Rattle.ledger_model.specs.History.{History}
use Rattle.ledger_model.specs.Rules.{after_step, after_steps}
use Rattle.ledger_model.specs.Scheme.{Scheme}
use Rattle.ledger_model.specs.Step.{Step}
use Rattle.time_peg.specs.Entries.{NotaryState}
use Rattle.ledger_model.specs.Took.{counts_after, notary_after, NoneCall, Took}

pub took_then : (scheme : Scheme) (h : History) (n mid m : NotaryState) (xs ys : List Step) → Took scheme h n xs mid → Took scheme (after_steps scheme h xs) mid ys m → Took scheme h n (xs ++ ys) m
took_then scheme h n mid m [] ys a b = subst (λ (x : NotaryState). Took scheme h x ys m) a b
took_then scheme h n mid m (x ∷ xs) ys a b = (a.0, a.1, took_then scheme (after_step scheme h x) (notary_after n x) mid m xs ys a.2 b)

pub took_counted : (scheme : Scheme) (h : History) (n m : NotaryState) (steps : List Step) → Took scheme h n steps m → m.faults ≡ counts_after steps n.faults
took_counted scheme h n m [] a = ap (λ (x : NotaryState). x.faults) a
took_counted scheme h n m (step ∷ steps) a = took_counted scheme (after_step scheme h step) (notary_after n step) m steps a.2

-- where no step calls the notary none failed
uncounted : (failed called : Bool) (n : ℕ) → (failed ≡ true → called ≡ true) → called ≡ false → cond failed (count_after n) n ≡ n
uncounted true called n calls none = absurd (true≢false (sym (calls refl) ∙ none))
uncounted false called n calls none = refl

pub took_uncalled : (scheme : Scheme) (h : History) (n m : NotaryState) (steps : List Step) → Took scheme h n steps m → NoneCall scheme h steps → m.faults ≡ n.faults
took_uncalled scheme h n m [] a none = ap (λ (x : NotaryState). x.faults) a
took_uncalled scheme h n m (step ∷ steps) a none = took_uncalled scheme (after_step scheme h step) (notary_after n step) m steps a.2 none.1 ∙ uncounted step.failed _ n.faults a.1.called none.0

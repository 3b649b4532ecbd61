-- Lemmas on the steps that a session takes: the history and what is due after them.
use Rattle.std.proofs.Common.{◌≡◌, List, [], ◌∷◌, ◌++◌, refl, ap, sym, subst, ◌∙◌, append_assoc, append-nil}
use Rattle.ledger_model.specs.Dues.{dues, all_dues, AllCounted, EachCounted}
use Rattle.ledger_model.specs.Growing.{Grows}
use Rattle.ledger_model.specs.History.{History, close}
use Rattle.ledger_model.specs.Rules.{after_steps, after_window, after}
use Rattle.ledger_model.specs.Scheme.{Scheme}
use Rattle.ledger_model.specs.Step.{Step}
use Rattle.ledger_model.specs.declared.due.Due.{Due}
use Rattle.ledger_model.proofs.DueLaws.{after_steps-append, dues-append, grows_steps, grows_windows}
use Rattle.ledger_model.proofs.GrowLaws.{close_none, grows_close, grows_not, grows_then}

-- the history after whole windows and some steps of the window at hand, and what is due for these
abbrev pub reached : Scheme → List (List Step) → List Step → History → History
reached scheme done current h = after_steps scheme (after scheme h done) current

abbrev pub owed : Scheme → List (List Step) → List Step → History → List Due
owed scheme done current h = all_dues scheme h done ++ dues scheme (after scheme h done) current

pub after-append : (scheme : Scheme) (h : History) (xs ys : List (List Step)) → after scheme h (xs ++ ys) ≡ after scheme (after scheme h xs) ys
after-append scheme h [] ys = refl
after-append scheme h (x ∷ xs) ys = after-append scheme (after_window scheme h x) xs ys

pub all_dues-append : (scheme : Scheme) (h : History) (xs ys : List (List Step)) → all_dues scheme h (xs ++ ys) ≡ all_dues scheme h xs ++ all_dues scheme (after scheme h xs) ys
all_dues-append scheme h [] ys = refl
all_dues-append scheme h (x ∷ xs) ys =
    let g = after_window scheme h x in
    ap (λ l. dues scheme h x ++ l) (all_dues-append scheme g xs ys) ∙ sym (append_assoc (dues scheme h x) (all_dues scheme g xs) (all_dues scheme (after scheme g xs) ys))

pub after_none : (scheme : Scheme) (h : History) (steps : List (List Step)) → h.waiting ≡ [] → (after scheme h steps).waiting ≡ []
after_none scheme h [] none = none
after_none scheme h (window ∷ steps) none = after_none scheme (after_window scheme h window) steps (close_none (after_steps scheme h window))

-- whole windows, and one more where it has steps
abbrev pub with_end : List (List Step) → List Step → List (List Step)
with_end done [] = done
with_end done (x ∷ xs) = done ++ (x ∷ xs) ∷ []

-- a run of steps goes on from here
pub record GoesOn (scheme : Scheme) (done : List (List Step)) (current : List Step) (h : History) (steps : List (List Step)) : Type 0 where
  pub grows : Grows (reached scheme done current h) (after scheme h steps)
  pub rest : List Due
  pub owes : all_dues scheme h steps ≡ owed scheme done current h ++ rest

module _ (scheme : Scheme) (h : History) where
  -- some steps more
  pub reach_on : (done : List (List Step)) (current steps : List Step) → after_steps scheme (reached scheme done current h) steps ≡ reached scheme done (current ++ steps) h
  reach_on done current steps = sym (after_steps-append scheme (after scheme h done) current steps)

  pub owe_on : (done : List (List Step)) (current steps : List Step) → owed scheme done current h ++ dues scheme (reached scheme done current h) steps ≡ owed scheme done (current ++ steps) h
  owe_on done current steps =
      let g = after scheme h done in
      append_assoc (all_dues scheme h done) (dues scheme g current) (dues scheme (reached scheme done current h) steps)
      ∙ ap (λ l. all_dues scheme h done ++ l) (sym (dues-append scheme g current steps))

  -- the end of the window at hand
  pub window_on : (done : List (List Step)) (current : List Step) → close (reached scheme done current h) ≡ reached scheme (done ++ current ∷ []) [] h
  window_on done current = sym (after-append scheme h done (current ∷ []))

  pub dues_on : (done : List (List Step)) (current : List Step) → owed scheme done current h ≡ owed scheme (done ++ current ∷ []) [] h
  dues_on done current =
      sym (append-nil (all_dues scheme h (done ++ current ∷ []))
      ∙ all_dues-append scheme h done (current ∷ [])
      ∙ ap (λ l. all_dues scheme h done ++ l) (append-nil (dues scheme (after scheme h done) current)))

  -- a run that goes on
  pub on_windows : (done : List (List Step)) (current rest : List Step) (more : List (List Step)) → GoesOn scheme done current h (done ++ (current ++ rest) ∷ more)
  on_windows done now rest more =
      let g = after scheme h done in
      let k = after_steps scheme g now in
      let e = after_steps scheme g (now ++ rest) in
      let ds = all_dues scheme h done in
      let later = all_dues scheme (close e) more in record {
        grows =
            subst (Grows k) (sym (after-append scheme h done ((now ++ rest) ∷ more)))
            (grows_then k e (after scheme (close e) more) (subst (Grows k) (sym (after_steps-append scheme g now rest)) (grows_steps scheme k rest))
            (grows_then e (close e) (after scheme (close e) more) (grows_close e) (grows_windows scheme (close e) more)));
        rest = dues scheme k rest ++ later;
        owes =
            all_dues-append scheme h done ((now ++ rest) ∷ more)
            ∙ ap (λ l. ds ++ (l ++ later)) (dues-append scheme g now rest)
            ∙ ap (λ l. ds ++ l) (append_assoc (dues scheme g now) (dues scheme k rest) later)
            ∙ sym (append_assoc ds (dues scheme g now) (dues scheme k rest ++ later));
      }

  pub on_stays : (done : List (List Step)) → GoesOn scheme done [] h done
  on_stays done = let ds = all_dues scheme h done in record {
    grows = grows_not (after scheme h done);
    rest = [];
    owes = sym (append-nil (ds ++ []) ∙ append-nil ds);
  }

-- steps are counted, whole windows and those of the window at hand
pub record Counted (done : List (List Step)) (current : List Step) : Type 0 where
  pub windows_are : EachCounted done
  pub steps_are : AllCounted current

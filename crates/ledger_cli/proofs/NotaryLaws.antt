-- Lemmas on the notary's part in the steps that a session takes.
use Rattle.std.specs.Prelude.{if◌then◌else◌}
use Rattle.std.proofs.Common.{◌≡◌, ℕ, List, [], ◌∷◌, ◌++◌, refl, ap, sym, subst, ◌∙◌, append_assoc, append-nil}
use Rattle.std.specs.List.{flat_map}
use Rattle.std.proofs.lemmas.List.Concat.{flat_map-append}
use Rattle.ledger_bytes.specs.Begins.{Begins}
use Rattle.ledger_bytes.specs.Causes.{count_after}
use Rattle.time_peg.specs.Entries.{NotaryState}
use Rattle.ledger_model.specs.History.{History}
use Rattle.ledger_model.specs.Rules.{after_steps, after_window, after}
use Rattle.ledger_model.specs.Scheme.{Scheme}
use Rattle.ledger_model.specs.Step.{Step}
use Rattle.ledger_model.specs.Took.{Took, TookAll, counts_after}
use Rattle.ledger_model.proofs.TookLaws.{took_counted, took_then}
use Rattle.ledger_cli.specs.Taken.{EachUnasked, TakesFirst, taken, TookSome}
use Rattle.ledger_cli.proofs.LineLaws.{with_end}

pub all_then : (scheme : Scheme) (h : History) (n mid m : NotaryState) (xs ys : List (List Step)) → TookAll scheme h n xs mid → TookAll scheme (after scheme h xs) mid ys m → TookAll scheme h n (xs ++ ys) m
all_then scheme h n mid m [] ys a b = subst (λ (x : NotaryState). TookAll scheme h x ys m) a b
all_then scheme h n mid m (x ∷ xs) ys a b = (a.0, a.1, all_then scheme (after_window scheme h x) a.0 mid m xs ys a.2 b)

pub all_split : (scheme : Scheme) (h : History) (n m : NotaryState) (xs ys : List (List Step)) → TookAll scheme h n (xs ++ ys) m → (mid : NotaryState) × TookAll scheme h n xs mid × TookAll scheme (after scheme h xs) mid ys m
all_split scheme h n m [] ys t = (n, refl, t)
all_split scheme h n m (x ∷ xs) ys t = let r = all_split scheme (after_window scheme h x) t.0 m xs ys t.2 in (r.0, (t.0, t.1, r.1), r.2)

-- ---- whole windows, and some steps of the window at hand

pub record TookOn (scheme : Scheme) (h : History) (n : NotaryState) (done : List (List Step)) (current : List Step) (m : NotaryState) : Type 0 where
  pub between : NotaryState
  pub whole : TookAll scheme h n done between
  pub steps : Took scheme (after scheme h done) between current m

-- so did all that were taken, where the run stopped
pub took_parts : (scheme : Scheme) (h : History) (n m : NotaryState) (windows : List (List Step)) (t : TookSome scheme h n windows m) → TookOn scheme h n t.done t.now m
took_parts scheme h n m windows t =
    let r = all_split scheme h n m t.done (t.now ∷ []) t.took in
    record { between = r.0; whole = r.1; steps = subst (Took scheme (after scheme h t.done) r.0 t.now) (sym r.2.2) r.2.1 }

module _ (scheme : Scheme) (h : History) (n : NotaryState) where
  pub took_none : TookOn scheme h n [] [] n
  took_none = record { between = n; whole = refl; steps = refl }

  pub took_on : (done : List (List Step)) (current steps : List Step) (mid m : NotaryState) → TookOn scheme h n done current mid → Took scheme (after_steps scheme (after scheme h done) current) mid steps m → TookOn scheme h n done (current ++ steps) m
  took_on done current steps mid m a b = record { between = a.between; whole = a.whole; steps = took_then scheme (after scheme h done) a.between mid m current steps a.steps b }

  -- the window at hand is whole
  pub took_window : (done : List (List Step)) (current : List Step) (m : NotaryState) → TookOn scheme h n done current m → TookAll scheme h n (done ++ current ∷ []) m
  took_window done current m a = all_then scheme h n a.between m done (current ∷ []) a.whole (m, a.steps, refl)

  pub window_took : (done : List (List Step)) (current : List Step) (m : NotaryState) → TookOn scheme h n done current m → TookOn scheme h n (done ++ current ∷ []) [] m
  window_took done current m a = record { between = m; whole = took_window done current m a; steps = refl }

  -- the script has ended
  pub took_end : (done : List (List Step)) (current : List Step) (m : NotaryState) → TookOn scheme h n done current m → TookAll scheme h n (with_end done current) m
  took_end done [] m a = subst (TookAll scheme h n done) (sym a.steps) a.whole
  took_end done (x ∷ xs) m a = took_window done (x ∷ xs) m a

  -- all was taken
  pub taken_all : (done : List (List Step)) (m : NotaryState) → TookAll scheme h n done m → TookAll scheme h n (taken done []) m
  taken_all done m a = all_then scheme h n m m done ([] ∷ []) a (m, refl, refl)

-- nothing was taken
pub none_first : (n : NotaryState) (windows : List (List Step)) → EachUnasked n windows → TakesFirst n [] windows
none_first n [] e = refl
none_first n (window ∷ windows) e = (window, refl, e.0, e.1)

-- ---- what was counted

abbrev pub flat : List (List Step) → List Step
flat windows = flat_map (λ window. window) windows

counts_append : (xs ys : List Step) (n : ℕ) → counts_after (xs ++ ys) n ≡ counts_after ys (counts_after xs n)
counts_append [] ys n = refl
counts_append (x ∷ xs) ys n = counts_append xs ys (if x.failed then count_after n else n)

pub all_counted : (scheme : Scheme) (h : History) (n m : NotaryState) (windows : List (List Step)) → TookAll scheme h n windows m → m.faults ≡ counts_after (flat windows) n.faults
all_counted scheme h n m [] t = ap (λ (x : NotaryState). x.faults) t
all_counted scheme h n m (window ∷ windows) t =
    all_counted scheme (after_window scheme h window) t.0 m windows t.2 ∙ ap (counts_after (flat windows)) (took_counted scheme h n t.0 window t.1) ∙ sym (counts_append window (flat windows) n.faults)

-- the steps that were taken are the first
first_begins : (n : NotaryState) (now : List Step) (windows : List (List Step)) → TakesFirst n now windows → Begins now (flat windows)
first_begins n now [] f = record { rest = []; is = sym (append-nil now ∙ f) }
first_begins n now (window ∷ windows) f = record { rest = f.0 ++ flat windows; is = ap (λ l. l ++ flat windows) f.1 ∙ append_assoc now f.0 (flat windows) }

flat_taken : (done : List (List Step)) (now : List Step) → flat (taken done now) ≡ flat done ++ now
flat_taken done now = flat_map-append (λ (window : List Step). window) done (now ∷ []) ∙ ap (λ l. flat done ++ l) (append-nil now)

pub taken_begins : (scheme : Scheme) (h : History) (n m : NotaryState) (windows : List (List Step)) (t : TookSome scheme h n windows m) → Begins (flat (taken t.done t.now)) (flat windows)
taken_begins scheme h n m windows t = let b = first_begins m t.now t.rest t.first in record {
  rest = b.rest;
  is =
      ap flat t.split ∙ flat_map-append (λ (window : List Step). window) t.done t.rest ∙ ap (λ l. flat t.done ++ l) b.is
      ∙ sym (append_assoc (flat t.done) t.now b.rest) ∙ ap (λ l. l ++ b.rest) (sym (flat_taken t.done t.now));
}

pub some_counted : (scheme : Scheme) (h : History) (n m : NotaryState) (windows : List (List Step)) (t : TookSome scheme h n windows m) → m.faults ≡ counts_after (flat (taken t.done t.now)) n.faults
some_counted scheme h n m windows t = all_counted scheme h n m (taken t.done t.now) t.took

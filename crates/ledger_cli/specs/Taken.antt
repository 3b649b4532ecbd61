-- How far the lines of a script were taken, and how the notary took part in them.
use Rattle.std.specs.Prelude.{◌≡◌, ⊤, true, List, [], ◌∷◌, ◌++◌}
use Rattle.time_peg.specs.Entries.{NotaryState}
use Rattle.ledger_model.specs.History.{History}
use Rattle.ledger_model.specs.Took.{TookAll}
use Rattle.ledger_model.specs.Scheme.{Scheme}
use Rattle.ledger_model.specs.Step.{Step}

-- a line that wasn't taken: its step stands as one in which the notary failed, which isn't counted, and the list stayed
abbrev pub IsUnasked : NotaryState → Step → Type 0
IsUnasked n step = (step.failed ≡ true) × (step.before ≡ n.entries) × (step.after ≡ n.entries)

-- some lines in one window that weren't taken
abbrev pub AllUnasked : NotaryState → List Step → Type 0
AllUnasked n [] = ⊤
AllUnasked n (step ∷ steps) = IsUnasked n step × AllUnasked n steps

-- the lines of some windows weren't taken
abbrev pub EachUnasked : NotaryState → List (List Step) → Type 0
EachUnasked n [] = ⊤
EachUnasked n (window ∷ windows) = AllUnasked n window × EachUnasked n windows

-- the first of some windows begins with these steps, and no line behind them was taken
abbrev pub TakesFirst : NotaryState → List Step → List (List Step) → Type 0
TakesFirst n now [] = now ≡ []
TakesFirst n now (window ∷ windows) = (rest : List Step) × (window ≡ now ++ rest) × AllUnasked n rest × EachUnasked n windows

-- whole windows, and the first steps of the next one, which end it
abbrev pub taken : List (List Step) → List Step → List (List Step)
taken done now = done ++ now ∷ []

-- Some first windows were taken whole, and of the next one some first steps. Along these the notary goes from one state to the other;
-- it had no part in the lines behind them, also not in an anchor at which the run ended before the notary was asked.
pub record TookSome (scheme : Scheme) (h : History) (n : NotaryState) (windows : List (List Step)) (m : NotaryState) : Type 0 where
  pub done : List (List Step)
  pub now : List Step
  pub rest : List (List Step)
  pub split : windows ≡ done ++ rest
  pub first : TakesFirst m now rest
  pub took : TookAll scheme h n (taken done now) m

-- Example: the windows are [1 2] and [3 4 5], and the run ended behind line 3. `done` is [1 2], `now` is 3, `rest` is
-- [3 4 5]. The notary goes along [1 2] and [3]. Lines 4 and 5 stand as steps in which it failed, with the list that 3 left,
-- and its count has neither.

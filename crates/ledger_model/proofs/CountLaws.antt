-- The numbers of a script's steps are as programs have them.
use Rattle.std.specs.Prelude.{⊤, filter}
use Rattle.std.proofs.Common.{ℕ, ◌+◌, ◌^◌, ◌<◌, ◌≤◌, ◌==◌, Bool, true, false, cond, List, [], ◌∷◌, ◌++◌, length, map, arith, length-append}
use Rattle.script_lines.specs.Grammar.{spoken_line}
use Rattle.script_lines.specs.Receipts.{FitsWord}
use Rattle.ledger_model.specs.Anchors.{stamp_of}
use Rattle.ledger_model.specs.Dues.{IsCounted, AllCounted, EachCounted}
use Rattle.ledger_model.specs.InOrder.{step_of, steps_of}
use Rattle.ledger_model.specs.Step.{Step}
use Rattle.ledger_model.specs.Windows.{Said, said_after, said_lines, fills_window, onto_first, windows_after, windows}
use Rattle.ledger_model.proofs.LineLaws.{spoken-low}

abbrev SaidFits : Said → Type 0
SaidFits x = FitsWord x.lane × FitsWord x.index

abbrev AllSaid : List Said → Type 0
AllSaid [] = ⊤
AllSaid (x ∷ xs) = SaidFits x × AllSaid xs

abbrev EachSaid : List (List Said) → Type 0
EachSaid [] = ⊤
EachSaid (window ∷ windows) = AllSaid window × EachSaid windows

filter_few : (p : List ℕ → Bool) (xs : List (List ℕ)) → length (filter p xs) ≤ length xs
filter_few p [] = omega arith
filter_few p (x ∷ xs) = elim (p x) as (λ v. length (cond v (x ∷ filter p xs) (filter p xs)) ≤ length (x ∷ xs)) [ true ↦ omega (arith, filter_few p xs) | false ↦ omega (arith, filter_few p xs) ]

-- a line has no greater number than there are lines
said_fits : (earlier lines : List (List ℕ)) → length earlier + length lines < 2 ^ 64 → AllSaid (said_after earlier lines)
said_fits earlier [] few = tt
said_fits earlier (line ∷ lines) few = (
  ((let low = spoken-low line in omega (arith, low)), omega (arith, few, filter_few (λ other. (spoken_line other).0 == (spoken_line line).0) earlier)),
  said_fits (earlier ++ line ∷ []) lines (omega (arith, few, length-append earlier (line ∷ []))),
)

onto_fits : (x : Said) (windows : List (List Said)) → SaidFits x → EachSaid windows → EachSaid (onto_first x windows)
onto_fits x [] f e = ((f, tt), tt)
onto_fits x (window ∷ windows) f e = ((f, e.0), e.1)

after_fits : (lines bytes : ℕ) (xs : List Said) → AllSaid xs → EachSaid (windows_after lines bytes xs)
unfolding windows_after
after_fits lines bytes [] a = tt
after_fits lines bytes (x ∷ xs) a =
    elim (fills_window (lines + 1) (bytes + length x.line)) as (λ v. EachSaid (cond v ((x ∷ []) ∷ windows_after 0 0 xs) (onto_first x (windows_after (lines + 1) (bytes + length x.line) xs)))) [
      | true ↦ ((a.0, tt), after_fits 0 0 xs a.1)
      | false ↦ onto_fits x (windows_after (lines + 1) (bytes + length x.line) xs) a.0 (after_fits (lines + 1) (bytes + length x.line) xs a.1)
    ]

step_counted : (x : Said) → SaidFits x → IsCounted (step_of x)
unfolding stamp_of
step_counted x a = record { lane = a.0; index = a.1; entries = omega arith; stamp = tt }

all_counted : (xs : List Said) → AllSaid xs → AllCounted (map step_of xs)
all_counted [] a = tt
all_counted (x ∷ xs) a = (step_counted x a.0, all_counted xs a.1)

each_counted : (windows : List (List Said)) → EachSaid windows → EachCounted (steps_of windows)
each_counted [] e = tt
each_counted (window ∷ windows) e = (all_counted window e.0, each_counted windows e.1)

-- the steps of a script of fewer than 2 ^ 64 lines
pub script_counted : (lines : List (List ℕ)) → length lines < 2 ^ 64 → EachCounted (steps_of (windows (said_lines lines)))
script_counted lines few = each_counted (windows (said_lines lines)) (after_fits 0 0 (said_lines lines) (said_fits [] lines (omega (arith, few))))

-- the first windows, and the first steps of the one behind them
first_counted : (steps rest : List Step) → AllCounted (steps ++ rest) → AllCounted steps
first_counted [] rest a = tt
first_counted (step ∷ steps) rest a = (a.0, first_counted steps rest a.1)

pub parts_counted : (front : List (List Step)) (last rest : List Step) (more : List (List Step)) → EachCounted (front ++ (last ++ rest) ∷ more) → EachCounted (front ++ last ∷ [])
parts_counted [] last rest more e = (first_counted last rest e.0, tt)
parts_counted (window ∷ front) last rest more e = (e.0, parts_counted front last rest more e.1)

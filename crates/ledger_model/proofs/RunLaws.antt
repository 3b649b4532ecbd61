-- Lemmas on what is due for windows: in a later history whose blocks have ended, its lines are the text of the windows.
use Rattle.std.proofs.Common.{◌≡◌, List, [], ◌∷◌, ◌++◌, refl, ap, ◌∙◌}
use Rattle.std.proofs.lemmas.List.Concat.{flat_map-append}
use Rattle.ledger_model.specs.Dues.{due_for, dues, all_dues, due_line, due_lines}
use Rattle.ledger_model.specs.Growing.{Grows}
use Rattle.ledger_model.specs.History.{History, size}
use Rattle.ledger_model.specs.Rules.{after_step, after_steps, after_window, after}
use Rattle.ledger_model.specs.Scheme.{Scheme}
use Rattle.ledger_model.specs.Step.{Step}
use Rattle.ledger_model.specs.Texts.{steps_text, step_text, window_text, text}
use Rattle.ledger_model.specs.declared.due.Due.{Due}
use Rattle.ledger_model.proofs.DueLaws.{steps_kept, all_higher, dues_within, grows_windows}
use Rattle.ledger_model.proofs.GrowLaws.{close_none, grows_close, grows_size, grows_then}

pub due_lines-append : (h : History) (xs ys : List Due) → due_lines h (xs ++ ys) ≡ due_lines h xs ++ due_lines h ys
due_lines-append h xs ys = flat_map-append (due_line h) xs ys

-- what is due for some steps, as their text
lines_are : (scheme : Scheme) (f h : History) (steps : List Step) → due_lines f (dues scheme h steps) ≡ steps_text scheme f h steps
unfolding step_text
lines_are scheme f h [] = refl
lines_are scheme f h (step ∷ steps) = ap (λ rest. due_line f (due_for scheme h step) ++ rest) (lines_are scheme f (after_step scheme h step) steps)

-- the lines of a window in a later history
pub window_lines : (scheme : Scheme) (f h : History) (steps : List Step) → Grows (after_window scheme h steps) f → due_lines f (dues scheme h steps) ≡ window_text scheme h steps
window_lines scheme f h steps later =
    let g = after_window scheme h steps in
    let last = after_steps scheme h steps in
    lines_are scheme f h steps
    ∙ steps_kept scheme h g f 0 steps (close_none last) later (all_higher 0 (size last) (size g) (dues scheme h steps) (grows_size last g (grows_close last)) (dues_within scheme h steps))

-- what is due for some windows is their text
pub run_lines : (scheme : Scheme) (h f : History) (windows : List (List Step)) → Grows (after scheme h windows) f → due_lines f (all_dues scheme h windows) ≡ text scheme h windows
run_lines scheme h f [] later = refl
run_lines scheme h f (window ∷ windows) later =
    let g = after_window scheme h window in
    due_lines-append f (dues scheme h window) (all_dues scheme g windows)
    ∙ ap (λ l. l ++ due_lines f (all_dues scheme g windows)) (window_lines scheme f h window (grows_then g (after scheme g windows) f (grows_windows scheme g windows) later))
    ∙ ap (λ l. window_text scheme h window ++ l) (run_lines scheme g f windows later)

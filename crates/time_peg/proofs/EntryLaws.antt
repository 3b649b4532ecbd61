-- Laws of a notary's list.
use Rattle.std.proofs.Common.{◌≡◌, ℕ, ◌<◌, ◌≤◌, List, [], ◌∷◌, ◌++◌, length, arith, rules, length-append}
use Rattle.std.specs.List.{AllByRecursion}
use Rattle.journal_record.specs.declared.rules.TheConstants.{NOTARY_LIMIT}
use Rattle.time_peg.specs.Entries.{IsList, NeverFalls, last_time, time_in}

never_falls_push : (least : ℕ) (es : List (List ℕ)) (e : List ℕ) → NeverFalls least es → last_time least es ≤ time_in e → NeverFalls least (es ++ e ∷ [])
never_falls_push least [] e times later = search rules
never_falls_push least (x ∷ es) e times later = (times.0, never_falls_push (time_in x) es e times.1 later)

widths_push : (es : List (List ℕ)) (e : List ℕ) → AllByRecursion (λ x. length x ≡ 72) es → length e ≡ 72 → AllByRecursion (λ x. length x ≡ 72) (es ++ e ∷ [])
widths_push [] e widths width = search rules
widths_push (x ∷ es) e widths width = (widths.0, widths_push es e widths.1 width)

pub list_push : (es : List (List ℕ)) (e : List ℕ) → IsList es → length es < NOTARY_LIMIT → length e ≡ 72 → last_time 0 es ≤ time_in e → IsList (es ++ e ∷ [])
list_push es e list few width later = record {
  few = omega (arith, length-append es (e ∷ []), few);
  widths = widths_push es e list.widths width;
  times = never_falls_push 0 es e list.times later;
}

pub list_empty : IsList []
list_empty = record { few = search (rules, arith); widths = search rules; times = search rules }

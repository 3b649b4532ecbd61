-- The marks that journals leave in an index of clues: they ascend, and none is of a clue of zeros.
use Rattle.std.specs.FinMap.{get}
use Rattle.std.specs.List.{list_any, AllByRecursion}
use Rattle.std.specs.Prelude.{filter, nat_le, Some, None}
use Rattle.std.proofs.Common.{◌≡◌, ◌≢◌, ℕ, ◌+◌, ◌<◌, ◌≤◌, ◌||◌, true, false, cond, not, List, [], ◌∷◌, length, map, refl, sym, ◌∙◌, ap, arith}
use Rattle.std.proofs.lemmas.Bool.{true≢false, lt-leb}
use Rattle.std.proofs.lemmas.Slice.Eq.{bytes_eq-Decides}
use Rattle.clue_index.proofs.TableLaws.{tie, tie_apart, get-table_of}
use Rattle.clue_index.specs.Added.{Mark, no_clue, table_of, trail_of}
use Rattle.clue_index.specs.Trail.{Ascends}
use Rattle.journal_record.specs.Entry.{Entry}
use Rattle.ledger_model.specs.Bases.{clue_mark_of, clues_added}
use Rattle.ledger_model.specs.Clues.{has_clue}
use Rattle.ledger_model.proofs.LawfulLaws.{AreFrom}

abbrev pub marks : List Entry → List Mark
marks es = map clue_mark_of (filter has_clue es)

above_all : (m n : ℕ) (es : List Entry) → AreFrom m es → n < m → AllByRecursion (λ k. n < k) (map (λ (x : Mark). x.jsn) (marks es))
above_all m n [] from lt = tt
above_all m n (e ∷ es) from lt =
    elim (has_clue e) as (λ v. AllByRecursion (λ k. n < k) (map (λ (x : Mark). x.jsn) (map clue_mark_of (cond v (e ∷ filter has_clue es) (filter has_clue es))))) [
      | true ↦ (omega (arith, from.0, lt), above_all (m + 1) n es from.2 (omega (arith, lt)))
      | false ↦ above_all (m + 1) n es from.2 (omega (arith, lt))
    ]

pub marks_ascend : (m : ℕ) (es : List Entry) → AreFrom m es → Ascends (map (λ (x : Mark). x.jsn) (marks es))
marks_ascend m [] from = tt
marks_ascend m (e ∷ es) from =
    elim (has_clue e) as (λ v. Ascends (map (λ (x : Mark). x.jsn) (map clue_mark_of (cond v (e ∷ filter has_clue es) (filter has_clue es))))) [
      | true ↦ (above_all (m + 1) e.header.jsn es from.2 (omega (arith, from.0)), marks_ascend (m + 1) es from.2)
      | false ↦ marks_ascend (m + 1) es from.2
    ]

none_zero : (es : List Entry) → list_any (tie no_clue) (map (λ (x : Mark). x.clue) (marks es)) ≡ false
none_zero [] = refl
none_zero (e ∷ es) =
    elim (has_clue e) as (λ v. has_clue e ≡ v → list_any (tie no_clue) (map (λ (x : Mark). x.clue) (map clue_mark_of (cond v (e ∷ filter has_clue es) (filter has_clue es)))) ≡ false) [
      | true ↦ λ is.
          let apart : no_clue ≢ e.header.clue.0 = λ same. true≢false (sym is ∙ ap not ((bytes_eq-Decides e.header.clue.0 no_clue).1 (sym same))) in
          ap (λ v. v || list_any (tie no_clue) (map (λ (x : Mark). x.clue) (marks es))) (tie_apart no_clue e.header.clue.0 apart) ∙ none_zero es
      | false ↦ λ is. none_zero es
    ] refl

pub marks_clear : (floor : ℕ) (es : List Entry) → get (table_of (clues_added floor es)) no_clue ≡ None
marks_clear floor es = get-table_of (clues_added floor es) no_clue ∙ ap (λ v. cond v (Some (trail_of (clues_added floor es) no_clue)) None) (none_zero es)

-- those below a number are none from it on
pub marks_low : (m p : ℕ) (es : List Entry) → AreFrom m es → m + length es ≤ p → filter (λ (x : Mark). nat_le p x.jsn) (marks es) ≡ []
marks_low m p [] from le = refl
marks_low m p (e ∷ es) from le =
    let later = marks_low (m + 1) p es from.2 (omega (arith, le)) in
    elim (has_clue e) as (λ v. filter (λ (x : Mark). nat_le p x.jsn) (map clue_mark_of (cond v (e ∷ filter has_clue es) (filter has_clue es))) ≡ []) [
      | true ↦ ap (λ v. cond v (clue_mark_of e ∷ filter (λ (x : Mark). nat_le p x.jsn) (marks es)) (filter (λ (x : Mark). nat_le p x.jsn) (marks es))) (lt-leb p e.header.jsn (omega (arith, from.0, le))) ∙ later
      | false ↦ later
    ]

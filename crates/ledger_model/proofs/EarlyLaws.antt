-- The states of clues at a point depend on the journals in front of it alone.
use Rattle.std.specs.List.{list_any, AllByRecursion}
use Rattle.std.specs.List.Sorted.{IsStrictlySortedBy}
use Rattle.std.specs.Cmp.Lexicographic.{slice_cmp}
use Rattle.std.specs.Ordering.{nat_cmp}
use Rattle.std.specs.FinMap.{find, is_sorted, slice_cmp-IsAntisymmetric, nat_cmp-IsAntisymmetric}
use Rattle.std.specs.Prelude.{filter, nat_lt, bytes_eq, Some, None, Option}
use Rattle.std.proofs.Common.{◌≡◌, ℕ, ◌+◌, ◌≤◌, ◌&&◌, ◌||◌, Bool, true, false, cond, List, [], ◌∷◌, ◌++◌, length, map, refl, sym, ◌∙◌, ap, subst, arith, append-nil}
use Rattle.std.proofs.lemmas.Bool.{true≢false, le-ltb}
use Rattle.std.proofs.lemmas.Cmp.{nat_list_cmp_total}
use Rattle.std.proofs.lemmas.List.{map-append}
use Rattle.std.proofs.lemmas.List.Elements.{filter-append}
use Rattle.std.proofs.lemmas.List.Folds.{list_any-append}
use Rattle.clue_index.specs.Added.{Added, Mark, jsns_of, different_clues, state_at, states_at, begun_states}
use Rattle.clue_index.specs.Trail.{Trail}
use Rattle.clue_index.specs.declared.state.ClueState.{ClueState}
use Rattle.clue_index.proofs.CarryLaws.{given}
use Rattle.clue_index.proofs.TableLaws.{tie, same_tie}
use Rattle.journal_record.specs.Entry.{Entry}
use Rattle.ledger_model.specs.Clues.{has_clue}
use Rattle.ledger_model.proofs.LawfulLaws.{AreFrom}
use Rattle.ledger_model.specs.Bases.{clue_mark_of, clues_added}
use Rattle.ledger_model.proofs.MarkLaws.{marks}
use Rattle.std.specs.Prelude.{T}
use Rattle.std.specs.Ordering.{is_lt}
use Rattle.std.specs.declared.cmp.Ordering.TheVariants.{Less}
use Rattle.std.specs.FinMap.Entries.{below_all, same_entries}
use Rattle.std.proofs.lemmas.Bool.{and_from}
use Rattle.clue_index.proofs.OrderLaws.{states_ascend}

abbrev pair : ClueState → List ℕ × ClueState
pair s = (s.clue.0, s)

abbrev pairs : List ClueState → List (List ℕ × ClueState)
pairs ss = map pair ss

-- ---- order

below_from : (x : List ℕ) (ss : List ClueState) → AllByRecursion (λ y. slice_cmp nat_cmp x y ≡ Less) (map (λ (s : ClueState). s.clue.0) ss) → below_all (slice_cmp nat_cmp) x (pairs ss) ≡ true
below_from x [] all = refl
below_from x (s ∷ ss) all = and_from _ _ (ap is_lt all.0) (below_from x ss all.1)

sorted_from : (ss : List ClueState) → IsStrictlySortedBy (slice_cmp nat_cmp) (map (λ (s : ClueState). s.clue.0) ss) → is_sorted (slice_cmp nat_cmp) (pairs ss) ≡ true
unfolding IsStrictlySortedBy
sorted_from [] rise = refl
sorted_from (s ∷ ss) rise = and_from _ _ (below_from s.clue.0 ss rise.0) (sorted_from ss rise.1)

second : (ss : List ClueState) → map (λ (e : List ℕ × ClueState). e.1) (pairs ss) ≡ ss
second [] = refl
second (s ∷ ss) = ap (λ (l : List ClueState). s ∷ l) (second ss)

-- ---- what is found

module _ (p : ℕ) (a : Added) where
  abbrev found_at : List ℕ → Bool → Option ClueState
  found_at q v = cond (v && nat_lt 0 (state_at p a q).count) (Some (state_at p a q)) None

  none_and : (q : List ℕ) (v : Bool) → nat_lt 0 (state_at p a q).count ≡ false → found_at q v ≡ None
  none_and q v none = ap (λ w. cond (v && w) (Some (state_at p a q)) None) none ∙ by_v v where
    by_v : (v : Bool) → cond (v && false) (Some (state_at p a q)) None ≡ None
    by_v true = refl
    by_v false = refl

  find_begun : (q : List ℕ) (clues : List (List ℕ)) → find (slice_cmp nat_cmp) q (pairs (begun_states (map (state_at p a) clues))) ≡ found_at q (list_any (tie q) clues)
  find_begun q [] = refl
  find_begun q (c ∷ clues) =
      let later = find_begun q clues in
      let rest = begun_states (map (state_at p a) clues) in
      elim (tie q c) as (λ v. tie q c ≡ v → find (slice_cmp nat_cmp) q (pairs (cond (nat_lt 0 (state_at p a c).count) (state_at p a c ∷ rest) rest)) ≡ found_at q (v || list_any (tie q) clues)) [
        | true ↦ λ same.
            let is : q ≡ c = same_tie q c same in
            elim (nat_lt 0 (state_at p a c).count) as (λ v. nat_lt 0 (state_at p a c).count ≡ v → find (slice_cmp nat_cmp) q (pairs (cond v (state_at p a c ∷ rest) rest)) ≡ found_at q true) [
              | true ↦ λ some.
                  ap (λ v. cond v (Some (state_at p a c)) (find (slice_cmp nat_cmp) q (pairs rest))) same ∙ ap (λ x. Some (state_at p a x)) (sym is)
                  ∙ sym (ap (λ v. cond v (Some (state_at p a q)) None) (ap (λ x. nat_lt 0 (state_at p a x).count) is ∙ some))
              | false ↦ λ none. later ∙ none_and q (list_any (tie q) clues) (ap (λ x. nat_lt 0 (state_at p a x).count) is ∙ none) ∙ sym (none_and q true (ap (λ x. nat_lt 0 (state_at p a x).count) is ∙ none))
            ] refl
        | false ↦ λ other. elim (nat_lt 0 (state_at p a c).count) as (λ v. find (slice_cmp nat_cmp) q (pairs (cond v (state_at p a c ∷ rest) rest)) ≡ found_at q (list_any (tie q) clues)) [
          | true ↦ ap (λ v. cond v (Some (state_at p a c)) (find (slice_cmp nat_cmp) q (pairs rest))) other ∙ later
          | false ↦ later
        ]
      ] refl

-- ---- journals behind the point

low_none : (p : ℕ) (q : List ℕ) (m : ℕ) (fs : List Entry) → AreFrom m fs → p ≤ m → filter (λ n. nat_lt n p) (jsns_of q (marks fs)) ≡ []
low_none p q m [] from le = refl
low_none p q m (f ∷ fs) from le =
    let later = low_none p q (m + 1) fs from.2 (omega (arith, le)) in
    elim (has_clue f) as (λ v. filter (λ n. nat_lt n p) (jsns_of q (map clue_mark_of (cond v (f ∷ filter has_clue fs) (filter has_clue fs)))) ≡ []) [
      | true ↦ elim (bytes_eq q f.header.clue.0) as (λ v. filter (λ n. nat_lt n p) (map (λ (x : Mark). x.jsn) (cond v (clue_mark_of f ∷ filter (λ (x : Mark). bytes_eq q x.clue) (marks fs)) (filter (λ (x : Mark). bytes_eq q x.clue) (marks fs)))) ≡ []) [
        | true ↦ ap (λ v. cond v (f.header.jsn ∷ filter (λ n. nat_lt n p) (jsns_of q (marks fs))) (filter (λ n. nat_lt n p) (jsns_of q (marks fs)))) (le-ltb f.header.jsn p (omega (arith, from.0, le))) ∙ later
        | false ↦ later
      ]
      | false ↦ later
    ]

-- a clue that isn't listed has no journal
unlisted : (q : List ℕ) (ms : List Mark) → list_any (tie q) (map (λ (m : Mark). m.clue) ms) ≡ false → jsns_of q ms ≡ []
unlisted q [] none = refl
unlisted q (m ∷ ms) none =
    let parts = Rattle.std.proofs.lemmas.Bool.or_parts (tie q m.clue) (list_any (tie q) (map (λ (x : Mark). x.clue) ms)) none in
    ap (λ v. map (λ (x : Mark). x.jsn) (cond v (m ∷ filter (λ (x : Mark). bytes_eq q x.clue) ms) (filter (λ (x : Mark). bytes_eq q x.clue) ms))) (sym (Rattle.std.proofs.lemmas.Map.Text.is_eq-slice_cmp q m.clue) ∙ parts.0) ∙ unlisted q ms parts.1

module _ (p m floor : ℕ) (es fs : List Entry) (from : AreFrom m fs) (le : p ≤ m) where
  abbrev one : Added
  one = clues_added 0 es

  abbrev all : Added
  all = clues_added floor (es ++ fs)

  marks_split : marks (es ++ fs) ≡ marks es ++ marks fs
  marks_split = ap (map clue_mark_of) (filter-append has_clue es fs) ∙ map-append clue_mark_of (filter has_clue es) (filter has_clue fs)

  low_same : (q : List ℕ) → filter (λ n. nat_lt n p) (jsns_of q (marks (es ++ fs))) ≡ filter (λ n. nat_lt n p) (jsns_of q (marks es))
  low_same q =
      ap (λ (ms : List Mark). filter (λ n. nat_lt n p) (jsns_of q ms)) marks_split
      ∙ ap (λ (ms : List Mark). filter (λ n. nat_lt n p) (map (λ (x : Mark). x.jsn) ms)) (filter-append (λ (x : Mark). bytes_eq q x.clue) (marks es) (marks fs))
      ∙ ap (filter (λ n. nat_lt n p)) (map-append (λ (x : Mark). x.jsn) (filter (λ (x : Mark). bytes_eq q x.clue) (marks es)) (filter (λ (x : Mark). bytes_eq q x.clue) (marks fs)))
      ∙ filter-append (λ n. nat_lt n p) (jsns_of q (marks es)) (jsns_of q (marks fs)) ∙ ap (λ (l : List ℕ). filter (λ n. nat_lt n p) (jsns_of q (marks es)) ++ l) (low_none p q m fs from le)
      ∙ append-nil (filter (λ n. nat_lt n p) (jsns_of q (marks es)))

  state_same : (q : List ℕ) → state_at p all q ≡ state_at p one q
  state_same q = ap (λ (ns : List ℕ). record { clue = Rattle.ledger_bytes.specs.Digests.digest q; count = 0 + length ns; last = Rattle.clue_index.specs.Trail.last_from 0 ns }) (low_same q)

  abbrev clue_bytes : List Entry → List (List ℕ)
  clue_bytes js = map (λ (x : Mark). x.clue) (marks js)

  found_same : (q : List ℕ) → found_at p all q (list_any (tie q) (different_clues all)) ≡ found_at p one q (list_any (tie q) (different_clues one))
  found_same q =
      ap (λ v. found_at p all q v) (given p all q ∙ ap (λ (ms : List Mark). list_any (tie q) (map (λ (x : Mark). x.clue) ms)) marks_split ∙ ap (list_any (tie q)) (map-append (λ (x : Mark). x.clue) (marks es) (marks fs)) ∙ list_any-append (tie q) (clue_bytes es) (clue_bytes fs))
      ∙ ap (λ (s : ClueState). cond ((list_any (tie q) (clue_bytes es) || list_any (tie q) (clue_bytes fs)) && nat_lt 0 s.count) (Some s) None) (state_same q)
      ∙ by_listed (list_any (tie q) (clue_bytes es)) refl ∙ ap (λ v. found_at p one q v) (sym (given p one q))
    where
      by_listed : (v : Bool) → list_any (tie q) (clue_bytes es) ≡ v → found_at p one q (v || list_any (tie q) (clue_bytes fs)) ≡ found_at p one q (list_any (tie q) (clue_bytes es))
      by_listed true is = ap (λ v. found_at p one q v) (sym is)
      by_listed false is =
          let none : nat_lt 0 (state_at p one q).count ≡ false = ap (λ (ns : List ℕ). nat_lt 0 (0 + length (filter (λ n. nat_lt n p) ns))) (unlisted q (marks es) is) in
          none_and p one q (list_any (tie q) (clue_bytes fs)) none ∙ sym (none_and p one q (list_any (tie q) (clue_bytes es)) none)

  pub states_early : states_at p all ≡ states_at p one
  states_early =
      let left : T (is_sorted (slice_cmp nat_cmp) (pairs (states_at p all))) = subst T (sym (sorted_from (states_at p all) (states_ascend p all))) tt in
      let right : T (is_sorted (slice_cmp nat_cmp) (pairs (states_at p one))) = subst T (sym (sorted_from (states_at p one) (states_ascend p one))) tt in
      let same = same_entries (slice_cmp nat_cmp) nat_list_cmp_total (slice_cmp-IsAntisymmetric nat_cmp-IsAntisymmetric) (pairs (states_at p all)) (pairs (states_at p one)) left right
      (λ q. find_begun p all q (different_clues all) ∙ found_same q ∙ sym (find_begun p one q (different_clues one))) in
      sym (second (states_at p all)) ∙ ap (map (λ (e : List ℕ × ClueState). e.1)) same ∙ second (states_at p one)

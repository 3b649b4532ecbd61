-- Laws of the states at a point in their order.
use Rattle.std.proofs.Common.{◌≡◌, ◌≢◌, ℕ, ◌<◌, Bool, true, false, cond, List, [], ◌∷◌, map, filter, nat_lt, refl, sym, ap, subst, ◌∙◌, None}
use Rattle.std.specs.Prelude.{T, bytes_eq, length}
use Rattle.std.specs.List.{All, AllByRecursion, list_any}
use Rattle.std.specs.List.Sorted.{IsStrictlySortedBy}
use Rattle.std.specs.Map.{keys_of}
use Rattle.std.specs.Ordering.{is_lt, nat_cmp}
use Rattle.std.specs.Set.{distinct_count}
use Rattle.std.specs.Cmp.Lexicographic.{slice_cmp}
use Rattle.std.specs.declared.cmp.Ordering.{Ordering}
use Rattle.std.specs.declared.cmp.Ordering.TheVariants.{Less, Equal, Greater}
use Rattle.std.specs.FinMap.{get, entries, is_sorted, entries_sorted}
use Rattle.std.specs.FinMap.Entries.{below_all}
use Rattle.std.proofs.lemmas.Bool.{and_parts, or_parts}
use Rattle.std.proofs.lemmas.List.Elements.{All-from_recursion}
use Rattle.std.proofs.lemmas.Cmp.{eq_by_cmp_equiv, nat_list_cmp_total}
use Rattle.std.proofs.lemmas.List.Kept.{IsStrictlySortedBy-filter}
use Rattle.std.proofs.lemmas.Map.Keys.{IsDistinct-from_sorted}
use Rattle.std.proofs.lemmas.Map.Made.{length-from_keys}
use Rattle.std.proofs.lemmas.Map.Text.{is_eq-slice_cmp}
use Rattle.clue_index.specs.Added.{Added, no_clue, trail_of, clues_of, table_of, different_clues, state_below, begun_states, states_at}
use Rattle.clue_index.specs.Trail.{Trail}
use Rattle.clue_index.proofs.CarryLaws.{counted_states, given}
use Rattle.clue_index.proofs.TableLaws.{tie, tie_same, absent_from_get}

true_of : (b : Bool) → T b → b ≡ true
true_of true is = refl
true_of false is = absurd is

less_of : (o : Ordering) → is_lt o ≡ true → o ≡ Less
less_of Less is = refl
less_of Equal is = cc
less_of Greater is = cc

below_keys : (x : List ℕ) (es : List (List ℕ × Trail)) → below_all (slice_cmp nat_cmp) x es ≡ true → AllByRecursion (λ y. slice_cmp nat_cmp x y ≡ Less) (keys_of es)
below_keys x [] is = tt
below_keys x (e ∷ es) is = let parts = and_parts _ _ is in (less_of (slice_cmp nat_cmp x e.0) parts.0, below_keys x es parts.1)

-- the keys of entries in order ascend
keys_rise : (es : List (List ℕ × Trail)) → is_sorted (slice_cmp nat_cmp) es ≡ true → IsStrictlySortedBy (slice_cmp nat_cmp) (keys_of es)
unfolding IsStrictlySortedBy
keys_rise [] is = tt
keys_rise (e ∷ es) is = let parts = and_parts _ _ is in (below_keys e.0 es parts.0, keys_rise es parts.1)

-- the clues of states are those of the clues that had a journal
clues_told : (p : ℕ) (a : Added) (clues : List (List ℕ))
    → map (λ s. s.clue.0) (begun_states (map (λ clue. state_below p clue (trail_of a clue)) clues)) ≡ filter (λ clue. nat_lt 0 (state_below p clue (trail_of a clue)).count) clues
clues_told p a [] = refl
clues_told p a (c ∷ clues) =
    elim (nat_lt 0 (state_below p c (trail_of a c)).count) as (λ b.
    map (λ s. s.clue.0) (cond b (state_below p c (trail_of a c) ∷ begun_states (map (λ clue. state_below p clue (trail_of a clue)) clues)) (begun_states (map (λ clue. state_below p clue (trail_of a clue)) clues)))
    ≡ cond b (c ∷ filter (λ clue. nat_lt 0 (state_below p clue (trail_of a clue)).count) clues) (filter (λ clue. nat_lt 0 (state_below p clue (trail_of a clue)).count) clues)) [
      | true ↦ ap (λ cs. c ∷ cs) (clues_told p a clues)
      | false ↦ clues_told p a clues
    ]

-- the states ascend by their clues
pub states_ascend : (p : ℕ) (a : Added) → IsStrictlySortedBy (slice_cmp nat_cmp) (map (λ s. s.clue.0) (states_at p a))
states_ascend p a =
    let rise = keys_rise (entries (table_of a)) (true_of _ (entries_sorted (table_of a))) in
    subst (IsStrictlySortedBy (slice_cmp nat_cmp)) (sym (clues_told p a (different_clues a))) (IsStrictlySortedBy-filter (slice_cmp nat_cmp) _ (different_clues a) rise)

-- each has a count
pub states_counted : (p : ℕ) (a : Added) → All (λ s. 0 < s.count) (states_at p a)
states_counted p a = All-from_recursion (λ s. 0 < s.count) (states_at p a) (counted_states (map (λ clue. state_below p clue (trail_of a clue)) (different_clues a)))

named_clues : (p : ℕ) (a : Added) (clues : List (List ℕ)) → list_any (tie no_clue) clues ≡ false
    → AllByRecursion (λ s. s.clue.0 ≢ no_clue) (begun_states (map (λ clue. state_below p clue (trail_of a clue)) clues))
named_clues p a [] is = tt
named_clues p a (c ∷ clues) is =
    let parts = or_parts (tie no_clue c) _ is in
    let named : c ≢ no_clue = λ same. let bad : true ≡ false = sym (tie_same no_clue c (sym same)) ∙ parts.0 in cc in
    let rest = named_clues p a clues parts.1 in
    elim (nat_lt 0 (state_below p c (trail_of a c)).count) as (λ b. AllByRecursion (λ s. s.clue.0 ≢ no_clue)
    (cond b (state_below p c (trail_of a c) ∷ begun_states (map (λ clue. state_below p clue (trail_of a clue)) clues)) (begun_states (map (λ clue. state_below p clue (trail_of a clue)) clues)))) [
      | true ↦ (named, rest)
      | false ↦ rest
    ]

-- none is of zeros
pub states_named : (p : ℕ) (a : Added) → get (table_of a) no_clue ≡ None → All (λ s. s.clue.0 ≢ no_clue) (states_at p a)
states_named p a none =
    All-from_recursion (λ s. s.clue.0 ≢ no_clue) (states_at p a) (named_clues p a (different_clues a) (given p a no_clue ∙ absent_from_get a no_clue none))

-- clues tie where their bytes are the same
tie_is : tie ≡ bytes_eq
tie_is = λ i. λ x y. (is_eq-slice_cmp x y) i

-- there are as many different clues as were given, where the same are counted once
pub different_count : (a : Added) → length (different_clues a) ≡ distinct_count bytes_eq (clues_of a)
different_count a =
    let rise = keys_rise (entries (table_of a)) (true_of _ (entries_sorted (table_of a))) in
    length-from_keys (eq_by_cmp_equiv nat_list_cmp_total) (different_clues a) (clues_of a) (IsDistinct-from_sorted (slice_cmp nat_cmp) (different_clues a) rise) (given 0 a)
    ∙ ap (λ same. distinct_count same (clues_of a)) tie_is

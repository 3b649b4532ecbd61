-- Laws of the clues in their order, and of their states.
use Rattle.std.proofs.Common.{◌≡◌, ℕ, ◌≤◌, ◌<◌, ◌^◌, ◌&&◌, true, false, cond, List, [], ◌∷◌, ◌++◌, map, nat_lt, refl, sym, ap, subst, ◌∙◌, arith, Some, option_map}
use Rattle.std.specs.Prelude.{T}
use Rattle.std.specs.List.{All, AllByRecursion}
use Rattle.std.specs.List.Sorted.{IsStrictlySortedBy}
use Rattle.std.specs.Map.{keys_of}
use Rattle.std.specs.Ordering.{is_lt, eq_by_cmp, nat_cmp}
use Rattle.std.specs.Cmp.Lexicographic.{slice_cmp}
use Rattle.std.specs.declared.cmp.Ordering.TheVariants.{Less}
use Rattle.std.specs.FinMap.{entries, find, is_sorted, get-entries, entries_sorted, slice_cmp-IsAntisymmetric, nat_cmp-IsAntisymmetric}
use Rattle.std.specs.FinMap.Entries.{below_all, same_entries}
use Rattle.std.proofs.lemmas.Bool.{and_from, cond-true, cond-false, lt-ltb, le-ltb}
use Rattle.std.proofs.lemmas.Cmp.{nat_list_cmp_total}
use Rattle.std.proofs.lemmas.List.{append-nil, map-append}
use Rattle.std.proofs.lemmas.List.Elements.{recursion_from_All, filter-append}
use Rattle.clue_index.specs.Added.{Added, trail_of, table_of, different_clues, state_below, begun_states, states_at}
use Rattle.clue_index.specs.Index.{KeptTrails, StandsForTrails, trail_in}
use Rattle.clue_index.specs.Trail.{Trail, seen_from, below, count_of, last_of, Ascends}
use Rattle.clue_index.specs.declared.state.ClueState.{ClueState}
use Rattle.clue_index.proofs.IndexLaws.{found, rising, count_found}
use Rattle.clue_index.proofs.TrailLaws.{seen_later, count_below}

below_all-from_keys : (x : List ℕ) (es : List (List ℕ × Trail)) → AllByRecursion (λ y. slice_cmp nat_cmp x y ≡ Less) (keys_of es) → below_all (slice_cmp nat_cmp) x es ≡ true
below_all-from_keys x [] all = refl
below_all-from_keys x (e ∷ es) all = and_from _ _ (ap is_lt all.0) (below_all-from_keys x es all.1)

-- entries whose keys ascend are in order
is_sorted-from_keys : (es : List (List ℕ × Trail)) → IsStrictlySortedBy (slice_cmp nat_cmp) (keys_of es) → is_sorted (slice_cmp nat_cmp) es ≡ true
unfolding IsStrictlySortedBy
is_sorted-from_keys [] rise = refl
is_sorted-from_keys (e ∷ es) rise = and_from _ _ (below_all-from_keys e.0 es rise.0) (is_sorted-from_keys es rise.1)

-- entries with f of each value
abbrev pub with_values : (Trail → Trail) → List (List ℕ × Trail) → List (List ℕ × Trail)
with_values f es = map (λ e. (e.0, f e.1)) es

below_all-with_values : (f : Trail → Trail) (x : List ℕ) (es : List (List ℕ × Trail)) → below_all (slice_cmp nat_cmp) x (with_values f es) ≡ below_all (slice_cmp nat_cmp) x es
below_all-with_values f x [] = refl
below_all-with_values f x (e ∷ es) = ap (λ b. is_lt (slice_cmp nat_cmp x e.0) && b) (below_all-with_values f x es)

is_sorted-with_values : (f : Trail → Trail) (es : List (List ℕ × Trail)) → is_sorted (slice_cmp nat_cmp) (with_values f es) ≡ is_sorted (slice_cmp nat_cmp) es
is_sorted-with_values f [] = refl
is_sorted-with_values f (e ∷ es) =
    ap (λ b. b && is_sorted (slice_cmp nat_cmp) (with_values f es)) (below_all-with_values f e.0 es)
    ∙ ap (λ b. below_all (slice_cmp nat_cmp) e.0 es && b) (is_sorted-with_values f es)

find-with_values : (f : Trail → Trail) (q : List ℕ) (es : List (List ℕ × Trail)) → find (slice_cmp nat_cmp) q (with_values f es) ≡ option_map f (trail_in q es)
find-with_values f q [] = refl
find-with_values f q (e ∷ es) =
    elim (eq_by_cmp (slice_cmp nat_cmp) q e.0) as (λ b. cond b (Some (f e.1)) (find (slice_cmp nat_cmp) q (with_values f es)) ≡ option_map f (cond b (Some e.1) (trail_in q es))) [ true ↦ refl | false ↦ find-with_values f q es ]

keys-with_values : (f : Trail → Trail) (es : List (List ℕ × Trail)) → keys_of (with_values f es) ≡ keys_of es
keys-with_values f [] = refl
keys-with_values f (e ∷ es) = ap (λ ks. e.0 ∷ ks) (keys-with_values f es)

trail_in-find : (q : List ℕ) (es : List (List ℕ × Trail)) → trail_in q es ≡ find (slice_cmp nat_cmp) q es
trail_in-find q [] = refl
trail_in-find q (e ∷ es) = ap (cond (eq_by_cmp (slice_cmp nat_cmp) q e.0) (Some e.1)) (trail_in-find q es)

-- the clues of an index are those that were given
pub keys-trails : (k : KeptTrails) (a : Added) → StandsForTrails k a → IsStrictlySortedBy (slice_cmp nat_cmp) (keys_of k.trails) → keys_of k.trails ≡ different_clues a
keys-trails k a st rise =
    let f : Trail → Trail = seen_from a.floor in
    let es : List (List ℕ × Trail) = entries (table_of a) in
    let left : T (is_sorted (slice_cmp nat_cmp) (with_values f k.trails)) = subst T (sym (is_sorted-with_values f k.trails ∙ is_sorted-from_keys k.trails rise)) tt in
    let right : T (is_sorted (slice_cmp nat_cmp) (with_values f es)) = subst T (sym (is_sorted-with_values f es)) (entries_sorted (table_of a)) in
    let alike : (q : List ℕ) → find (slice_cmp nat_cmp) q (with_values f k.trails) ≡ find (slice_cmp nat_cmp) q (with_values f es) =
    λ q. find-with_values f q k.trails
    ∙ (ap (λ p. option_map (seen_from p) (trail_in q k.trails)) (sym st.floor)
    ∙ (st.at q
    ∙ (ap (option_map f) (get-entries (table_of a) q ∙ sym (trail_in-find q es)) ∙ sym (find-with_values f q es)))) in
    let same = same_entries (slice_cmp nat_cmp) nat_list_cmp_total (slice_cmp-IsAntisymmetric nat_cmp-IsAntisymmetric) (with_values f k.trails) (with_values f es) left right alike in
    sym (keys-with_values f k.trails) ∙ (ap keys_of same ∙ keys-with_values f es)

-- the state of each of some clues, from their journals
abbrev pub states_of : ℕ → List (List ℕ × Trail) → List ClueState
states_of p es = map (λ e. state_below p e.0 e.1) es

-- the states of what is found are those of what was added
states_found : (k : KeptTrails) (a : Added) (p : ℕ) → StandsForTrails k a → a.floor ≤ p → (es : List (List ℕ × Trail)) → AllByRecursion (λ e. trail_in e.0 k.trails ≡ Some e.1) es
    → states_of p es ≡ map (λ clue. state_below p clue (trail_of a clue)) (keys_of es)
states_found k a p st le [] all = refl
states_found k a p st le (e ∷ es) all =
    let seen : seen_from p e.1 ≡ seen_from p (trail_of a e.0) =
    sym (seen_later a.floor p e.1 le (st.ascend e.0 e.1 all.0)) ∙ (ap (seen_from p) (found k a st e.0 e.1 all.0) ∙ seen_later a.floor p (trail_of a e.0) le (rising k a st e.0)) in
    let rest = states_found k a p st le es all.1 in
    λ i. record { clue = record { 0 = e.0 }; count = (seen i).count; last = (seen i).last } ∷ rest i

-- numbers that ascend, and whose count below p is a u32
abbrev IsFit : ℕ → Trail → Type 0
IsFit p t = Ascends t.jsns × (count_of (below p t) < 2 ^ 32)

abbrev pub Fit : ℕ → List (List ℕ × Trail) → Type 0
Fit p es = AllByRecursion (λ e. IsFit p e.1) es

fit_found : (k : KeptTrails) (a : Added) (p : ℕ) → StandsForTrails k a → ((clue : List ℕ) → count_of (trail_of a clue) < 2 ^ 32) → (es : List (List ℕ × Trail))
    → AllByRecursion (λ e. trail_in e.0 k.trails ≡ Some e.1) es → Fit p es
fit_found k a p st fits [] all = tt
fit_found k a p st fits (e ∷ es) all =
    let counted = count_found k a st e.0 e.1 all.0 in
    let few = fits e.0 in
    ((st.ascend e.0 e.1 all.0, omega (arith, count_below p e.1)), fit_found k a p st fits es all.1)

-- what the states of all that is kept are
pub states_told : (k : KeptTrails) (a : Added) (p : ℕ) (states : List ClueState) → StandsForTrails k a → a.floor ≤ p → ((clue : List ℕ) → count_of (trail_of a clue) < 2 ^ 32)
    → IsStrictlySortedBy (slice_cmp nat_cmp) (keys_of k.trails) → All (λ e. trail_in e.0 k.trails ≡ Some e.1) k.trails
    → (Fit p k.trails → states ≡ begun_states (states_of p k.trails)) → states ≡ states_at p a
states_told k a p states st le fits rise all told =
    let each = recursion_from_All (λ e. trail_in e.0 k.trails ≡ Some e.1) k.trails all in
    told (fit_found k a p st fits k.trails each)
    ∙ (ap begun_states (states_found k a p st le k.trails each) ∙ ap (λ clues. begun_states (map (λ clue. state_below p clue (trail_of a clue)) clues)) (keys-trails k a st rise))

-- one more
fit_push : (p : ℕ) (es : List (List ℕ × Trail)) (e : List ℕ × Trail) → Fit p (es ++ e ∷ []) → Fit p es × IsFit p e.1
fit_push p [] e fit = (tt, fit.0)
fit_push p (d ∷ es) e fit = let rest = fit_push p es e fit.1 in ((fit.0, rest.0), rest.1)

states_push : (p : ℕ) (es : List (List ℕ × Trail)) (e : List ℕ × Trail) → begun_states (states_of p (es ++ e ∷ [])) ≡ begun_states (states_of p es) ++ begun_states (state_below p e.0 e.1 ∷ [])
states_push p es e =
    ap begun_states (map-append (λ e. state_below p e.0 e.1) es (e ∷ [])) ∙ filter-append (λ s. nat_lt 0 s.count) (states_of p es) (state_below p e.0 e.1 ∷ [])

-- a state that is what it should be
state_is : (p : ℕ) (clue : List ℕ) (t : Trail) (s : ClueState) → s.clue ≡ record { 0 = clue } → (Ascends t.jsns → count_of (below p t) < 2 ^ 32 → s.count ≡ count_of (below p t))
    → (Ascends t.jsns → s.last ≡ last_of (below p t)) → IsFit p t → s ≡ state_below p clue t
state_is p clue t s clue-is count-is last-is fits =
    let counts = count-is fits.0 fits.1 in
    let lasts = last-is fits.0 in
    λ i. record { clue = clue-is i; count = counts i; last = lasts i }

-- the states so far, with one that speaks of a journal behind them
pub state_pushed : (p : ℕ) (es : List (List ℕ × Trail)) (clue : List ℕ) (t : Trail) (s : ClueState) (out out' : List ClueState)
    → (Fit p es → out ≡ begun_states (states_of p es)) → s.clue ≡ record { 0 = clue } → (Ascends t.jsns → count_of (below p t) < 2 ^ 32 → s.count ≡ count_of (below p t))
    → (Ascends t.jsns → s.last ≡ last_of (below p t)) → 0 < s.count → out' ≡ out ++ s ∷ [] → Fit p (es ++ (clue, t) ∷ []) → out' ≡ begun_states (states_of p (es ++ (clue, t) ∷ []))
state_pushed p es clue t s out out' so_far clue-is count-is last-is some out'-is fit =
    let parts = fit_push p es (clue, t) fit in
    let is = state_is p clue t s clue-is count-is last-is parts.1 in
    let kept : begun_states (state_below p clue t ∷ []) ≡ s ∷ [] =
    ap (λ s. begun_states (s ∷ [])) (sym is) ∙ cond-true _ _ _ (lt-ltb 0 s.count some) in
    out'-is ∙ (ap (λ out. out ++ s ∷ []) (so_far parts.0) ∙ (ap (λ more. begun_states (states_of p es) ++ more) (sym kept) ∙ sym (states_push p es (clue, t))))

-- and with one that doesn't
pub state_passed : (p : ℕ) (es : List (List ℕ × Trail)) (clue : List ℕ) (t : Trail) (s : ClueState) (out : List ClueState)
    → (Fit p es → out ≡ begun_states (states_of p es)) → s.clue ≡ record { 0 = clue } → (Ascends t.jsns → count_of (below p t) < 2 ^ 32 → s.count ≡ count_of (below p t))
    → (Ascends t.jsns → s.last ≡ last_of (below p t)) → s.count ≤ 0 → Fit p (es ++ (clue, t) ∷ []) → out ≡ begun_states (states_of p (es ++ (clue, t) ∷ []))
state_passed p es clue t s out so_far clue-is count-is last-is none fit =
    let parts = fit_push p es (clue, t) fit in
    let is = state_is p clue t s clue-is count-is last-is parts.1 in
    let left : begun_states (state_below p clue t ∷ []) ≡ [] =
    ap (λ s. begun_states (s ∷ [])) (sym is) ∙ cond-false _ _ _ (le-ltb 0 s.count none) in
    so_far parts.0 ∙ (sym (append-nil _) ∙ (ap (λ more. begun_states (states_of p es) ++ more) (sym left) ∙ sym (states_push p es (clue, t))))

-- An index that begins with the clues' states at a point stands, from there on, for all that was added before too.
use Rattle.std.proofs.Common.{◌≡◌, ◌⊎◌, inl, inr, ℕ, ◌<◌, Bool, true, false, cond, ◌||◌, List, [], ◌∷◌, map, filter, length, is_some, nat_lt, nat_le, refl, sym, ap, subst, ◌∙◌, arith, ⊎_elim, Some, None, option_map}
use Rattle.std.specs.List.{All, AllByRecursion, list_any, fold}
use Rattle.std.specs.Str.{bytes_eq}
use Rattle.std.specs.FinMap.{get, contains_key-keys}
use Rattle.std.proofs.lemmas.Bool.{cond-true, cond-false, lt-ltb, ltb-true, ltb-false, cases_Bool, or_cases}
use Rattle.std.proofs.lemmas.List.Elements.{recursion_from_All}
use Rattle.std.proofs.lemmas.List.Folds.{list_any-append}
use Rattle.std.proofs.lemmas.Map.Text.{is_eq-slice_cmp}
use Rattle.std.proofs.lemmas.Slice.Eq.{bytes_eq-Decides}
use Rattle.clue_index.specs.Added.{Added, Mark, with_floor, from_point, no_clue, state_of, jsns_of, trail_of, clues_of, table_of, different_clues, state_below, begun_states, states_at}
use Rattle.clue_index.specs.Index.{KeptTrails, StandsForTrails}
use Rattle.clue_index.specs.Trail.{Trail, no_trail, below, seen_from, count_of, last_of, Ascends}
use Rattle.clue_index.specs.declared.state.ClueState.{ClueState}
use Rattle.clue_index.proofs.IndexLaws.{cond_alike, Ascends-jsns_of}
use Rattle.clue_index.proofs.TableLaws.{tie, same_tie, get-table_of, trail_absent, trail_from}
use Rattle.clue_index.proofs.TrailLaws.{count_seen, seen_later}

-- the numbers of a clue's journals from p on
jsns_kept : (q : List ℕ) (p : ℕ) (marks : List Mark) → jsns_of q (filter (λ m. nat_le p m.jsn) marks) ≡ filter (λ n. nat_le p n) (jsns_of q marks)
jsns_kept q p [] = refl
jsns_kept q p (m ∷ marks) =
    let F : List Mark = filter (λ m. nat_le p m.jsn) marks in
    let G : List Mark = filter (λ m. bytes_eq q m.clue) marks in
    let rest = jsns_kept q p marks in
    elim (nat_le p m.jsn) as (λ b. nat_le p m.jsn ≡ b → jsns_of q (cond b (m ∷ F) F) ≡ filter (λ n. nat_le p n) (map (λ m. m.jsn) (cond (bytes_eq q m.clue) (m ∷ G) G))) [
      | true ↦ λ is. elim (bytes_eq q m.clue) as (λ d. map (λ m. m.jsn) (cond d (m ∷ filter (λ m. bytes_eq q m.clue) F) (filter (λ m. bytes_eq q m.clue) F)) ≡ filter (λ n. nat_le p n) (map (λ m. m.jsn) (cond d (m ∷ G) G))) [
        | true ↦ ap (λ ns. m.jsn ∷ ns) rest ∙ sym (cond-true _ _ _ is)
        | false ↦ rest
      ]
      | false ↦ λ is. elim (bytes_eq q m.clue) as (λ d. jsns_of q F ≡ filter (λ n. nat_le p n) (map (λ m. m.jsn) (cond d (m ∷ G) G))) [
        | true ↦ rest ∙ sym (cond-false _ _ _ is)
        | false ↦ rest
      ]
    ] refl

-- the journals of a clue, after another state
abbrev told : List ℕ → Trail → ClueState → Trail
told q t s = cond (bytes_eq q s.clue.0) (trail_from s) t

-- states that each speak of a journal tell nothing of a clue, or of a journal
told_some : (q : List ℕ) (states : List ClueState) (t : Trail) → AllByRecursion (λ s. 0 < s.count) states
    → (fold (told q) t states ≡ t) ⊎ (0 < (fold (told q) t states).count)
told_some q [] t counted = inl refl
told_some q (s ∷ states) t counted =
    elim (bytes_eq q s.clue.0) as (λ b. (fold (told q) (cond b (trail_from s) t) states ≡ t) ⊎ (0 < (fold (told q) (cond b (trail_from s) t) states).count)) [
      | true ↦ ⊎_elim (λ same. inr (subst (λ u. 0 < u.count) (sym same) counted.0)) (λ some. inr some) (told_some q states (trail_from s) counted.1)
      | false ↦ told_some q states t counted.1
    ]

-- a state of the clue speaks of a journal of it
told_of : (q : List ℕ) (states : List ClueState) (t : Trail) → AllByRecursion (λ s. 0 < s.count) states → list_any (tie q) (map (λ s. s.clue.0) states) ≡ true
    → 0 < (fold (told q) t states).count
told_of q [] t counted is = cc
told_of q (s ∷ states) t counted is =
    elim (tie q s.clue.0) as (λ b. tie q s.clue.0 ≡ b → (b || list_any (tie q) (map (λ s. s.clue.0) states)) ≡ true → 0 < (fold (told q) (told q t s) states).count) [
      | true ↦ λ ties _.
          let same : bytes_eq q s.clue.0 ≡ true = sym (is_eq-slice_cmp q s.clue.0) ∙ ties in
          let at : told q t s ≡ trail_from s = cond-true _ _ _ same in
          subst (λ u. 0 < (fold (told q) u states).count) (sym at)
          (⊎_elim (λ stays. subst (λ u. 0 < u.count) (sym stays) counted.0) (λ some. some) (told_some q states (trail_from s) counted.1))
      | false ↦ λ _ rest. told_of q states (told q t s) counted.1 rest
    ] refl is

-- a journal with the clue is one of it
jsns_some : (q : List ℕ) (marks : List Mark) → list_any (tie q) (map (λ m. m.clue) marks) ≡ true → 0 < length (jsns_of q marks)
jsns_some q [] is = cc
jsns_some q (m ∷ marks) is =
    elim (tie q m.clue) as (λ b. tie q m.clue ≡ b → (b || list_any (tie q) (map (λ m. m.clue) marks)) ≡ true → 0 < length (jsns_of q (m ∷ marks))) [
      | true ↦ λ ties _.
          let same : bytes_eq q m.clue ≡ true = sym (is_eq-slice_cmp q m.clue) ∙ ties in
          let at : jsns_of q (m ∷ marks) ≡ m.jsn ∷ jsns_of q marks = ap (map (λ m. m.jsn)) (cond-true _ _ _ same) in
          subst (λ ns. 0 < length ns) (sym at) (omega arith)
      | false ↦ λ ties rest.
          let same : bytes_eq q m.clue ≡ false = sym (is_eq-slice_cmp q m.clue) ∙ ties in
          let at : jsns_of q (m ∷ marks) ≡ jsns_of q marks = ap (map (λ m. m.jsn)) (cond-false _ _ _ same) in
          subst (λ ns. 0 < length ns) (sym at) (jsns_some q marks rest)
    ] refl is

-- where each state speaks of a journal, the clues that were given are those with a journal
given_counted : (a : Added) (q : List ℕ) → AllByRecursion (λ s. 0 < s.count) a.states → list_any (tie q) (clues_of a) ≡ nat_lt 0 (count_of (trail_of a q))
given_counted a q counted =
    ⊎_elim (λ is.
    let some : 0 < count_of (trail_of a q) =
    ⊎_elim (λ states. let more = told_of q a.states no_trail counted states in omega arith)
    (λ marks. let more = jsns_some q a.marks marks in omega arith)
    (or_cases _ _ (sym (list_any-append (tie q) (map (λ s. s.clue.0) a.states) (map (λ m. m.clue) a.marks)) ∙ is)) in
    is ∙ sym (lt-ltb 0 (count_of (trail_of a q)) some))
    (λ is. is ∙ sym (ap (λ t. nat_lt 0 (count_of t)) (trail_absent a q is)))
    (cases_Bool (list_any (tie q) (clues_of a)))

-- states that speak of a journal have a count
pub counted_states : (states : List ClueState) → AllByRecursion (λ s. 0 < s.count) (begun_states states)
counted_states [] = tt
counted_states (s ∷ states) =
    elim (nat_lt 0 s.count) as (λ b. nat_lt 0 s.count ≡ b → AllByRecursion (λ s. 0 < s.count) (cond b (s ∷ begun_states states) (begun_states states))) [
      | true ↦ λ is. (ltb-true 0 s.count is, counted_states states)
      | false ↦ λ _. counted_states states
    ] refl

module _ (p : ℕ) (a : Added) where
  -- the state of a clue at p
  abbrev at : List ℕ → ClueState
  at clue = state_below p clue (trail_of a clue)

  -- the last state of a clue among those of some clues
  chosen : (q : List ℕ) (clues : List (List ℕ)) (t : Trail)
      → fold (told q) t (begun_states (map at clues)) ≡ cond (list_any (tie q) clues) (cond (nat_lt 0 (at q).count) (trail_from (at q)) t) t
  chosen q [] t = refl
  chosen q (c ∷ clues) t =
      elim (tie q c) as (λ b. tie q c ≡ b → fold (told q) t (cond (nat_lt 0 (at c).count) (at c ∷ begun_states (map at clues)) (begun_states (map at clues)))
      ≡ cond (b || list_any (tie q) clues) (cond (nat_lt 0 (at q).count) (trail_from (at q)) t) t) [
        | true ↦ λ ties.
            let same = same_tie q c ties in
            subst (λ c. fold (told q) t (cond (nat_lt 0 (at c).count) (at c ∷ begun_states (map at clues)) (begun_states (map at clues))) ≡ cond (nat_lt 0 (at q).count) (trail_from (at q)) t) same
            (elim (nat_lt 0 (at q).count) as (λ d. nat_lt 0 (at q).count ≡ d → fold (told q) t (cond d (at q ∷ begun_states (map at clues)) (begun_states (map at clues))) ≡ cond d (trail_from (at q)) t) [
              | true ↦ λ _.
                  let mine : told q t (at q) ≡ trail_from (at q) = cond-true _ _ _ ((bytes_eq-Decides q q).1 refl) in
                  ap (λ u. fold (told q) u (begun_states (map at clues))) mine ∙ (chosen q clues (trail_from (at q)) ∙ alike (list_any (tie q) clues) (nat_lt 0 (at q).count) (trail_from (at q)))
              | false ↦ λ none. chosen q clues t ∙ unseen (list_any (tie q) clues) (nat_lt 0 (at q).count) none (trail_from (at q)) t
            ] refl)
        | false ↦ λ apart.
            let other : bytes_eq q c ≡ false = sym (is_eq-slice_cmp q c) ∙ apart in
            elim (nat_lt 0 (at c).count) as (λ d. fold (told q) t (cond d (at c ∷ begun_states (map at clues)) (begun_states (map at clues)))
            ≡ cond (list_any (tie q) clues) (cond (nat_lt 0 (at q).count) (trail_from (at q)) t) t) [
              | true ↦ ap (λ u. fold (told q) u (begun_states (map at clues))) (cond-false _ _ _ other) ∙ chosen q clues t
              | false ↦ chosen q clues t
            ]
      ] refl where
        alike : (x y : Bool) (u : Trail) → cond x (cond y u u) u ≡ u
        alike true true u = refl
        alike true false u = refl
        alike false y u = refl

        unseen : (x y : Bool) → y ≡ false → (u v : Trail) → cond x (cond y u v) v ≡ v
        unseen true y never u v = cond-false _ _ _ never
        unseen false y never u v = refl

  -- the clues in their order are those that were given
  pub given : (q : List ℕ) → list_any (tie q) (different_clues a) ≡ list_any (tie q) (clues_of a)
  given q = sym (contains_key-keys (table_of a) q) ∙ (ap is_some (get-table_of a q) ∙ some_cond (list_any (tie q) (clues_of a)) (trail_of a q)) where
    some_cond : (b : Bool) (t : Trail) → is_some (cond b (Some t) None) ≡ b
    some_cond true t = refl
    some_cond false t = refl

  module _ (counted : AllByRecursion (λ s. 0 < s.count) a.states) (q : List ℕ) where
    -- a clue without a journal below p has no state there
    stateless : count_of (below p (trail_of a q)) ≡ 0 → last_of (below p (trail_of a q)) ≡ 0
    stateless none =
        let state : Trail = state_of q a.states in
        let low : List ℕ = (below p (trail_of a q)).jsns in
        let empty : length low ≡ 0 = omega arith in
        let bare : state ≡ no_trail = ⊎_elim (λ same. same) (λ some. absurd (omega arith)) (told_some q a.states no_trail counted) in
        ap (λ ns. last_of (record { count = state.count; last = state.last; jsns = ns })) (nothing low empty) ∙ ap (λ t. t.last) bare where
          nothing : (ns : List ℕ) → length ns ≡ 0 → ns ≡ []
          nothing [] is = refl
          nothing (n ∷ ns) is = absurd (omega arith)

    -- what the states at p tell of a clue
    state_told : state_of q (states_at p a) ≡ record { count = count_of (below p (trail_of a q)); last = last_of (below p (trail_of a q)); jsns = [] }
    state_told =
        let n : ℕ = count_of (below p (trail_of a q)) in
        let whole : Trail = trail_from (at q) in
        let bare : n ≡ 0 → no_trail ≡ whole = λ none. let last = stateless none in λ i. record { count = sym none i; last = sym last i; jsns = [] } in
        chosen q (different_clues a) no_trail
        ∙ (ap (λ b. cond b (cond (nat_lt 0 n) whole no_trail) no_trail) (given q)
        ∙ ⊎_elim (λ is. cond-true _ _ _ is
        ∙ ⊎_elim (λ some. cond-true _ _ _ some) (λ none. cond-false _ _ _ none ∙ bare (let le = ltb-false 0 n none in omega arith)) (cases_Bool (nat_lt 0 n)))
        (λ is. cond-false _ _ _ is ∙ bare (ap (λ t. count_of (below p t)) (trail_absent a q is)))
        (cases_Bool (list_any (tie q) (clues_of a))))

    -- the journals of a clue in an index that begins at p are its journals as they are seen from p
    pub trail_begun : trail_of (from_point p a) q ≡ seen_from p (trail_of a q)
    trail_begun =
        let state = state_told in
        let jsns = jsns_kept q p a.marks in
        λ i. record { count = (state i).count; last = (state i).last; jsns = jsns i }

    -- the clues that it was given are the same
    pub listed_begun : list_any (tie q) (clues_of (from_point p a)) ≡ list_any (tie q) (clues_of a)
    listed_begun =
        given_counted (from_point p a) q (counted_states (map at (different_clues a)))
        ∙ (ap (nat_lt 0) (ap count_of trail_begun ∙ count_seen p (trail_of a q)) ∙ sym (given_counted a q counted))

    alike_begun : Ascends (map (λ m. m.jsn) a.marks) → option_map (seen_from p) (get (table_of (from_point p a)) q) ≡ option_map (seen_from p) (get (table_of a) q)
    alike_begun rises =
        let b : Added = from_point p a in
        let seen : seen_from p (trail_of b q) ≡ seen_from p (trail_of a q) =
        ap (seen_from p) trail_begun ∙ seen_later p p (trail_of a q) (omega arith) (Ascends-jsns_of q a.marks rises) in
        let same : list_any (tie q) (clues_of b) ≡ list_any (tie q) (clues_of a) =
        given_counted b q (counted_states (map at (different_clues a)))
        ∙ (ap (nat_lt 0) (ap count_of trail_begun ∙ count_seen p (trail_of a q)) ∙ sym (given_counted a q counted)) in
        ap (option_map (seen_from p)) (get-table_of b q)
        ∙ (ap (λ x. option_map (seen_from p) (cond x (Some (trail_of b q)) None)) same
        ∙ (cond_alike (seen_from p) (list_any (tie q) (clues_of a)) (trail_of b q) (trail_of a q) None None seen refl
        ∙ sym (ap (option_map (seen_from p)) (get-table_of a q))))

-- an index that begins with the states at p, and was given the journals from p on, stands for all journals from p on
pub stands_carried : (k : KeptTrails) (a : Added) (p : ℕ) → Ascends (map (λ m. m.jsn) a.marks) → get (table_of a) no_clue ≡ None → All (λ s. 0 < s.count) a.states
    → StandsForTrails k (from_point p a) → StandsForTrails k (with_floor p a)
stands_carried k a p rises clear counted st =
    let counted' = recursion_from_All (λ s. 0 < s.count) a.states counted in
    record {
      floor = st.floor;
      at = λ q. st.at q ∙ alike_begun p a counted' q rises;
      ascend = st.ascend;
      rises = rises;
      clear = clear;
    }

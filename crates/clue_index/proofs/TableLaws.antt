-- Laws of the table of all clues that were given.
use Rattle.std.proofs.Common.{◌≡◌, ◌≢◌, ℕ, Bool, true, false, cond, ◌||◌, List, [], ◌∷◌, ◌++◌, map, filter, refl, sym, ap, ◌∙◌, Some, None}
use Rattle.std.specs.List.{list_any, fold}
use Rattle.std.specs.Ordering.{eq_by_cmp, nat_cmp}
use Rattle.std.specs.Cmp.Lexicographic.{slice_cmp}
use Rattle.std.specs.Str.{bytes_eq}
use Rattle.std.specs.FinMap.{get, find, get-from_entries}
use Rattle.std.proofs.lemmas.Bool.{cond-true, cond-false, false_from_ne_true, or_parts}
use Rattle.std.proofs.lemmas.Cmp.{nat_list_cmp_total}
use Rattle.std.proofs.lemmas.List.{append-nil, append_assoc, map-append}
use Rattle.std.proofs.lemmas.List.Elements.{filter-append}
use Rattle.std.proofs.lemmas.List.Folds.{list_any-append}
use Rattle.std.proofs.lemmas.List.Sums.{fold-append}
use Rattle.std.proofs.lemmas.Map.Text.{is_eq-slice_cmp}
use Rattle.std.proofs.lemmas.Slice.Eq.{bytes_eq-Decides}
use Rattle.clue_index.specs.Added.{Added, Mark, added_at_first, with_mark, state_of, jsns_of, trail_of, clues_of, table_of}
use Rattle.clue_index.specs.Trail.{Trail, no_trail, grown_trail}
use Rattle.clue_index.specs.declared.state.ClueState.{ClueState}

-- whether two clues tie in the order of their bytes
abbrev pub tie : List ℕ → List ℕ → Bool
tie x y = eq_by_cmp (slice_cmp nat_cmp) x y

-- equal clues tie
pub tie_same : (x y : List ℕ) → x ≡ y → tie x y ≡ true
tie_same x y is = is_eq-slice_cmp x y ∙ (bytes_eq-Decides x y).1 is

-- clues that tie are equal
pub same_tie : (x y : List ℕ) → tie x y ≡ true → x ≡ y
same_tie x y is = (bytes_eq-Decides x y).0 (sym (is_eq-slice_cmp x y) ∙ is)

-- others don't tie
pub tie_apart : (x y : List ℕ) → x ≢ y → tie x y ≡ false
tie_apart x y apart = false_from_ne_true _ (λ is. apart (same_tie x y is))

-- and aren't equal as bytes
bytes_apart : (x y : List ℕ) → x ≢ y → bytes_eq x y ≡ false
bytes_apart x y apart = false_from_ne_true _ (λ is. apart ((bytes_eq-Decides x y).0 is))

-- a table that has f of each of some clues gives it of these, and nothing of others
find_each : (f : List ℕ → Trail) (q : List ℕ) (clues : List (List ℕ))
    → find (slice_cmp nat_cmp) q (map (λ clue. (clue, f clue)) clues) ≡ cond (list_any (tie q) clues) (Some (f q)) None
find_each f q [] = refl
find_each f q (clue ∷ clues) =
    elim (tie q clue) as (λ b. tie q clue ≡ b → cond b (Some (f clue)) (find (slice_cmp nat_cmp) q (map (λ c. (c, f c)) clues)) ≡ cond (b || list_any (tie q) clues) (Some (f q)) None) [
      | true ↦ λ is. ap (λ c. Some (f c)) (sym (same_tie q clue is))
      | false ↦ λ is. find_each f q clues
    ] refl

-- what the table has at a clue
pub get-table_of : (a : Added) (q : List ℕ) → get (table_of a) q ≡ cond (list_any (tie q) (clues_of a)) (Some (trail_of a q)) None
get-table_of a q = get-from_entries nat_list_cmp_total (map (λ clue. (clue, trail_of a clue)) (clues_of a)) q ∙ find_each (trail_of a) q (clues_of a)

-- states of other clues tell nothing of this one
state_other : (q : List ℕ) (states : List ClueState) (t : Trail) → list_any (tie q) (map (λ s. s.clue.0) states) ≡ false
    → fold (λ t s. cond (bytes_eq q s.clue.0) (record { count = s.count; last = s.last; jsns = [] }) t) t states ≡ t
state_other q [] t other = refl
state_other q (s ∷ states) t other =
    let parts = or_parts (tie q s.clue.0) _ other in
    let apart : bytes_eq q s.clue.0 ≡ false = sym (is_eq-slice_cmp q s.clue.0) ∙ parts.0 in
    ap (λ u. fold (λ t s. cond (bytes_eq q s.clue.0) (record { count = s.count; last = s.last; jsns = [] }) t) u states) (cond-false _ _ _ apart) ∙ state_other q states t parts.1

-- nor do journals of other clues
jsns_other : (q : List ℕ) (marks : List Mark) → list_any (tie q) (map (λ m. m.clue) marks) ≡ false → jsns_of q marks ≡ []
jsns_other q [] other = refl
jsns_other q (m ∷ marks) other =
    let parts = or_parts (tie q m.clue) _ other in
    let apart : bytes_eq q m.clue ≡ false = sym (is_eq-slice_cmp q m.clue) ∙ parts.0 in
    ap (map (λ m. m.jsn)) (cond-false _ _ _ apart) ∙ jsns_other q marks parts.1

-- a clue that wasn't given has no journals
pub trail_absent : (a : Added) (q : List ℕ) → list_any (tie q) (clues_of a) ≡ false → trail_of a q ≡ no_trail
trail_absent a q absent =
    let parts = or_parts (list_any (tie q) (map (λ s. s.clue.0) a.states)) _ (sym (list_any-append (tie q) (map (λ s. s.clue.0) a.states) (map (λ m. m.clue) a.marks)) ∙ absent) in
    let none = state_other q a.states no_trail parts.0 in
    let nothing = jsns_other q a.marks parts.1 in
    λ i. record { count = (none i).count; last = (none i).last; jsns = nothing i }

-- a clue of which the table has nothing wasn't given
pub absent_from_get : (a : Added) (q : List ℕ) → get (table_of a) q ≡ None → list_any (tie q) (clues_of a) ≡ false
absent_from_get a q none =
    false_from_ne_true _ (λ is. let bad : Some (trail_of a q) ≡ None = sym (cond-true _ _ _ is) ∙ (sym (get-table_of a q) ∙ none) in cc)

-- and has no journals
pub trail_from_get : (a : Added) (q : List ℕ) → get (table_of a) q ≡ None → trail_of a q ≡ no_trail
trail_from_get a q none = trail_absent a q (absent_from_get a q none)

-- the clues with a journal more
clues_of-with_mark : (clue : List ℕ) (jsn : ℕ) (a : Added) → clues_of (with_mark clue jsn a) ≡ clues_of a ++ clue ∷ []
clues_of-with_mark clue jsn a = simp (map-append, append_assoc)

-- the journals with a journal more of the clue
trail_here : (clue : List ℕ) (jsn : ℕ) (a : Added) → trail_of (with_mark clue jsn a) clue ≡ grown_trail jsn (trail_of a clue)
trail_here clue jsn a =
    let same : bytes_eq clue clue ≡ true = (bytes_eq-Decides clue clue).1 refl in
    let m : Mark = record { clue = clue; jsn = jsn } in
    let more : jsns_of clue (a.marks ++ m ∷ []) ≡ jsns_of clue a.marks ++ jsn ∷ [] =
    ap (map (λ m. m.jsn)) (filter-append (λ m. bytes_eq clue m.clue) a.marks (m ∷ []) ∙ ap (λ ms. filter (λ m. bytes_eq clue m.clue) a.marks ++ ms) (cond-true _ _ _ same))
    ∙ map-append (λ m. m.jsn) (filter (λ m. bytes_eq clue m.clue) a.marks) (m ∷ []) in
    λ i. record { count = (state_of clue a.states).count; last = (state_of clue a.states).last; jsns = more i }

-- or of another
trail_other : (clue q : List ℕ) (jsn : ℕ) (a : Added) → q ≢ clue → trail_of (with_mark clue jsn a) q ≡ trail_of a q
trail_other clue q jsn a apart =
    let m : Mark = record { clue = clue; jsn = jsn } in
    let none : jsns_of q (a.marks ++ m ∷ []) ≡ jsns_of q a.marks =
    ap (map (λ m. m.jsn)) (filter-append (λ m. bytes_eq q m.clue) a.marks (m ∷ []) ∙ (ap (λ ms. filter (λ m. bytes_eq q m.clue) a.marks ++ ms) (cond-false _ _ _ (bytes_apart q clue apart)) ∙ append-nil _)) in
    λ i. record { count = (state_of q a.states).count; last = (state_of q a.states).last; jsns = none i }

-- whether a clue is among some, or is this one
any_push : (q clue : List ℕ) (clues : List (List ℕ)) (b : Bool) → tie q clue ≡ b → list_any (tie q) (clues ++ clue ∷ []) ≡ (list_any (tie q) clues || (b || false))
any_push q clue clues b is = list_any-append (tie q) clues (clue ∷ []) ∙ ap (λ b. list_any (tie q) clues || (b || false)) is

or_yes : (x : Bool) → (x || (true || false)) ≡ true
or_yes true = refl
or_yes false = refl

or_no : (x : Bool) → (x || (false || false)) ≡ x
or_no true = refl
or_no false = refl

-- a table whose clues are those of another and one more, and which has the same journals of other clues, differs at that
-- clue alone
pub table_changed : (a b : Added) (clue : List ℕ) (t : Trail) → clues_of b ≡ clues_of a ++ clue ∷ [] → trail_of b clue ≡ t
    → ((q : List ℕ) → q ≢ clue → trail_of b q ≡ trail_of a q)
    → (q : List ℕ) → get (table_of b) q ≡ cond (tie clue q) (Some t) (get (table_of a) q)
table_changed a b clue t more here others q =
    elim (tie q clue) as (λ x. tie q clue ≡ x → get (table_of b) q ≡ cond (tie clue q) (Some t) (get (table_of a) q)) [
      | true ↦ λ is.
          let same = same_tie q clue is in
          get-table_of b q
          ∙ (cond-true _ _ _ (ap (list_any (tie q)) more ∙ (any_push q clue (clues_of a) true is ∙ or_yes _))
          ∙ (ap Some (ap (trail_of b) same ∙ here) ∙ sym (cond-true _ _ _ (tie_same clue q (sym same)))))
      | false ↦ λ is.
          let apart : q ≢ clue = λ same. let bad : true ≡ false = sym (tie_same q clue same) ∙ is in cc in
          get-table_of b q
          ∙ (ap (λ x. cond x (Some (trail_of b q)) None) (ap (list_any (tie q)) more ∙ (any_push q clue (clues_of a) false is ∙ or_no _))
          ∙ (ap (λ t. cond (list_any (tie q) (clues_of a)) (Some t) None) (others q apart)
          ∙ (sym (get-table_of a q) ∙ sym (cond-false _ _ _ (tie_apart clue q (λ same. apart (sym same)))))))
    ] refl

-- the table with a journal more
pub get-with_mark : (clue : List ℕ) (jsn : ℕ) (a : Added) (q : List ℕ)
    → get (table_of (with_mark clue jsn a)) q ≡ cond (tie clue q) (Some (grown_trail jsn (trail_of a clue))) (get (table_of a) q)
get-with_mark clue jsn a =
    table_changed a (with_mark clue jsn a) clue _ (clues_of-with_mark clue jsn a) (trail_here clue jsn a) (λ q apart. trail_other clue q jsn a apart)

-- a state as the journals of its clue
abbrev pub trail_from : ClueState → Trail
trail_from s = record { count = s.count; last = s.last; jsns = [] }

-- the states with another behind them
pub get-begun : (states : List ClueState) (s : ClueState) (q : List ℕ)
    → get (table_of (added_at_first (states ++ s ∷ []))) q ≡ cond (tie s.clue.0 q) (Some (trail_from s)) (get (table_of (added_at_first states)) q)
get-begun states s =
    let told : (q : List ℕ) → state_of q (states ++ s ∷ []) ≡ cond (bytes_eq q s.clue.0) (trail_from s) (state_of q states) =
    λ q. fold-append (λ t s. cond (bytes_eq q s.clue.0) (trail_from s) t) no_trail states (s ∷ []) in
    let here : trail_of (added_at_first (states ++ s ∷ [])) s.clue.0 ≡ trail_from s =
    let is = told s.clue.0 ∙ cond-true _ _ _ ((bytes_eq-Decides s.clue.0 s.clue.0).1 refl) in
    λ i. record { count = (is i).count; last = (is i).last; jsns = [] } in
    let others : (q : List ℕ) → q ≢ s.clue.0 → trail_of (added_at_first (states ++ s ∷ [])) q ≡ trail_of (added_at_first states) q =
    λ q apart. let is = told q ∙ cond-false _ _ _ (bytes_apart q s.clue.0 apart) in
    λ i. record { count = (is i).count; last = (is i).last; jsns = [] } in
    let more : clues_of (added_at_first (states ++ s ∷ [])) ≡ clues_of (added_at_first states) ++ s.clue.0 ∷ [] = simp (map-append, append-nil) in
    table_changed (added_at_first states) (added_at_first (states ++ s ∷ [])) s.clue.0 (trail_from s) more here others

-- Laws of what an index keeps.
use Rattle.std.proofs.Common.{◌≡◌, ◌≢◌, ℕ, ◌≤◌, ◌<◌, max, Bool, true, false, cond, List, [], ◌∷◌, ◌++◌, map, filter, nat_le, refl, sym, ap, subst, ◌∙◌, arith, Some, None, Option, option_map, unwrap_or}
use Rattle.std.specs.List.{All, AllByRecursion}
use Rattle.std.specs.FinMap.{get}
use Rattle.std.specs.Str.{bytes_eq}
use Rattle.std.proofs.lemmas.Bool.{cond-false}
use Rattle.std.proofs.lemmas.List.{map-append}
use Rattle.std.proofs.lemmas.List.Elements.{recursion_from_All, All-map}
use Rattle.std.proofs.lemmas.Option.{cond_some}
use Rattle.clue_index.specs.Added.{Added, Mark, added_at_first, with_mark, with_floor, no_clue, jsns_of, trail_of, table_of}
use Rattle.clue_index.specs.Index.{KeptTrails, StandsForTrails, trail_in}
use Rattle.clue_index.specs.Trail.{Trail, no_trail, grown_trail, seen_from, kept_from, count_of, last_of, Ascends}
use Rattle.clue_index.specs.declared.state.ClueState.{ClueState}
use Rattle.clue_index.proofs.TableLaws.{tie, tie_apart, get-table_of, trail_from_get, get-with_mark, trail_from, get-begun}
use Rattle.clue_index.proofs.TrailLaws.{count_seen, last_seen, seen_later, seen_grown, all_below, all_filter, Ascends-filter, Ascends-push}

-- what some value and an option, where it has one, have in common
of_some : (f : Trail → Trail) (b : Bool) (x y : Trail) → Some y ≡ option_map f (cond b (Some x) None) → y ≡ f x
of_some f true x y is = cc
of_some f false x y is = cc

of_none : (f : Trail → Trail) (o : Option Trail) → None ≡ option_map f o → o ≡ None
of_none f None is = refl
of_none f (Some x) is = cc

-- what all numbers of journals are, those of a clue are
all_marks : (P : ℕ → Type 0) (q : List ℕ) (marks : List Mark) → AllByRecursion P (map (λ m. m.jsn) marks) → AllByRecursion P (jsns_of q marks)
all_marks P q [] all = tt
all_marks P q (m ∷ marks) all =
    elim (bytes_eq q m.clue) as (λ b. AllByRecursion P (map (λ m. m.jsn) (cond b (m ∷ filter (λ m. bytes_eq q m.clue) marks) (filter (λ m. bytes_eq q m.clue) marks)))) [
      | true ↦ (all.0, all_marks P q marks all.1)
      | false ↦ all_marks P q marks all.1
    ]

-- where the numbers of journals ascend, those of a clue do
pub Ascends-jsns_of : (q : List ℕ) (marks : List Mark) → Ascends (map (λ m. m.jsn) marks) → Ascends (jsns_of q marks)
Ascends-jsns_of q [] rise = tt
Ascends-jsns_of q (m ∷ marks) rise =
    elim (bytes_eq q m.clue) as (λ b. Ascends (map (λ m. m.jsn) (cond b (m ∷ filter (λ m. bytes_eq q m.clue) marks) (filter (λ m. bytes_eq q m.clue) marks)))) [
      | true ↦ (all_marks (λ n. m.jsn < n) q marks rise.0, Ascends-jsns_of q marks rise.1)
      | false ↦ Ascends-jsns_of q marks rise.1
    ]

module _ (k : KeptTrails) (a : Added) (st : StandsForTrails k a) (q : List ℕ) where
  -- the journals of a clue ascend
  pub rising : Ascends (trail_of a q).jsns
  rising = Ascends-jsns_of q a.marks st.rises

  -- so do those that are kept
  pub kept_rising : Ascends (kept_from a.floor (trail_of a q))
  kept_rising = Ascends-filter (λ n. nat_le a.floor n) (trail_of a q).jsns rising

  -- zeros have no journal
  pub unnamed : q ≡ no_clue → trail_of a q ≡ no_trail
  unnamed is = ap (trail_of a) is ∙ trail_from_get a no_clue st.clear

  -- a clue that is found has the journals that were added, as they are seen from the floor
  pub found : (t : Trail) → trail_in q k.trails ≡ Some t → seen_from a.floor t ≡ seen_from a.floor (trail_of a q)
  found t is =
      let e = sym (ap (option_map (seen_from k.floor)) is) ∙ (st.at q ∙ ap (option_map (seen_from a.floor)) (get-table_of a q)) in
      ap (λ f. seen_from f t) (sym st.floor) ∙ of_some (seen_from a.floor) _ (trail_of a q) (seen_from k.floor t) e

  -- one that isn't found has none
  pub absent : trail_in q k.trails ≡ None → trail_of a q ≡ no_trail
  absent is = trail_from_get a q (of_none (seen_from a.floor) _ (sym (ap (option_map (seen_from k.floor)) is) ∙ st.at q))

  pub count_found : (t : Trail) → trail_in q k.trails ≡ Some t → count_of t ≡ count_of (trail_of a q)
  count_found t is = sym (count_seen a.floor t) ∙ (ap count_of (found t is) ∙ count_seen a.floor (trail_of a q))

  pub last_found : (t : Trail) → trail_in q k.trails ≡ Some t → last_of t ≡ last_of (trail_of a q)
  last_found t is = sym (last_seen a.floor t (st.ascend q t is)) ∙ (ap last_of (found t is) ∙ last_seen a.floor (trail_of a q) rising)

  pub kept_found : (t : Trail) → trail_in q k.trails ≡ Some t → kept_from k.floor t ≡ kept_from a.floor (trail_of a q)
  kept_found t is = ap (λ f. kept_from f t) st.floor ∙ ap (λ t. t.jsns) (found t is)

-- two options that look alike, with the same put in their place where a test says so
pub cond_alike : (f : Trail → Trail) (b : Bool) (s t : Trail) (x y : Option Trail) → f s ≡ f t → option_map f x ≡ option_map f y
    → option_map f (cond b (Some s) x) ≡ option_map f (cond b (Some t) y)
cond_alike f true s t x y same rest = ap Some same
cond_alike f false s t x y same rest = rest

-- an index and what was added, changed alike at one clue
pub stands_changed : (k l : KeptTrails) (a b : Added) (clue : List ℕ) (s t : Trail) → StandsForTrails k a → l.floor ≡ k.floor → b.floor ≡ a.floor
    → ((q : List ℕ) → trail_in q l.trails ≡ cond (tie clue q) (Some s) (trail_in q k.trails))
    → ((q : List ℕ) → get (table_of b) q ≡ cond (tie clue q) (Some t) (get (table_of a) q))
    → seen_from a.floor s ≡ seen_from a.floor t → Ascends s.jsns → Ascends (map (λ m. m.jsn) b.marks) → clue ≢ no_clue → StandsForTrails l b
stands_changed k l a b clue s t st l-floor b-floor trails table alike rise rises named =
    let at_floor : (q : List ℕ) → option_map (seen_from a.floor) (trail_in q k.trails) ≡ option_map (seen_from a.floor) (get (table_of a) q) =
    λ q. ap (λ f. option_map (seen_from f) (trail_in q k.trails)) (sym st.floor) ∙ st.at q in
    let ascends : (q : List ℕ) (u : Trail) (x : Bool) → tie clue q ≡ x → cond x (Some s) (trail_in q k.trails) ≡ Some u → Ascends u.jsns =
    λ q u x. elim x as (λ x. tie clue q ≡ x → cond x (Some s) (trail_in q k.trails) ≡ Some u → Ascends u.jsns) [
      | true ↦ λ _ is. let same : s ≡ u = cc in subst (λ u. Ascends u.jsns) same rise
      | false ↦ λ _ is. st.ascend q u is
    ] in
    record {
      floor = l-floor ∙ (st.floor ∙ sym b-floor);
      at = λ q. ap (λ f. option_map (seen_from f) (trail_in q l.trails)) (l-floor ∙ st.floor)
          ∙ (ap (option_map (seen_from a.floor)) (trails q)
          ∙ (cond_alike (seen_from a.floor) (tie clue q) s t _ _ alike (at_floor q)
          ∙ (sym (ap (option_map (seen_from a.floor)) (table q)) ∙ ap (λ f. option_map (seen_from f) (get (table_of b) q)) (sym b-floor))));
      ascend = λ q u is. ascends q u (tie clue q) refl (sym (trails q) ∙ is);
      rises = rises;
      clear = table no_clue ∙ (cond-false _ _ _ (tie_apart clue no_clue named) ∙ st.clear);
    }

-- what a look-up found, or no journals, is what was added, as it is seen from the floor
old_alike : (k : KeptTrails) (a : Added) (clue : List ℕ) (o : Option Trail) → StandsForTrails k a → trail_in clue k.trails ≡ o
    → (seen_from a.floor (unwrap_or o no_trail) ≡ seen_from a.floor (trail_of a clue)) × Ascends (unwrap_or o no_trail).jsns
old_alike k a clue None st is = (ap (seen_from a.floor) (sym (absent k a st clue is)), tt)
old_alike k a clue (Some t) st is = (found k a st clue t is, st.ascend clue t is)

-- a journal more in an index
pub stands_added : (k l : KeptTrails) (a : Added) (clue : List ℕ) (jsn : ℕ) (o : Option Trail) (s : Trail) → trail_in clue k.trails ≡ o
    → s ≡ grown_trail jsn (unwrap_or o no_trail) → l.floor ≡ k.floor
    → ((q : List ℕ) → trail_in q l.trails ≡ cond (tie clue q) (Some s) (trail_in q k.trails))
    → StandsForTrails k a → clue ≢ no_clue → a.floor ≤ jsn → All (λ m. m.jsn < jsn) a.marks → StandsForTrails l (with_mark clue jsn a)
stands_added k l a clue jsn o s is s-is l-floor trails st named le above =
    let old : Trail = unwrap_or o no_trail in
    let alike = old_alike k a clue o st is in
    let all_low : AllByRecursion (λ n. n < jsn) (map (λ m. m.jsn) a.marks) =
    recursion_from_All (λ n. n < jsn) _ (All-map (λ n. n < jsn) (λ m. m.jsn) a.marks above) in
    let kept_low : AllByRecursion (λ n. n < jsn) (kept_from a.floor old) =
    subst (λ t. AllByRecursion (λ n. n < jsn) t.jsns) (sym alike.0)
    (all_filter (λ n. n < jsn) (λ n. nat_le a.floor n) (trail_of a clue).jsns (all_marks (λ n. n < jsn) clue a.marks all_low)) in
    let rise : Ascends s.jsns =
    subst (λ t. Ascends t.jsns) (sym s-is) (Ascends-push old.jsns jsn alike.1 (all_below a.floor jsn old.jsns le kept_low)) in
    let rises : Ascends (map (λ m. m.jsn) (with_mark clue jsn a).marks) =
    subst Ascends (sym (map-append (λ m. m.jsn) a.marks (record { clue = clue; jsn = jsn } ∷ []))) (Ascends-push _ jsn st.rises all_low) in
    let seen : seen_from a.floor s ≡ seen_from a.floor (grown_trail jsn (trail_of a clue)) =
    ap (seen_from a.floor) s-is ∙ (seen_grown a.floor jsn old le ∙ (ap (grown_trail jsn) alike.0 ∙ sym (seen_grown a.floor jsn (trail_of a clue) le))) in
    stands_changed k l a (with_mark clue jsn a) clue s (grown_trail jsn (trail_of a clue)) st l-floor refl trails (get-with_mark clue jsn a) seen rise rises named

-- a state more in an index that begins
pub stands_begun : (k l : KeptTrails) (states : List ClueState) (s : ClueState) → l.floor ≡ k.floor
    → ((q : List ℕ) → trail_in q l.trails ≡ cond (tie s.clue.0 q) (Some (trail_from s)) (trail_in q k.trails))
    → StandsForTrails k (added_at_first states) → s.clue.0 ≢ no_clue → StandsForTrails l (added_at_first (states ++ s ∷ []))
stands_begun k l states s l-floor trails st named =
    stands_changed k l (added_at_first states) (added_at_first (states ++ s ∷ [])) s.clue.0 (trail_from s) (trail_from s) st l-floor refl trails (get-begun states s) refl tt tt named

-- two options that look alike from one journal look alike from a later one
later_alike : (p q : ℕ) (x y : Option Trail) → p ≤ q → ((t : Trail) → x ≡ Some t → Ascends t.jsns) → ((t : Trail) → y ≡ Some t → Ascends t.jsns)
    → option_map (seen_from p) x ≡ option_map (seen_from p) y → option_map (seen_from q) x ≡ option_map (seen_from q) y
later_alike p q None None le rise rise' same = refl
later_alike p q None (Some u) le rise rise' same = cc
later_alike p q (Some t) None le rise rise' same = cc
later_alike p q (Some t) (Some u) le rise rise' same =
    let seen : seen_from p t ≡ seen_from p u = cc in
    ap Some (sym (seen_later p q t le (rise t refl)) ∙ (ap (seen_from q) seen ∙ seen_later p q u le (rise' u refl)))

-- what the table has ascends
rising_in : (k : KeptTrails) (a : Added) → StandsForTrails k a → (q : List ℕ) (t : Trail) → get (table_of a) q ≡ Some t → Ascends t.jsns
rising_in k a st q t is =
    let same = (cond_some _ _ _ (sym (get-table_of a q) ∙ is)).1 in
    subst (λ t. Ascends t.jsns) same (rising k a st q)

-- an index that keeps journals from a later one on
pub stands_dropped : (k l : KeptTrails) (a : Added) (p : ℕ) → l.floor ≡ max k.floor p → l.trails ≡ k.trails → StandsForTrails k a → StandsForTrails l (with_floor (max a.floor p) a)
stands_dropped k l a p l-floor l-trails st =
    let le : a.floor ≤ max a.floor p = omega arith in
    let floors : l.floor ≡ max a.floor p = l-floor ∙ ap (λ f. max f p) st.floor in
    let at_floor : (q : List ℕ) → option_map (seen_from a.floor) (trail_in q k.trails) ≡ option_map (seen_from a.floor) (get (table_of a) q) =
    λ q. ap (λ f. option_map (seen_from f) (trail_in q k.trails)) (sym st.floor) ∙ st.at q in
    record {
      floor = floors;
      at = λ q. ap (λ f. option_map (seen_from f) (trail_in q l.trails)) floors
          ∙ (ap (λ ts. option_map (seen_from (max a.floor p)) (trail_in q ts)) l-trails
          ∙ later_alike a.floor (max a.floor p) _ _ le (st.ascend q) (rising_in k a st q) (at_floor q));
      ascend = λ q t is. st.ascend q t (ap (trail_in q) (sym l-trails) ∙ is);
      rises = st.rises;
      clear = st.clear;
    }

-- an index without a clue
pub stands_empty : (k : KeptTrails) → k.floor ≡ 0 → k.trails ≡ [] → StandsForTrails k (added_at_first [])
stands_empty k floor none = record {
  floor = floor;
  at = λ q. ap (λ ts. option_map (seen_from k.floor) (trail_in q ts)) none ∙ sym (ap (option_map (seen_from 0)) (get-table_of (added_at_first []) q));
  ascend = λ q t is. let bad : None ≡ Some t = sym (ap (trail_in q) none) ∙ is in cc;
  rises = tt;
  clear = get-table_of (added_at_first []) no_clue;
}

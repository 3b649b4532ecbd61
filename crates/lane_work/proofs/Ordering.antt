-- Lemmas on the orders in which lines are taken.
use Rattle.std.proofs.Common.{◌≡◌, ◌≢◌, ℕ, ◌+◌, ◌^◌, ◌<◌, ◌≤◌, ◌==◌, ◌⊎◌, Bool, cond, List, [], ◌∷◌, ◌++◌, length, map, filter, Result, Ok, Err, inl, inr, refl, sym, ap, ◌∙◌, subst, arith, eq-eqb, ne_eqb}
use Rattle.std.specs.Prelude.{⊤, get_or, OnOk, OnErr, true, false, nat_lt, slice_index, All}
use Rattle.std.proofs.lemmas.Bool.Decides.{nat_tests}
use Rattle.std.proofs.lemmas.List.{map-append}
use Rattle.std.proofs.lemmas.List.Elements.{All-head, All-tail}
use mathlib.Core.Logic.{dite}
use native.Mathlib.Decide.{ℕ_discrete}
use Rattle.intake_queue.specs.Lanes.{of_lane, Below}
use Rattle.ledger_book.specs.declared.prepared.Prepared.{Prepared}
use Rattle.ledger_model.specs.Merge.{lines_of_lane}
use Rattle.ledger_model.specs.Rules.{job_of}
use Rattle.ledger_model.specs.Scheme.{Scheme}
use Rattle.ledger_model.specs.Windows.{Said}
use Rattle.script_lines.specs.Grammar.{spoken_line}
use Rattle.lane_work.specs.declared.kinds.LaneLine.{LaneLine}
use Rattle.lane_work.specs.declared.kinds.Made.{Made}
use Rattle.lane_work.specs.declared.taker.Flow.{Flow}
use Rattle.lane_work.specs.declared.taker.Flow.TheVariants.{GoOn, Stop}
use Rattle.lane_work.specs.declared.offering.State.{State}
use Rattle.lane_work.specs.declared.offering.State.TheVariants.{Going, Stopped, Lacking}
use Rattle.lane_work.specs.Making.{said_of, IsItemOf, MayBeItem, AllMade, lines_of}
use Rattle.lane_work.specs.Orders.{numbered, IsOrderOf}
use Rattle.lane_work.specs.Offering.{Goes, GoesSome, Stops, OffersMade, OffersLine, Comes, Came, RanAlone, LackedAlone, RunsAll, RunsSome}
use Rattle.lane_work.specs.Windows.{Merged}
use Rattle.lane_work.proofs.Chains.{goes_push}

-- ---- the lines of what was made

-- the lines of a lane are those of the lane's items
lane_said : (k : ℕ) (got : List Made) → lines_of_lane k (map said_of got) ≡ map said_of (of_lane (λ (m : Made). m.lane) k got)
unfolding of_lane
lane_said k [] = refl
lane_said k (m ∷ got) =
    let rest = filter (λ (x : Made). x.lane == k) got in
    dite (ℕ_discrete m.lane k)
    (λ (e : m.lane ≡ k). (λ i. cond (eq-eqb m.lane k e i) (said_of m ∷ lane_said k got i) (lane_said k got i)) ∙ sym (ap (λ (b : Bool). map said_of (cond b (m ∷ rest) rest)) (eq-eqb m.lane k e)))
    (λ (e : m.lane ≢ k). (λ i. cond (ne_eqb m.lane k e i) (said_of m ∷ lane_said k got i) (lane_said k got i)) ∙ sym (ap (λ (b : Bool). map said_of (cond b (m ∷ rest) rest)) (ne_eqb m.lane k e)))

-- what lines were made into has these lines, with their numbers
made_said : (scheme : Scheme) (id : List ℕ) (n : ℕ) (ls : List LaneLine) (ms : List Made) → AllMade scheme id n ls ms → map said_of ms ≡ numbered n ls
unfolding AllMade numbered
made_said scheme id n [] [] a = refl
made_said scheme id n [] (m ∷ ms) a = absurd a
made_said scheme id n (l ∷ ls) [] a = absurd a
made_said scheme id n (l ∷ ls) (m ∷ ms) a =
    let at = a.0 in
    let head : said_of m ≡ record { lane = l.lane; index = n; line = l.line } = λ i. record { lane = at.0 i; index = at.1 i; line = at.2 i } in
    ap (λ (x : Said). x ∷ map said_of ms) head ∙ ap (λ (xs : List Said). record { lane = l.lane; index = n; line = l.line } ∷ xs) (made_said scheme id (n + 1) ls ms a.1)

-- a lane that isn't there has no lines
none_above : (k : ℕ) (window : List LaneLine) → 8 ≤ k → All (λ l. l.lane < 8) window → lines_of k window ≡ []
none_above k [] high low = refl
none_above k (l ∷ ls) high low =
    let one : l.lane < 8 = All-head (λ l. l.lane < 8) l ls low in
    ap (λ (b : Bool). cond b (l ∷ lines_of k ls) (lines_of k ls)) (ne_eqb l.lane k (λ e. omega (arith, one, e, high))) ∙ none_above k ls high (All-tail (λ l. l.lane < 8) l ls low)

none_above_made : (k : ℕ) (got : List Made) → 8 ≤ k → Below (λ (m : Made). m.lane) 8 got → of_lane (λ (m : Made). m.lane) k got ≡ []
unfolding of_lane Below
none_above_made k [] high low = refl
none_above_made k (m ∷ ms) high low =
    let one = low.0 in
    let rest = filter (λ (x : Made). x.lane == k) ms in
    ap (λ (b : Bool). cond b (m ∷ rest) rest) (ne_eqb m.lane k (λ e. omega (arith, one, e, high))) ∙ none_above_made k ms high low.1

pub below_front : {T : Type 0} (lane : T → ℕ) (n : ℕ) (xs ys : List T) → Below lane n (xs ++ ys) → Below lane n xs
unfolding Below
below_front lane n [] ys b = tt
below_front lane n (x ∷ xs) ys b = (b.0, below_front lane n xs ys b.1)

-- ---- what was offered

-- each of them may be the item of its line
AllItem : Scheme → List ℕ → List Made → Type 0
AllItem scheme id [] = ⊤
AllItem scheme id (m ∷ ms) = MayBeItem scheme id (said_of m) m.item × AllItem scheme id ms

made_items : (scheme : Scheme) (id : List ℕ) (n : ℕ) (ls : List LaneLine) (ms : List Made) → AllMade scheme id n ls ms → AllItem scheme id ms
unfolding AllMade AllItem
made_items scheme id n [] [] a = tt
made_items scheme id n [] (m ∷ ms) a = absurd a
made_items scheme id n (l ∷ ls) [] a = absurd a
made_items scheme id n (l ∷ ls) (m ∷ ms) a = (a.0.3, made_items scheme id (n + 1) ls ms a.1)

-- what holds of each lane's items holds of all
by_lanes : (scheme : Scheme) (id : List ℕ) (got : List Made) → Below (λ (m : Made). m.lane) 8 got → ((k : ℕ) → k < 8 → AllItem scheme id (of_lane (λ (m : Made). m.lane) k got)) → AllItem scheme id got
unfolding of_lane Below AllItem
by_lanes scheme id [] low each = tt
by_lanes scheme id (m ∷ ms) low each = (
  (subst (λ (b : Bool). AllItem scheme id (cond b (m ∷ filter (λ (x : Made). x.lane == m.lane) ms) (filter (λ (x : Made). x.lane == m.lane) ms))) (eq-eqb m.lane m.lane refl) (each m.lane low.0)).0,
  by_lanes scheme id ms low.1 (λ k less.
      let rest = filter (λ (x : Made). x.lane == k) ms in
      dite (ℕ_discrete m.lane k)
      (λ (e : m.lane ≡ k). (subst (λ (b : Bool). AllItem scheme id (cond b (m ∷ rest) rest)) (eq-eqb m.lane k e) (each k less)).1)
      (λ (e : m.lane ≢ k). subst (λ (b : Bool). AllItem scheme id (cond b (m ∷ rest) rest)) (ne_eqb m.lane k e) (each k less))),
)

items_front : (scheme : Scheme) (id : List ℕ) (xs ys : List Made) → AllItem scheme id (xs ++ ys) → AllItem scheme id xs × AllItem scheme id ys
unfolding AllItem
items_front scheme id [] ys a = (tt, a)
items_front scheme id (x ∷ xs) ys a = let r = items_front scheme id xs ys a.1 in ((a.0, r.0), r.1)

module _ {S : Type 0} (scheme : Scheme) (id : List ℕ) (offers : S → Prepared → Flow → S → Type 0) where
  line_offered : (s : S) (m : Made) (f : Flow) (t : S) → MayBeItem scheme id (said_of m) m.item → OffersMade offers s m f t → OffersLine scheme id offers s (said_of m) f t
  line_offered s m f t may o = (o.0, subst (MayBeItem scheme id (said_of m)) o.1 may, o.2)

  lines_offered : (s : S) (got : List Made) (t : S) → AllItem scheme id got → Goes (OffersMade offers) s got t → Goes (OffersLine scheme id offers) s (map said_of got) t
  unfolding Goes AllItem
  lines_offered s [] t a g = g
  lines_offered s (m ∷ ms) t a g = (g.0, line_offered s m GoOn g.0 a.0 g.1, lines_offered g.0 ms t a.1 g.2)

  lines_stopped : (s : S) (got : List Made) (t : S) → AllItem scheme id got → Stops (OffersMade offers) s got t → Stops (OffersLine scheme id offers) s (map said_of got) t
  unfolding AllItem
  lines_stopped s got t a g =
      let parts = items_front scheme id g.front (g.last ∷ g.rest) (subst (AllItem scheme id) g.split a) in record {
        front = map said_of g.front;
        last = said_of g.last;
        rest = map said_of g.rest;
        split = ap (map said_of) g.split ∙ map-append said_of g.front (g.last ∷ g.rest);
        mid = g.mid;
        goes = lines_offered s g.front g.mid parts.0 g.goes;
        stops = line_offered g.mid g.last Stop t parts.1.0 g.stops;
      }

  lines_some : (s : S) (got : List Made) (t : S) → AllItem scheme id got → GoesSome (OffersMade offers) s got t → GoesSome (OffersLine scheme id offers) s (map said_of got) t
  lines_some s got t a g =
      let parts = items_front scheme id g.front g.rest (subst (AllItem scheme id) g.split a) in record {
        front = map said_of g.front;
        rest = map said_of g.rest;
        split = ap (map said_of) g.split ∙ map-append said_of g.front g.rest;
        goes = lines_offered s g.front t parts.0 g.goes;
      }

  module _ (first : List ℕ) (window : List LaneLine) (got : List Made) (low : All (λ l. l.lane < 8) window) (below : Below (λ (m : Made). m.lane) 8 got) (merge : Merged scheme id first window got) where
    -- what was got has the lines in an order
    is_order : IsOrderOf first window (map said_of got)
    unfolding numbered
    is_order k = elim (nat_lt k 8) as (λ b. nat_lt k 8 ≡ b → lines_of_lane k (map said_of got) ≡ numbered (slice_index first k) (lines_of k window)) [
      | true ↦ λ e. let less : k < 8 = grind (arith, nat_tests, e) in
          lane_said k got ∙ made_said scheme id (slice_index first k) (lines_of k window) (of_lane (λ (m : Made). m.lane) k got) (merge k less)
      | false ↦ λ e. let more : 8 ≤ k = grind (arith, nat_tests, e) in
          lane_said k got ∙ ap (map said_of) (none_above_made k got more below) ∙ ap (numbered (slice_index first k)) (sym (none_above k window more low))
    ] refl

    items : AllItem scheme id got
    items = by_lanes scheme id got below (λ k less. made_items scheme id (slice_index first k) (lines_of k window) (of_lane (λ (m : Made). m.lane) k got) (merge k less))

    -- what came of it, in the words of the lines
    pub came : (state : State) (s t : S) → Comes offers state s got t → Came (OffersLine scheme id offers) state first window s t
    came Going s t c = record { order = map said_of got; is_order = is_order; runs = inl (lines_offered s got t items c) }
    came Stopped s t c = record { order = map said_of got; is_order = is_order; runs = inr (lines_stopped s got t items c) }
    came Lacking s t c = record { order = map said_of got; is_order = is_order; runs = lines_some s got t items c }

-- ---- nothing was offered

-- the lines as they stand, where the lanes' first numbers are these
in_order : (ℕ → ℕ) → List LaneLine → List Said
in_order next [] = []
in_order next (l ∷ ls) = record { lane = l.lane; index = next l.lane; line = l.line } ∷ in_order (λ k. cond (l.lane == k) (next k + 1) (next k)) ls

in_order_is : (next : ℕ → ℕ) (window : List LaneLine) (k : ℕ) → lines_of_lane k (in_order next window) ≡ numbered (next k) (lines_of k window)
unfolding in_order numbered
in_order_is next [] k = refl
in_order_is next (l ∷ ls) k =
    let more : ℕ → ℕ = λ j. cond (l.lane == j) (next j + 1) (next j) in
    let x : Said = record { lane = l.lane; index = next l.lane; line = l.line } in
    let rest = lines_of_lane k (in_order more ls) in
    let ours = in_order_is more ls k in
    dite (ℕ_discrete l.lane k)
    (λ (e : l.lane ≡ k).
    ap (λ (b : Bool). cond b (x ∷ rest) rest) (eq-eqb l.lane k e)
    ∙ ap (λ (n : ℕ). record { lane = l.lane; index = next n; line = l.line } ∷ rest) e
    ∙ ap (λ (xs : List Said). record { lane = l.lane; index = next k; line = l.line } ∷ xs) (ours ∙ ap (λ (b : Bool). numbered (cond b (next k + 1) (next k)) (lines_of k ls)) (eq-eqb l.lane k e))
    ∙ sym (ap (λ (b : Bool). numbered (next k) (cond b (l ∷ lines_of k ls) (lines_of k ls))) (eq-eqb l.lane k e)))
    (λ (e : l.lane ≢ k).
    ap (λ (b : Bool). cond b (x ∷ rest) rest) (ne_eqb l.lane k e)
    ∙ ours ∙ ap (λ (b : Bool). numbered (cond b (next k + 1) (next k)) (lines_of k ls)) (ne_eqb l.lane k e)
    ∙ sym (ap (λ (b : Bool). numbered (next k) (cond b (l ∷ lines_of k ls) (lines_of k ls))) (ne_eqb l.lane k e)))

-- no line was offered
pub none_offered : {S : Type 0} (offers : S → Said → Flow → S → Type 0) (first : List ℕ) (window : List LaneLine) (s t : S) → t ≡ s → RunsSome offers first window s t
unfolding Goes
none_offered offers first window s t same = record {
  order = in_order (λ k. slice_index first k) window;
  is_order = in_order_is (λ k. slice_index first k) window;
  runs = record { front = []; rest = in_order (λ k. slice_index first k) window; split = refl; goes = same };
}

pub on_err : {T E : Type 0} {P : Type 0} (result : Result T E) → P → OnErr result P
on_err (Ok value) p = tt
on_err (Err error) p = p

pub ran_all : {S : Type 0} (offers : S → Said → Flow → S → Type 0) (state : State) (first : List ℕ) (window : List LaneLine) (s t : S) → (state ≡ Going) ⊎ (state ≡ Stopped) → Came offers state first window s t → RunsAll offers first window s t
ran_all offers Going first window s t on c = c
ran_all offers Stopped first window s t on c = c
ran_all offers Lacking first window s t (inl is) c = absurd (let no : ⊥ = cc in no)
ran_all offers Lacking first window s t (inr is) c = absurd (let no : ⊥ = cc in no)

-- each line's lane is there
pub all_low : (xs : List LaneLine) → All (λ l. l.lane < 8) xs
all_low xs k d less = let l = get_or xs k d in let low = l.low in omega (arith, low)

-- ---- the lines of one lane

pub numbered-append : (n : ℕ) (xs ys : List LaneLine) → numbered n (xs ++ ys) ≡ numbered n xs ++ numbered (n + length xs) ys
unfolding numbered
numbered-append n [] ys = ap (λ (m : ℕ). numbered m ys) (omega arith)
numbered-append n (x ∷ xs) ys =
    let head : Said = record { lane = x.lane; index = n; line = x.line } in
    ap (λ (l : List Said). head ∷ l) (numbered-append (n + 1) xs ys ∙ ap (λ (m : ℕ). numbered (n + 1) xs ++ numbered m ys) (omega arith))

numbered_here : (k n : ℕ) (ls : List LaneLine) → All (λ l. l.lane ≡ k) ls → lines_of_lane k (numbered n ls) ≡ numbered n ls
unfolding numbered
numbered_here k n [] all = refl
numbered_here k n (l ∷ ls) all =
    let x : Said = record { lane = l.lane; index = n; line = l.line } in
    let rest = numbered (n + 1) ls in
    ap (λ (b : Bool). cond b (x ∷ lines_of_lane k rest) (lines_of_lane k rest)) (eq-eqb l.lane k (All-head (λ l. l.lane ≡ k) l ls all))
    ∙ ap (λ (xs : List Said). x ∷ xs) (numbered_here k (n + 1) ls (All-tail (λ l. l.lane ≡ k) l ls all))

lines_here : (k : ℕ) (ls : List LaneLine) → All (λ l. l.lane ≡ k) ls → lines_of k ls ≡ ls
lines_here k [] all = refl
lines_here k (l ∷ ls) all =
    ap (λ (b : Bool). cond b (l ∷ lines_of k ls) (lines_of k ls)) (eq-eqb l.lane k (All-head (λ l. l.lane ≡ k) l ls all))
    ∙ ap (λ (xs : List LaneLine). l ∷ xs) (lines_here k ls (All-tail (λ l. l.lane ≡ k) l ls all))

numbered_else : (j k n : ℕ) (ls : List LaneLine) → j ≢ k → All (λ l. l.lane ≡ j) ls → lines_of_lane k (numbered n ls) ≡ []
unfolding numbered
numbered_else j k n [] other all = refl
numbered_else j k n (l ∷ ls) other all =
    let x : Said = record { lane = l.lane; index = n; line = l.line } in
    let rest = numbered (n + 1) ls in
    ap (λ (b : Bool). cond b (x ∷ lines_of_lane k rest) (lines_of_lane k rest)) (ne_eqb l.lane k (λ e. other (sym (All-head (λ l. l.lane ≡ j) l ls all) ∙ e)))
    ∙ numbered_else j k (n + 1) ls other (All-tail (λ l. l.lane ≡ j) l ls all)

lines_else : (j k : ℕ) (ls : List LaneLine) → j ≢ k → All (λ l. l.lane ≡ j) ls → lines_of k ls ≡ []
lines_else j k [] other all = refl
lines_else j k (l ∷ ls) other all =
    ap (λ (b : Bool). cond b (l ∷ lines_of k ls) (lines_of k ls)) (ne_eqb l.lane k (λ e. other (sym (All-head (λ l. l.lane ≡ j) l ls all) ∙ e)))
    ∙ lines_else j k ls other (All-tail (λ l. l.lane ≡ j) l ls all)

-- .. are taken in their order
alone_order : (j : ℕ) (first : List ℕ) (ls : List LaneLine) → All (λ l. l.lane ≡ j) ls → IsOrderOf first ls (numbered (slice_index first j) ls)
unfolding numbered
alone_order j first ls all k =
    dite (ℕ_discrete j k)
    (λ (e : j ≡ k). subst (λ (i : ℕ). lines_of_lane i (numbered (slice_index first j) ls) ≡ numbered (slice_index first i) (lines_of i ls)) e
    (numbered_here j (slice_index first j) ls all ∙ ap (numbered (slice_index first j)) (sym (lines_here j ls all))))
    (λ (e : j ≢ k). numbered_else j k (slice_index first j) ls e all ∙ ap (numbered (slice_index first k)) (sym (lines_else j k ls e all)))

module _ {S : Type 0} (offers : S → Said → Flow → S → Type 0) (j start : ℕ) (first : List ℕ) (ls : List LaneLine) (s t : S) (all : All (λ l. l.lane ≡ j) ls) (start_is : start ≡ slice_index first j) where
  pub alone_all : RanAlone offers start ls s t → RunsAll offers first ls s t
  alone_all r = record { order = numbered (slice_index first j) ls; is_order = alone_order j first ls all; runs = subst (λ (n : ℕ). RanAlone offers n ls s t) start_is r }

  pub alone_some : LackedAlone offers start ls s t → RunsSome offers first ls s t
  alone_some r = record { order = numbered (slice_index first j) ls; is_order = alone_order j first ls all; runs = subst (λ (n : ℕ). LackedAlone offers n ls s t) start_is r }

abbrev pub said_at : LaneLine → ℕ → Said
said_at l n = record { lane = l.lane; index = n; line = l.line }

numbered_cons : (n : ℕ) (l : LaneLine) (ls : List LaneLine) → numbered n (l ∷ ls) ≡ said_at l n ∷ numbered (n + 1) ls
unfolding numbered
numbered_cons n l ls = refl

-- an item that was prepared of a line
pub prepared_is : (scheme : Scheme) (id : List ℕ) (l : LaneLine) (index n : ℕ) (item : Prepared) (line : List ℕ) → index ≡ n → line ≡ l.line → item.lane ≡ (spoken_line line).0 → item.index ≡ index → item.job ≡ job_of scheme id line
    → IsItemOf scheme id (said_at l n) item
prepared_is scheme id l index n item line at same lane number job =
    (lane ∙ ap (λ (x : List ℕ). (spoken_line x).0) same ∙ sym l.is_lane, number ∙ at, job ∙ ap (job_of scheme id) same)

pub alone_more : {S : Type 0} (scheme : Scheme) (id : List ℕ) (offers : S → Prepared → Flow → S → Type 0) (start : ℕ) (ls : List LaneLine) (l : LaneLine) (item : Prepared) (s m t : S)
    → IsItemOf scheme id (said_at l (start + length ls)) item → Goes (OffersLine scheme id offers) s (numbered start ls) m → offers m item GoOn t
    → Goes (OffersLine scheme id offers) s (numbered start (ls ++ l ∷ [])) t
unfolding numbered
alone_more scheme id offers start ls l item s m t is g o =
    subst (λ (xs : List Said). Goes (OffersLine scheme id offers) s xs t) (sym (numbered-append start ls (l ∷ [])))
    (goes_push (OffersLine scheme id offers) s (numbered start ls) m (said_at l (start + length ls)) t g (item, is, o))

pub alone_stops : {S : Type 0} (scheme : Scheme) (id : List ℕ) (offers : S → Prepared → Flow → S → Type 0) (start : ℕ) (ls rest whole : List LaneLine) (l : LaneLine) (item : Prepared) (s m t : S)
    → ls ++ l ∷ rest ≡ whole → IsItemOf scheme id (said_at l (start + length ls)) item → Goes (OffersLine scheme id offers) s (numbered start ls) m → offers m item Stop t
    → Stops (OffersLine scheme id offers) s (numbered start whole) t
alone_stops scheme id offers start ls rest whole l item s m t split is g o = record {
  front = numbered start ls;
  last = said_at l (start + length ls);
  rest = numbered (start + length ls + 1) rest;
  split = ap (numbered start) (sym split) ∙ numbered-append start ls (l ∷ rest) ∙ ap (λ (xs : List Said). numbered start ls ++ xs) (numbered_cons (start + length ls) l rest);
  mid = m;
  goes = g;
  stops = (item, is, o);
}

pub alone_lacks : {S : Type 0} (scheme : Scheme) (id : List ℕ) (offers : S → Prepared → Flow → S → Type 0) (start : ℕ) (ls rest whole : List LaneLine) (s t : S) → ls ++ rest ≡ whole → Goes (OffersLine scheme id offers) s (numbered start ls) t
    → GoesSome (OffersLine scheme id offers) s (numbered start whole) t
alone_lacks scheme id offers start ls rest whole s t split g = record {
  front = numbered start ls;
  rest = numbered (start + length ls) rest;
  split = ap (numbered start) (sym split) ∙ numbered-append start ls rest;
  goes = g;
}

pub alone_none : {S : Type 0} (offers : S → Said → Flow → S → Type 0) (start : ℕ) (s : S) → Goes offers s (numbered start []) s
unfolding numbered Goes
alone_none offers start s = refl

pub alone_fits : (j : ℕ) (first : List ℕ) (ls : List LaneLine) → All (λ l. l.lane ≡ j) ls → j < 8 → ((k : ℕ) → k < 8 → slice_index first k + length (lines_of k ls) < 2 ^ 64) → slice_index first j + length ls < 2 ^ 64
alone_fits j first ls all low fits = let a = fits j low in let b = ap length (lines_here j ls all) in omega (arith, a, b)

pub on_ok_of : {T E : Type 0} {P Q : Type 0} (result : Result T E) → (P → Q) → OnOk result P → OnOk result Q
on_ok_of (Ok value) f p = f p
on_ok_of (Err error) f p = tt

pub on_err_of : {T E : Type 0} {P Q : Type 0} (result : Result T E) → (P → Q) → OnErr result P → OnErr result Q
on_err_of (Ok value) f p = tt
on_err_of (Err error) f p = f p

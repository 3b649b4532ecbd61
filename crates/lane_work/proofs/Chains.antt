-- Lemmas on what a taker is offered, one after the other.
use Rattle.std.proofs.Common.{◌≡◌, List, [], ◌∷◌, ◌++◌, sym, refl, ap, ◌∙◌, subst, append_assoc}
use Rattle.ledger_book.specs.declared.prepared.Prepared.{Prepared}
use Rattle.lane_work.specs.declared.kinds.Made.{Made}
use Rattle.lane_work.specs.declared.taker.Flow.{Flow}
use Rattle.lane_work.specs.declared.taker.Flow.TheVariants.{GoOn}
use Rattle.lane_work.specs.declared.offering.State.{State}
use Rattle.lane_work.specs.declared.offering.State.TheVariants.{Going, Stopped, Lacking}
use Rattle.lane_work.specs.Offering.{Goes, GoesSome, Stops, OffersMade, Hands, Comes}

module _ {S X : Type 0} (offers : S → X → Flow → S → Type 0) where
  pub goes_none : (s : S) → Goes offers s [] s
  unfolding Goes
  goes_none s = refl

  pub goes_push : (s : S) (xs : List X) (m : S) (x : X) (t : S) → Goes offers s xs m → offers m x GoOn t → Goes offers s (xs ++ x ∷ []) t
  unfolding Goes
  goes_push s [] m x t g o = (t, subst (λ (y : S). offers y x GoOn t) g o, refl)
  goes_push s (y ∷ ys) m x t g o = (g.0, g.1, goes_push g.0 ys m x t g.2 o)

  -- more items behind those that were offered
  pub some_more : (s : S) (xs ys : List X) (t : S) → GoesSome offers s xs t → GoesSome offers s (xs ++ ys) t
  some_more s xs ys t g = record { front = g.front; rest = g.rest ++ ys; split = ap (λ (l : List X). l ++ ys) g.split ∙ append_assoc g.front g.rest ys; goes = g.goes }

  pub stops_more : (s : S) (xs ys : List X) (t : S) → Stops offers s xs t → Stops offers s (xs ++ ys) t
  stops_more s xs ys t g = record {
    front = g.front;
    last = g.last;
    rest = g.rest ++ ys;
    split = ap (λ (l : List X). l ++ ys) g.split ∙ append_assoc g.front (g.last ∷ g.rest) ys;
    mid = g.mid;
    goes = g.goes;
    stops = g.stops;
  }

module _ {S : Type 0} (ready : S → Type 0) (offers : S → Prepared → Flow → S → Type 0) where
  -- how far it is, and while it goes on it may be offered more
  abbrev pub So : State → S → List Made → S → Type 0
  So Going s got t = Comes offers Going s got t × ready t
  So Stopped s got t = Comes offers Stopped s got t
  So Lacking s got t = Comes offers Lacking s got t

  pub so_comes : (state : State) (s : S) (got : List Made) (t : S) → So state s got t → Comes offers state s got t
  so_comes Going s got t h = h.0
  so_comes Stopped s got t h = h
  so_comes Lacking s got t h = h

  pub so_ready : (state : State) (s : S) (got : List Made) (t : S) → So state s got t → state ≡ Going → ready t
  so_ready Going s got t h is = h.1
  so_ready Stopped s got t h is = absurd (let no : ⊥ = cc in no)
  so_ready Lacking s got t h is = absurd (let no : ⊥ = cc in no)

  pub so_more : (state : State) (s : S) (got : List Made) (m : S) (x : Made) (still : State) (t : S) → So state s got m → Hands ready offers state m x still t → So still s (got ++ x ∷ []) t
  so_more Going s got m x Going t h o = (goes_push (OffersMade offers) s got m x t h.0 o.0, o.1)
  so_more Going s got m x Stopped t h o = record { front = got; last = x; rest = []; split = refl; mid = m; goes = h.0; stops = o }
  so_more Going s got m x Lacking t h o = record { front = got; rest = x ∷ []; split = refl; goes = subst (λ (y : S). Goes (OffersMade offers) s got y) (sym o) h.0 }
  so_more Stopped s got m x still t h o =
      subst (λ (b : State). So b s (got ++ x ∷ []) t) (sym o.0) (stops_more (OffersMade offers) s got (x ∷ []) t (subst (λ (y : S). Stops (OffersMade offers) s got y) (sym o.1) h))
  so_more Lacking s got m x still t h o =
      subst (λ (b : State). So b s (got ++ x ∷ []) t) (sym o.0) (some_more (OffersMade offers) s got (x ∷ []) t (subst (λ (y : S). GoesSome (OffersMade offers) s got y) (sym o.1) h))

-- What a taker is offered, one line after the other: of its value before, the lines, and its value after.
use Rattle.std.specs.Prelude.{◌≡◌, ◌⊎◌, ⊤, ℕ, List, [], ◌∷◌, ◌++◌, Ok}
use Rattle.ledger_book.specs.declared.prepared.Prepared.{Prepared}
use Rattle.ledger_model.specs.Scheme.{Scheme}
use Rattle.ledger_model.specs.Windows.{Said}
use Rattle.lane_work.specs.declared.kinds.LaneLine.{LaneLine}
use Rattle.lane_work.specs.declared.kinds.Made.{Made}
use Rattle.lane_work.specs.declared.taker.Flow.{Flow}
use Rattle.lane_work.specs.declared.taker.Flow.TheVariants.{GoOn, Stop}
use Rattle.lane_work.specs.declared.offering.State.{State}
use Rattle.lane_work.specs.declared.offering.State.TheVariants.{Going, Stopped, Lacking}
use Rattle.lane_work.specs.Making.{IsItemOf}
use Rattle.lane_work.specs.Orders.{numbered, IsOrderOf}

-- a promise that counts only where the taker goes on
abbrev pub IfGoOn : Flow → Type 0 → Type 0
IfGoOn GoOn P = P
IfGoOn Stop P = ⊤

-- ---- over any items

module _ {S X : Type 0} (offers : S → X → Flow → S → Type 0) where
  -- items were offered one after the other, and the taker went on after each
  unfoldable pub Goes : S → List X → S → Type 0
  Goes s [] t = t ≡ s
  Goes s (x ∷ xs) t = (m : S) × offers s x GoOn m × Goes m xs t

  -- some first ones of the items were offered, and the taker went on after each
  pub record GoesSome (s : S) (items : List X) (t : S) : Type 0 where
    pub front : List X
    pub rest : List X
    pub split : items ≡ front ++ rest
    pub goes : Goes s front t

  -- some first ones were offered, the taker stopped at the last of them, and nothing behind it was offered
  pub record Stops (s : S) (items : List X) (t : S) : Type 0 where
    pub front : List X
    pub last : X
    pub rest : List X
    pub split : items ≡ front ++ last ∷ rest
    pub mid : S
    pub goes : Goes s front mid
    pub stops : offers mid last Stop t

-- ---- over the lines of a window

-- the item of a line was offered
abbrev pub OffersLine : {S : Type 0} → Scheme → List ℕ → (S → Prepared → Flow → S → Type 0) → S → Said → Flow → S → Type 0
OffersLine scheme id offers s x f t = (item : Prepared) × IsItemOf scheme id x item × offers s item f t

-- the lines of a window were offered in some order: all of them, or up to one at which the taker stopped
pub record RunsAll {S : Type 0} (offers : S → Said → Flow → S → Type 0) (first : List ℕ) (window : List LaneLine) (s t : S) : Type 0 where
  pub order : List Said
  pub is_order : IsOrderOf first window order
  pub runs : Goes offers s order t ⊎ Stops offers s order t

-- memory was missing: some first lines of an order of the window were offered
pub record RunsSome {S : Type 0} (offers : S → Said → Flow → S → Type 0) (first : List ℕ) (window : List LaneLine) (s t : S) : Type 0 where
  pub order : List Said
  pub is_order : IsOrderOf first window order
  pub runs : GoesSome offers s order t

-- ---- over what workers made

-- the item that a worker made was offered; where there is none nothing is
abbrev pub OffersMade : {S : Type 0} → (S → Prepared → Flow → S → Type 0) → S → Made → Flow → S → Type 0
OffersMade offers s m f t = (item : Prepared) × (m.item ≡ Ok item) × offers s item f t

-- what happens to one result, where the taker goes on, has stopped, or memory was missing
abbrev pub Hands : {S : Type 0} → (S → Type 0) → (S → Prepared → Flow → S → Type 0) → State → S → Made → State → S → Type 0
Hands ready offers Going s m Going t = OffersMade offers s m GoOn t × ready t
Hands ready offers Going s m Stopped t = OffersMade offers s m Stop t
Hands ready offers Going s m Lacking t = t ≡ s
Hands ready offers Stopped s m still t = (still ≡ Stopped) × (t ≡ s)
Hands ready offers Lacking s m still t = (still ≡ Lacking) × (t ≡ s)

-- how far the offering of results came: the taker goes on, has stopped, or memory was missing
abbrev pub Comes : {S : Type 0} → (S → Prepared → Flow → S → Type 0) → State → S → List Made → S → Type 0
Comes offers Going s got t = Goes (OffersMade offers) s got t
Comes offers Stopped s got t = Stops (OffersMade offers) s got t
Comes offers Lacking s got t = GoesSome (OffersMade offers) s got t

-- how far it came, told of the window's lines in place of what workers made
abbrev pub Came : {S : Type 0} → (S → Said → Flow → S → Type 0) → State → List ℕ → List LaneLine → S → S → Type 0
Came offers Going first window s t = RunsAll offers first window s t
Came offers Stopped first window s t = RunsAll offers first window s t
Came offers Lacking first window s t = RunsSome offers first window s t

-- the lines of one lane were offered in their order: all of them, or up to one at which the taker stopped
abbrev pub RanAlone : {S : Type 0} → (S → Said → Flow → S → Type 0) → ℕ → List LaneLine → S → S → Type 0
RanAlone offers start lines s t = Goes offers s (numbered start lines) t ⊎ Stops offers s (numbered start lines) t

-- memory was missing: some first lines of one lane were offered in their order
abbrev pub LackedAlone : {S : Type 0} → (S → Said → Flow → S → Type 0) → ℕ → List LaneLine → S → S → Type 0
LackedAlone offers start lines s t = GoesSome offers s (numbered start lines) t

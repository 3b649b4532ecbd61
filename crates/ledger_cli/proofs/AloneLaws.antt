-- Lemmas on a line that is the only one of its piece.
use Rattle.std.proofs.Common.{◌≡◌, ℕ, ◌+◌, Bool, List, [], ◌∷◌, length, None, Some, inl, inr, refl, sym, subst, arith}
use Rattle.std.specs.Prelude.{slice_index, All, Result}
use Rattle.std.proofs.lemmas.List.Elements.{All-cons, All-nil}
use Rattle.batch_committer.specs.World.{Keeps}
use Rattle.batch_committer.specs.declared.failure.CommitErr.{CommitErr}
use Rattle.batch_committer.specs.declared.failure.CommitErr.TheVariants as end
use Rattle.lane_work.specs.Making.{IsItemOf}
use Rattle.lane_work.specs.Offering.{Goes, OffersLine}
use Rattle.lane_work.specs.Orders.{numbered}
use Rattle.lane_work.specs.declared.kinds.LaneLine.{LaneLine}
use Rattle.lane_work.specs.declared.taker.Flow.TheVariants.{GoOn, Stop}
use Rattle.lane_work.proofs.Ordering.{said_at, alone_none, alone_more, alone_stops, alone_lacks, alone_all, alone_some}
use Rattle.ledger_book.specs.declared.prepared.Prepared.{Prepared}
use Rattle.ledger_model.specs.History.{History, id}
use Rattle.ledger_model.specs.Scheme.{Scheme}
use Rattle.ledger_cli.specs.Desks.{TakesLines}
use Rattle.ledger_cli.specs.Pieces.{At, IsOpen, Stays, stays, Told, told, Answered, PieceTaken, PieceBroken}
use Rattle.ledger_cli.proofs.PieceLaws.{ran_all, ran_some, piece_taken, piece_broken}

abbrev none : List LaneLine
none = []

-- what stays is nothing that is looked at
abbrev alone : Stays
alone = stays [] None

one : (l : LaneLine) → All (λ (x : LaneLine). x.lane ≡ l.lane) (l ∷ [])
one l = All-cons (λ (x : LaneLine). x.lane ≡ l.lane) l [] refl (All-nil (λ (x : LaneLine). x.lane ≡ l.lane))

-- the line's item was offered: by one step from what all told to what they tell
module _ (scheme : Scheme) (key : List ℕ) (tells : Bool) (first : List ℕ) (l : LaneLine) (index : ℕ) (s t : At) (open_ : IsOpen tells s) (key_is : (h : History) → Keeps s.held.kept h → key ≡ id h) (number : slice_index first l.lane ≡ index) where
  at_first : (item : Prepared) → IsItemOf scheme key (said_at l index) item → IsItemOf scheme key (said_at l (index + length none)) item
  at_first item is = subst (λ (n : ℕ). IsItemOf scheme key (said_at l n) item) (let e : index ≡ index + length none = omega arith in e) is

  nothing : Goes (OffersLine scheme key (Answered tells)) (told alone None s) (numbered index []) (told alone None s)
  nothing = alone_none (OffersLine scheme key (Answered tells)) index (told alone None s)

  pub line_taken : (item : Prepared) → IsItemOf scheme key (said_at l index) item → Answered tells (told alone None s) item GoOn (told alone None t) → PieceTaken scheme tells first (l ∷ []) s t
  line_taken item is goes =
      let more = alone_more scheme key (Answered tells) index [] l item (told alone None s) (told alone None s) (told alone None t) (at_first item is) nothing goes in
      let runs = alone_all (OffersLine scheme key (Answered tells)) l.lane index first (l ∷ []) (told alone None s) (told alone None t) (one l) (sym number) (inl more) in
      piece_taken scheme tells first first (l ∷ []) (l ∷ []) s t refl refl (ran_all (λ (x : Told). x) scheme key tells first (l ∷ []) (told alone None s) (told alone None t) open_ key_is refl runs).1

  pub line_broken : (item : Prepared) (why : CommitErr) → IsItemOf scheme key (said_at l index) item → Answered tells (told alone None s) item Stop (told alone (Some why) t) → PieceBroken scheme tells first (l ∷ []) why s t
  line_broken item why is stops =
      let more = alone_stops scheme key (Answered tells) index [] [] (l ∷ []) l item (told alone None s) (told alone None s) (told alone (Some why) t) refl (at_first item is) nothing stops in
      let runs = alone_all (OffersLine scheme key (Answered tells)) l.lane index first (l ∷ []) (told alone None s) (told alone (Some why) t) (one l) (sym number) (inr more) in
      piece_broken scheme tells first first (l ∷ []) (l ∷ []) s t refl refl why (ran_all (λ (x : Told). x) scheme key tells first (l ∷ []) (told alone None s) (told alone (Some why) t) open_ key_is refl runs).1

-- .. or there was no memory to prepare it
pub line_lacks : (scheme : Scheme) (key : List ℕ) (tells : Bool) (first : List ℕ) (l : LaneLine) (index : ℕ) (s : At) → IsOpen tells s → ((h : History) → Keeps s.held.kept h → key ≡ id h) → slice_index first l.lane ≡ index
    → PieceBroken scheme tells first (l ∷ []) end.NoMemory s s
line_lacks scheme key tells first l index s open_ key_is number =
    let offers = OffersLine scheme key (Answered tells) in
    let lacks = alone_lacks scheme key (Answered tells) index [] (l ∷ []) (l ∷ []) (told alone None s) (told alone None s) refl (alone_none offers index (told alone None s)) in
    let runs = alone_some offers l.lane index first (l ∷ []) (told alone None s) (told alone None s) (one l) (sym number) lacks in
    piece_broken scheme tells first first (l ∷ []) (l ∷ []) s s refl refl end.NoMemory (ran_some (λ (x : Told). x) scheme key tells first (l ∷ []) (told alone None s) (told alone None s) open_ key_is runs).1

-- ---- a piece that is one line

module _ (scheme : Scheme) (tells : Bool) (first : List ℕ) (lines : List LaneLine) (l : LaneLine) (index : ℕ) (s t : At) (lines_are : lines ≡ l ∷ []) (number : slice_index first l.lane ≡ index) where
  pub alone_takes : {T : Type 0} (result : Result T CommitErr) → ((f : List ℕ) → slice_index f l.lane ≡ index → TakesLines scheme tells f (l ∷ []) result s t) → TakesLines scheme tells first lines result s t
  alone_takes result takes = subst (λ (ls : List LaneLine). TakesLines scheme tells first ls result s t) (sym lines_are) (takes first number)

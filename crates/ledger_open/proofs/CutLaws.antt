-- Where the rest of a file begins, of which the first blocks fall away.
use Rattle.std.specs.Prelude.{Some}
use Rattle.std.proofs.Common.{◌≡◌, ℕ, ◌+◌, ◌-◌, ◌<◌, ◌≤◌, List, ◌∷◌, length, drop, get_or, sym, ◌∙◌, ap, subst, arith, length-drop}
use Rattle.std.proofs.lemmas.List.{get_or-drop}
use Rattle.std.proofs.lemmas.List.Elements.{All-get_or}
use Rattle.journal_record.specs.Entry.{Entry}
use Rattle.ledger_book.specs.Books.{Kept}
use Rattle.ledger_model.specs.History.{journals_of}
use Rattle.ledger_open.specs.Cutting.{FallsAway, IsCutOf, gate_behind, first_gate}
use Rattle.ledger_open.specs.Opening.{known_from}
use Rattle.ledger_open.specs.Standing.{Floor}
use Rattle.block_file.specs.Places.{content_from}
use Rattle.block_file.specs.declared.place.PlaceAt.{PlaceAt}
use Rattle.ledger_open.proofs.OrderLaws.{order_low, order_drop}
use Rattle.ledger_open.proofs.PlaceMoves.{first_behind}

module _ (book : Kept) (places : List PlaceAt) (place : ℕ) (floor : Floor) (front behind : List (List Entry)) (falls : FallsAway (known_from book places place) floor front behind) where
  first : (p : PlaceAt) × (ps : List PlaceAt) × (drop (length (journals_of front)) places ≡ p ∷ ps) × (p.content_at ≡ content_from (gate_behind floor front))
  first =
      let r = first_behind (first_gate floor) front behind falls.some in
      (r.0, r.1, ap (drop (length (journals_of front))) falls.places ∙ r.2, r.3)

  -- the first journal that stays has a place
  pub is_there : (count : ℕ) → book.point - book.floor ≡ count → (count < length places) × ((p : PlaceAt) → p ≡ get_or places count p → p.content_at ≡ content_from (gate_behind floor front))
  is_there count is =
      let k = length (journals_of front) in
      let same : count ≡ k = omega (arith, is, falls.first, falls.point) in
      let r = first in
      let some : k < length places = omega (arith, ap length r.2, length-drop k places) in (
        omega (arith, same, some),
        λ p at.
            let one : p ≡ r.0 = at ∙ ap (λ (n : ℕ). get_or places n p) same ∙ head k places r.0 r.1 p r.2 in
            ap (λ (q : PlaceAt). q.content_at) one ∙ r.3,
      )
    where
      head : (k : ℕ) (l : List PlaceAt) (p : PlaceAt) (ps : List PlaceAt) (d : PlaceAt) → drop k l ≡ p ∷ ps → get_or l k d ≡ p
      head k l p ps d is = let zero_more : k ≡ k + 0 = omega arith in ap (λ (n : ℕ). get_or l n d) zero_more ∙ sym (get_or-drop k l 0 d) ∙ ap (λ (m : List PlaceAt). get_or m 0 d) is

-- where it is there, the cut is this
pub cut_is : (book : Kept) (places : List PlaceAt) (point floor gate : ℕ) (p : PlaceAt) → point ≡ book.point → floor ≡ book.floor → floor < point → point ≤ book.sealed → point ≤ book.size → point - floor < length places
    → p ≡ get_or places (point - floor) p → content_from gate ≡ p.content_at → IsCutOf book places (Some (record { point = point; count = point - floor; gate = gate }))
cut_is book places point floor gate p point_is floor_is before most size some at gate_is = (
  record {
    before = omega (arith, before, point_is, floor_is);
    point = point_is;
    most = omega (arith, most, point_is);
    size = omega (arith, size, point_is);
    count = some;
    gate = λ end inside.
        let here : p.content_at + p.content_len ≤ end = subst (λ (q : PlaceAt). q.content_at + q.content_len ≤ end) (sym at) (All-get_or (λ (q : PlaceAt). q.content_at + q.content_len ≤ end) places (point - floor) p some inside) in
        omega (arith, here, gate_is);
    behind = λ from to order. order_low gate p.content_at to (drop (point - floor) places) (omega (arith, gate_is)) (order_drop from to (point - floor) places p some at order);
  },
  λ place f front behind falls.
      let count : book.point - book.floor ≡ point - floor = omega (arith, point_is, floor_is) in
      let r = is_there book places place f front behind falls (point - floor) count in
      record { count = omega (arith, falls.first, falls.point, point_is, floor_is); gate = omega (arith, gate_is, r.1 p at) },
)

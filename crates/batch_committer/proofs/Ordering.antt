-- Contents that stand one behind the other.
use Rattle.std.specs.Prelude.{sum_by}
use Rattle.std.proofs.Common.{ℕ, ◌+◌, ◌≤◌, List, [], ◌∷◌, ◌++◌, arith}
use Rattle.std.proofs.lemmas.List.Elements.{All-nil, All-cons}
use Rattle.std.proofs.lemmas.List.Sums.{sum_by-cons}
use Rattle.journal_record.specs.Entry.{Entry}
use Rattle.ledger_open.specs.Erasing.{AllInside, AreBetween}
use Rattle.block_file.specs.Places.{content_in, body_from, record_len, places_in, places_at, after_at}
use Rattle.ledger_open.specs.Places.{AreInOrder}
use Rattle.block_file.specs.declared.place.PlaceAt.{PlaceAt}
use Rattle.ledger_open.proofs.OrderLaws.{order_low, order_within}

pub order_wider : (from mid to : ℕ) (ps : List PlaceAt) → AreInOrder from mid ps → mid ≤ to → AreInOrder from to ps
order_wider from mid to [] o le = omega (arith, o, le)
order_wider from mid to (p ∷ ps) o le = (o.0, order_wider (p.content_at + p.content_len) mid to ps o.1 le)

pub order_then : (from mid to : ℕ) (ps qs : List PlaceAt) → AreInOrder from mid ps → AreInOrder mid to qs → AreInOrder from to (ps ++ qs)
order_then from mid to [] qs o x = order_low from mid to qs o x
order_then from mid to (p ∷ ps) qs o x = (o.0, order_then (p.content_at + p.content_len) mid to ps qs o.1 x)

pub inside_order : (from to : ℕ) (ps : List PlaceAt) → AreInOrder from to ps → AllInside to ps
inside_order from to [] o = All-nil (λ (p : PlaceAt). p.content_at + p.content_len ≤ to)
inside_order from to (p ∷ ps) o =
    All-cons (λ (q : PlaceAt). q.content_at + q.content_len ≤ to) p ps (order_within (p.content_at + p.content_len) to ps o.1) (inside_order (p.content_at + p.content_len) to ps o.1)

pub between_order : (low from to : ℕ) (ps : List PlaceAt) → low ≤ from → AreInOrder from to ps → AreBetween low to ps
between_order low from to [] le o = All-nil (λ (p : PlaceAt). (low ≤ p.content_at) × (p.content_at + p.content_len ≤ to))
between_order low from to (p ∷ ps) le o =
    All-cons (λ (q : PlaceAt). (low ≤ q.content_at) × (q.content_at + q.content_len ≤ to)) p ps
    (omega (arith, le, o.0), order_within (p.content_at + p.content_len) to ps o.1) (between_order low (p.content_at + p.content_len) to ps (omega (arith, le, o.0)) o.1)

-- ---- the places of blocks

in_order : (at : ℕ) (es : List Entry) → AreInOrder at (at + sum_by record_len es) (places_in at es)
in_order at [] = omega arith
in_order at (e ∷ es) = (
  omega arith,
  order_low (content_in at + e.header.content_len) (at + record_len e) (at + sum_by record_len (e ∷ es)) (places_in (at + record_len e) es) (omega arith)
      (order_wider (at + record_len e) (at + record_len e + sum_by record_len es) (at + sum_by record_len (e ∷ es)) (places_in (at + record_len e) es) (in_order (at + record_len e) es) (omega (arith, sum_by-cons record_len e es))),
)

pub order_blocks : (at : ℕ) (bs : List (List Entry)) → AreInOrder at (after_at at bs) (places_at at bs)
order_blocks at [] = omega arith
order_blocks at (b ∷ bs) =
    let next = body_from at + sum_by record_len b in
    order_then at next (after_at next bs) (places_in (body_from at) b) (places_at next bs)
    (order_low at (body_from at) next (places_in (body_from at) b) (omega arith) (in_order (body_from at) b)) (order_blocks next bs)

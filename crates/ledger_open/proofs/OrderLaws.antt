-- Contents that stand one behind the other.
use Rattle.std.specs.Prelude.{min}
use Rattle.std.proofs.Common.{◌≡◌, ℕ, zero, suc, ◌+◌, ◌-◌, ◌^◌, ◌<◌, ◌≤◌, List, [], ◌∷◌, length, map, drop, get_or, ap, arith}
use Rattle.ledger_open.specs.Places.{AreInOrder}
use Rattle.block_file.specs.Places.{moved_place}
use Rattle.block_file.specs.declared.place.PlaceAt.{PlaceAt}

pub order_low : (low from to : ℕ) (ps : List PlaceAt) → low ≤ from → AreInOrder from to ps → AreInOrder low to ps
order_low low from to [] le o = omega (arith, o, le)
order_low low from to (p ∷ ps) le o = (omega (arith, o.0, le), o.1)

-- those from one of them on stand behind its beginning
pub order_drop : (from to k : ℕ) (ps : List PlaceAt) (p : PlaceAt) → k < length ps → p ≡ get_or ps k p → AreInOrder from to ps → AreInOrder p.content_at to (drop k ps)
order_drop from to k [] p some at o = absurd (omega (arith, some))
order_drop from to zero (q ∷ ps) p some at o = (omega (arith, ap (λ (x : PlaceAt). x.content_at) at), o.1)
order_drop from to (suc k) (q ∷ ps) p some at o = order_drop (q.content_at + q.content_len) to k ps p (omega (arith, some)) at o.1

pub order_within : (from to : ℕ) (ps : List PlaceAt) → AreInOrder from to ps → from ≤ to
order_within from to [] o = o
order_within from to (p ∷ ps) o = omega (arith, o.0, order_within (p.content_at + p.content_len) to ps o.1)

-- where what stood at one offset stands at another
pub order_moved : (old new from to : ℕ) (ps : List PlaceAt) → old ≤ from → to - old + new < 2 ^ 64 → AreInOrder from to ps → AreInOrder (from - old + new) (to - old + new) (map (moved_place old new) ps)
order_moved old new from to [] low fits o = omega (arith, o, low)
order_moved old new from to (p ∷ ps) low fits o =
    let end = p.content_at + p.content_len in
    let most : end ≤ to = order_within end to ps o.1 in
    let at : min (p.content_at - old + new) (2 ^ 64 - 1) ≡ p.content_at - old + new = omega (arith, most, fits, low, o.0) in (
      omega (arith, at, o.0, low),
      order_low (min (p.content_at - old + new) (2 ^ 64 - 1) + p.content_len) (end - old + new) (to - old + new) (map (moved_place old new) ps) (omega (arith, at, low, o.0)) (order_moved old new end to ps (omega (arith, low, o.0)) fits o.1),
    )

use Rattle.std.proofs.Common.{◌≡◌, ◌+◌, ◌++◌, length, vec_items}
use Rattle.std.specs.Vec.Iter.{into_iter_items}
use Rattle.lane_work.specs.Offering.{Goes, OffersLine}
use Rattle.lane_work.specs.Orders.{numbered}
use Rattle.lane_work.proofs.alone.run_alone.Given as goal

abbrev pub invariant-loop-said : goal.invariant-loop-said
invariant-loop-said g l =
    (goal.iterator-loop-said g).can_next l.said-iterator
    × (goal.iterator-loop-said g).is_finite l.said-iterator
    × (l.yielded ++ into_iter_items l.said-iterator ≡ vec_items l.fn.lines)
    × (l.index ≡ l.fn.start + length l.yielded)
    × g.T.Taker.ready l.taker
    × Goes (OffersLine (g.V.Verifier.shows l.tools.verifier.now) l.id.0 g.T.Taker.offers) l.fn.taker (numbered l.fn.start l.yielded) l.taker

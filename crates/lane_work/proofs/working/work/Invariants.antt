use Rattle.std.proofs.Common.{◌≡◌, ◌+◌, ◌++◌, length, vec_items}
use Rattle.std.specs.Vec.Iter.{into_iter_items}
use Rattle.intake_queue.specs.Passes.{lane_view, sent_by, IsLaneOf}
use Rattle.intake_queue.specs.Lanes.{sender}
use Rattle.lane_work.specs.Making.{AllMade}
use Rattle.lane_work.proofs.working.work.Given as goal

abbrev pub invariant-loop-said : goal.invariant-loop-said
invariant-loop-said g l =
    (goal.iterator-loop-said g).can_next l.said-iterator
    × (goal.iterator-loop-said g).is_finite l.said-iterator
    × IsLaneOf l.intake l.pass
    × (lane_view l.pass ≡ sender (lane_view l.fn.pass).plan (lane_view l.fn.pass).lane (sent_by l.pass))
    × (l.yielded ++ into_iter_items l.said-iterator ≡ vec_items l.fn.lines)
    × (l.index ≡ l.fn.start + length l.yielded)
    × (length (sent_by l.pass) ≡ length l.yielded)
    × AllMade (g.V.Verifier.shows l.tools.verifier.now) l.id.0 l.fn.start l.yielded (sent_by l.pass)

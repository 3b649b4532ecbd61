use Rattle.std.proofs.Common.{◌≡◌, ◌≤◌, ◌+◌, vec_items, vec_len}
use Rattle.std.specs.Prelude.{vec_capacity}
use Rattle.std.specs.Vec.Iter.{into_iter_items, into_iter_len}
use Rattle.lane_work.proofs.Lines.{AreSome}
use Rattle.lane_work.proofs.lanes.lane_jobs.Given as goal

abbrev pub invariant-loop-pass : goal.invariant-loop-pass
invariant-loop-pass l =
    goal.iterator-loop-pass.can_next l.pass-iterator
    × goal.iterator-loop-pass.is_finite l.pass-iterator
    × (vec_len l.jobs + into_iter_len l.pass-iterator ≡ 8)
    × (into_iter_len l.rest ≡ into_iter_len l.pass-iterator)
    × (8 ≤ vec_capacity l.jobs)
    × AreSome l.yielded (vec_items l.fn.passes) (vec_items l.fn.lanes) l.first (into_iter_items l.pass-iterator) (into_iter_items l.rest) (vec_items l.jobs)

use Rattle.std.proofs.Common.{◌≡◌, ◌≤◌, ◌+◌, ◌++◌, vec_items, vec_len}
use Rattle.std.specs.Prelude.{vec_capacity}
use Rattle.std.specs.Vec.Iter.{into_iter_items, into_iter_len}
use Rattle.lane_work.specs.Working.{Promised, Pairs}
use Rattle.lane_work.proofs.starting.start_all.Given as goal

abbrev pub invariant-loop-job : goal.invariant-loop-job
invariant-loop-job g l =
    (goal.iterator-loop-job g).can_next l.job-iterator
    × (goal.iterator-loop-job g).is_finite l.job-iterator
    × (vec_len l.hands + into_iter_len l.job-iterator ≡ vec_len l.fn.jobs)
    × (vec_len l.fn.jobs ≤ vec_capacity l.hands)
    × (l.yielded ++ into_iter_items l.job-iterator ≡ vec_items l.fn.jobs)
    × Pairs (Promised g.V.Verifier.shows (g.V.Verifier.shows l.tools.verifier.now) l.id.0) l.yielded (vec_items l.hands)

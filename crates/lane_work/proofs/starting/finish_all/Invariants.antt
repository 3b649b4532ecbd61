use Rattle.std.proofs.Common.{◌≡◌, ◌≤◌, ◌+◌, ◌++◌, ℕ, List, vec_items, vec_len}
use Rattle.std.specs.Prelude.{vec_capacity}
use Rattle.std.specs.Vec.Iter.{into_iter_items, into_iter_len}
use Rattle.ledger_model.specs.Scheme.{Scheme}
use Rattle.lane_work.specs.declared.hands.LaneJob.{LaneJob}
use Rattle.lane_work.specs.Working.{Promised, WorksOf, Pairs}
use Rattle.lane_work.proofs.starting.finish_all.Given as goal

abbrev pub invariant-loop-hand : goal.invariant-loop-hand
invariant-loop-hand g l =
    (goal.iterator-loop-hand g).can_next l.hand-iterator
    × (goal.iterator-loop-hand g).is_finite l.hand-iterator
    × (vec_len l.done + into_iter_len l.hand-iterator ≤ vec_capacity l.done)
    × ((scheme : Scheme) (id : List ℕ) (jobs : List LaneJob) → Pairs (Promised g.V.Verifier.shows scheme id) jobs (vec_items l.fn.hands)
    → (front : List LaneJob) × (back : List LaneJob) × (front ++ back ≡ jobs) × Pairs (WorksOf scheme id) front (vec_items l.done) × Pairs (Promised g.V.Verifier.shows scheme id) back (into_iter_items l.hand-iterator))

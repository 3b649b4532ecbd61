use Rattle.std.proofs.Common.{◌≡◌, true, map, ◌++◌, vec_items}
use Rattle.std.specs.Vec.Iter.{into_iter_items}
use Rattle.crossbeam_queue.specs.Passes.{view, IsPassOf}
use Rattle.intake_queue.specs.Passes.{taker_view, sent_by}
use Rattle.intake_queue.proofs.intake.Intake.close.Given as goal

abbrev pub invariant-loop-pass : goal.invariant-loop-pass
invariant-loop-pass g l =
    (goal.iterator-loop-pass g).can_next l.pass-iterator ×
    (goal.iterator-loop-pass g).is_finite l.pass-iterator ×
    IsPassOf l.self.queue l.seat ×
    (l.yielded ++ into_iter_items l.pass-iterator ≡ vec_items l.fn.lanes) ×
    ((view l.seat).gets ≡ true) ×
    ((view l.seat).plan ≡ (taker_view l.fn.taker).plan) ×
    ((view l.seat).got ≡ (taker_view l.fn.taker).got) ×
    ((view l.seat).back ≡ map sent_by l.yielded)

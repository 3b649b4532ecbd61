use Rattle.std.proofs.Common.{◌≡◌, [], vec_items, vec_len}
use Rattle.crossbeam_queue.specs.Passes.{view, IsPassOf}
use Rattle.intake_queue.specs.Lanes.{plan_of, taker}
use Rattle.intake_queue.specs.Passes.{AreNewOf}
use Rattle.intake_queue.proofs.intake.Intake.new.Given as goal

abbrev pub ghosts-open : goal.ghosts-open
ghosts-open g a = record { plan = plan_of a.first.now a.quotas.now }

abbrev pub invariant-loop-k : goal.invariant-loop-k
invariant-loop-k g l =
    IsPassOf l.queue l.seat
    × (view l.seat ≡ taker (plan_of l.first l.quotas) [] l._k [])
    × (vec_len l.lanes ≡ l._k)
    × AreNewOf l.queue (plan_of l.first l.quotas) (vec_items l.lanes)

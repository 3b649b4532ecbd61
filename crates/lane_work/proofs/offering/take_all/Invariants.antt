use Rattle.std.proofs.Common.{◌≡◌, ◌≤◌, length}
use Rattle.intake_queue.specs.Passes.{taker_view, IsTakerOf}
use Rattle.intake_queue.specs.Lanes.{taker}
use Rattle.lane_work.proofs.Chains.{So}
use Rattle.lane_work.proofs.offering.take_all.Given as goal

abbrev pub invariant-loop : goal.invariant-loop
invariant-loop g l =
    let v = taker_view l.pass in let v0 = taker_view l.fn.pass in
    IsTakerOf l.intake l.pass
    × (v ≡ taker v0.plan v.got v0.lent v0.back)
    × (length v.got ≡ l.done)
    × (l.done ≤ l.count)
    × So g.T.Taker.ready g.T.Taker.offers l.state l.initial.taker v.got l.taker

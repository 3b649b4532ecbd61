use Rattle.std.proofs.Common.{sym, subst}
use Rattle.lane_work.specs.declared.offering.State.{State}
use Rattle.lane_work.specs.declared.offering.State.TheVariants.{Going, Stopped}
use Rattle.lane_work.specs.Offering.{Hands}
use Rattle.lane_work.proofs.offering.hand.Goals as goal

pub returns-in-GoOn : goal.returns-in-GoOn
returns-in-GoOn g c =
    subst (λ (state : State). Hands g.T.Taker.ready g.T.Taker.offers state c.args.taker.now c.args.made Going c.offer.new.self) (sym c.in-Going.is)
    ((c.in-Ok.item, c.in-Ok.is, c.in-GoOn.ensures.does), c.in-GoOn.ensures.ready)

pub returns-in-Ok : goal.returns-in-Ok
returns-in-Ok g c =
    subst (λ (state : State). Hands g.T.Taker.ready g.T.Taker.offers state c.args.taker.now c.args.made Stopped c.offer.new.self) (sym c.in-Going.is)
    (c.in-Ok.item, c.in-Ok.is, c.in-Stop.ensures.does)

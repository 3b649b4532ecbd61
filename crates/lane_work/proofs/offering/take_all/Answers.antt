use Rattle.std.proofs.Common.{rules, ◌≡◌, ◌+◌, List, [], ◌∷◌, ◌++◌, length, length-append, arith, sym, ap, ◌∙◌, subst}
use denote.Param.Send.{sendable}
use Rattle.std.proofs.Crossing.{crosses}
use Rattle.intake_queue.specs.declared.view.View.{View}
use Rattle.intake_queue.specs.Passes.{taker_view}
use Rattle.intake_queue.specs.Lanes.{taker}
use Rattle.lane_work.specs.declared.kinds.Made.{Made}
use Rattle.lane_work.specs.Offering.{OffersMade}
use Rattle.lane_work.specs.declared.offering.State.TheVariants.{Going}
use Rattle.lane_work.proofs.Chains.{So, goes_none, so_more, so_comes, so_ready}
use Rattle.lane_work.proofs.Sent.{bytes_send, job_send, prepared_send}
use Rattle.lane_work.proofs.offering.take_all.Goals as goal

pub loop-init : goal.loop-init
loop-init g c =
    let v = taker_view c.args.pass in
    let is = c.requires.pass.1 in
    let none : v.got ≡ [] = ap (λ (w : View Made). w.got) is in
    let s = c.args.taker.now in (
      c.requires.pass.0,
      is ∙ ap (λ (l : List Made). taker v.plan l v.lent v.back) (sym none),
      ap length none,
      omega arith,
      subst (λ (l : List Made). So g.T.Taker.ready g.T.Taker.offers Going s l s) (sym none) (goes_none (OffersMade g.T.Taker.offers) s, c.requires.ready),
    )

pub loop-preserved-in-Some-item : goal.loop-preserved-in-Some-item
loop-preserved-in-Some-item g c =
    let inv = c.loop.invariant in
    let took = rw c.in-Some-item.is at c.take-next.ensures.took in
    let v = taker_view c.loop.pass in
    let w = taker_view c.take-next.result.0 in
    let x = c.in-Some-item.made in
    let got : w.got ≡ v.got ++ x ∷ [] = ap (λ (u : View Made). u.got) took.0 in
    let plan_is = ap (λ (u : View Made). u.plan) inv.1 in
    let lent_is = ap (λ (u : View Made). u.lent) inv.1 in
    let back_is = ap (λ (u : View Made). u.back) inv.1 in
    let count = inv.2 in
    let long : length w.got ≡ c.loop.done + 1 = (let e = ap length got in let f = length-append v.got (x ∷ []) in omega (arith, e, f, count)) in
    let under = c.if-done-count.false in (
      c.take-next.ensures.pass,
      took.0 ∙ (λ i. taker (plan_is i) (sym got i) (lent_is i) (back_is i)),
      long,
      search rules,
      subst (λ (l : List Made). So g.T.Taker.ready g.T.Taker.offers c.hand-state.result c.args.taker.now l c.hand-state.new.taker) (sym got)
          (so_more g.T.Taker.ready g.T.Taker.offers c.loop.state c.args.taker.now v.got c.loop.taker x c.hand-state.result c.hand-state.new.taker inv.4 c.hand-state.ensures),
    )

pub hand-state-requires : goal.hand-state-requires
hand-state-requires g c is = so_ready g.T.Taker.ready g.T.Taker.offers c.loop.state c.args.taker.now (taker_view c.loop.pass).got c.loop.taker c.loop.invariant.4 is

pub returns-clause-comes : goal.returns-clause-comes
returns-clause-comes g c = so_comes g.T.Taker.ready g.T.Taker.offers c.loop.state c.args.taker.now (taker_view c.loop.pass).got c.loop.taker c.loop.invariant.4

pub take-next-requires-send-T : goal.take-next-requires-send-T
take-next-requires-send-T g c κs within = search (bytes_send, job_send, prepared_send, sendable, crosses) depth 60

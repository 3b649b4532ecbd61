use Rattle.std.proofs.Common.{rules, ◌≡◌, ℕ, ◌+◌, List, [], ◌∷◌, ◌++◌, length, length-append, append_assoc, arith, sym, ap, ◌∙◌, subst}
use denote.Param.Send.{sendable}
use Rattle.std.proofs.Crossing.{crosses}
use Rattle.std.specs.Vec.Iter.{into_iter_items}
use Rattle.intake_queue.specs.declared.view.View.{View}
use Rattle.intake_queue.specs.Passes.{lane_view}
use Rattle.intake_queue.specs.Lanes.{sender}
use Rattle.lane_work.specs.declared.kinds.Made.{Made}
use Rattle.lane_work.specs.declared.kinds.LaneLine.{LaneLine}
use Rattle.lane_work.specs.Making.{IsMadeOf, AllMade}
use Rattle.lane_work.proofs.Makings.{made_none, made_push}
use Rattle.lane_work.proofs.Sent.{bytes_send, job_send, prepared_send}
use Rattle.lane_work.proofs.working.work.Goals as goal

pub loop-said-init : goal.loop-said-init
loop-said-init g c =
    let v = lane_view c.args.pass in
    let is = c.requires.pass.1 in
    let none : v.sent ≡ [] = ap (λ (w : View Made). w.sent) is in (
      tt,
      tt,
      c.requires.pass.0,
      is ∙ ap (λ (l : List Made). sender v.plan v.lane l) (sym none),
      search rules,
      omega arith,
      ap length none,
      subst (λ (l : List Made). AllMade (g.V.Verifier.shows c.args.tools.now.verifier.now) c.args.id.now.0 c.args.start [] l) (sym none) (made_none (g.V.Verifier.shows c.args.tools.now.verifier.now) c.args.id.now.0 c.args.start),
    )

pub loop-said-preserved : goal.loop-said-preserved
loop-said-preserved g c =
    let inv = c.loop-said.invariant in
    let v = lane_view c.loop-said.pass in
    let w = lane_view c.submit-pass.result in
    let x = c.make-item.result in
    let said = c.in-Some.said in
    let scheme = g.V.Verifier.shows c.args.tools.now.verifier.now in let id = c.args.id.now.0 in
    let is = c.submit-pass.ensures.sent in
    let sent : w.sent ≡ v.sent ++ x ∷ [] = ap (λ (u : View Made). u.sent) is in
    let plan_is = ap (λ (u : View Made). u.plan) inv.3 in
    let lane_is = ap (λ (u : View Made). u.lane) inv.3 in
    let rest : List LaneLine = into_iter_items c.next.new.self in
    let next : IsMadeOf scheme id said (c.args.start + length c.loop-said.yielded) x = subst (λ (k : ℕ). IsMadeOf scheme id said k x) inv.5 c.make-item.ensures in (
      tt,
      tt,
      c.submit-pass.ensures.pass,
      is ∙ (λ i. sender (plan_is i) (lane_is i) (sym sent i)),
      append_assoc c.loop-said.yielded (said ∷ []) rest ∙ ap (λ (l : List LaneLine). c.loop-said.yielded ++ l) (sym c.in-Some.ensures.steps.0) ∙ inv.4,
      (let e = inv.5 in let f = length-append c.loop-said.yielded (said ∷ []) in omega (arith, e, f)),
      (let e = ap length sent in let f = length-append v.sent (x ∷ []) in let h = length-append c.loop-said.yielded (said ∷ []) in let k = inv.6 in omega (arith, e, f, h, k)),
      subst (λ (l : List Made). AllMade scheme id c.args.start (c.loop-said.yielded ++ said ∷ []) l) (sym sent) (made_push scheme id c.args.start c.loop-said.yielded v.sent said x inv.7 next),
    )

-- what is submitted may cross threads
pub submit-pass-requires-send-T : goal.submit-pass-requires-send-T
submit-pass-requires-send-T g c κs within = search (bytes_send, job_send, prepared_send, sendable, crosses) depth 60

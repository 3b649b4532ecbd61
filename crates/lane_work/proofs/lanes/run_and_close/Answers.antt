use Rattle.std.proofs.Common.{◌≡◌, ℕ, ◌++◌, length, map, sym, ap, ◌∙◌, subst, vec_items}
use denote.Param.Send.{sendable}
use Rattle.std.proofs.Crossing.{crosses}
use Rattle.intake_queue.specs.declared.view.View.{View}
use Rattle.intake_queue.specs.Lanes.{Plan, Below, Settled}
use Rattle.intake_queue.specs.Passes.{taker_view, sent_by, AreLanes}
use Rattle.lane_work.specs.declared.kinds.Made.{Made}
use Rattle.lane_work.proofs.Merging.{are_lanes, merged}
use Rattle.lane_work.proofs.Ordering.{came, below_front}
use Rattle.lane_work.proofs.Sent.{bytes_send, job_send, prepared_send}
use Rattle.lane_work.proofs.lanes.run_and_close.Goals as goal

pub close-requires-clause-lanes : goal.close-requires-clause-lanes
close-requires-clause-lanes g c κs =
    let lanes = vec_items c.run_workers-pass.result.2 in
    let same : (taker_view c.run_workers-pass.result.0).plan ≡ (taker_view c.args.pass).plan = ap (λ (v : View Made). v.plan) c.run_workers-pass.ensures.pass.view in
    let all = are_lanes c.args.intake (g.V.Verifier.shows c.args.tools.now.verifier.now) c.args.id.now.0 (taker_view c.args.pass).plan (vec_items c.args.jobs) lanes c.requires.jobs.0 c.requires.jobs.1 c.run_workers-pass.ensures.lanes in
    subst (λ (p : Plan). (length lanes ≡ length p) × AreLanes c.args.intake p lanes) (sym same) all

pub returns : goal.returns
returns g c first window win count =
    let scheme = g.V.Verifier.shows c.args.tools.now.verifier.now in let id = c.args.id.now.0 in
    let plan = (taker_view c.args.pass).plan in
    let got = (taker_view c.run_workers-pass.result.0).got in
    let lanes = vec_items c.run_workers-pass.result.2 in
    let same : (taker_view c.run_workers-pass.result.0).plan ≡ plan = ap (λ (v : View Made). v.plan) c.run_workers-pass.ensures.pass.view in
    let left = c.close.ensures.0 in
    let settled : Settled (λ (p : Made). p.lane) (λ (p : Made). p.index) plan (map sent_by lanes) got left =
    subst (λ (p : Plan). Settled (λ (p : Made). p.lane) (λ (p : Made). p.index) p (map sent_by lanes) got left) same c.close.ensures.1 in
    came scheme id g.T.Taker.offers first window got win.0
    (below_front (λ (p : Made). p.lane) 8 got left (subst (λ (n : ℕ). Below (λ (p : Made). p.lane) n (got ++ left)) c.requires.jobs.1.0 settled.0))
    (merged scheme id first window plan (vec_items c.args.jobs) lanes got left c.requires.jobs.1 win c.run_workers-pass.ensures.lanes settled (c.run_workers-pass.ensures.pass.count_is ∙ count))
    c.run_workers-pass.result.1 c.args.taker.now c.run_workers-pass.new.taker c.run_workers-pass.ensures.comes

pub close-requires-send-T : goal.close-requires-send-T
close-requires-send-T g c κs = search (bytes_send, job_send, prepared_send, sendable, crosses) depth 60

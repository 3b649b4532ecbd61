use Rattle.std.proofs.Common.{◌≡◌, ◌<◌, ◌≤◌, List, length, get_or, sym, ap, ◌∙◌, subst, arith, vec_items, vec_len, Global}
use Rattle.std.specs.Prelude.{Vec, sum, All}
use Rattle.intake_queue.specs.declared.view.View.{View}
use Rattle.intake_queue.specs.Lanes.{Plan, plan_of}
use Rattle.intake_queue.specs.Passes.{taker_view, AreNew}
use Rattle.lane_work.specs.declared.kinds.LaneLine.{LaneLine}
use Rattle.lane_work.specs.declared.kinds.Made.{Made}
use Rattle.lane_work.specs.declared.hands.LaneJob.{LaneJob}
use Rattle.lane_work.specs.Working.{IsReady}
use Rattle.lane_work.specs.Windows.{AreNewJobs}
use Rattle.lane_work.proofs.Lines.{lines_short}
use Rattle.lane_work.proofs.Setting.{Counted, long_vec, long_quotas, ready_jobs, all_quotas}
use Rattle.lane_work.proofs.lanes.divide_window.Goals as goal

pub counts-requires : goal.counts-requires
counts-requires c k d less =
    let l8 = c.in_ok-lanes.ensures.len in
    let sl = c.as_slice.ensures.len in
    let low : k < 8 = omega (arith, less, l8, sl) in
    let v : Vec LaneLine Global = get_or (vec_items c.in_ok-lanes.lanes) k d in
    let at : get_or c.as_slice.result.now k d ≡ v = ap (λ (l : List (Vec LaneLine Global)). get_or l k d) c.as_slice.ensures.value in
    let long = long_vec v in
    let items = ap length (c.in_ok-lanes.ensures.each k d low) in
    let short = lines_short k (vec_items c.args.window) in
    let whole = long_vec c.args.window in
    let most = c.requires.window.1 in
    subst (λ (w : Vec LaneLine Global). vec_len w ≤ 4096) (sym at) (omega (arith, long, items, short, whole, most))

pub new-requires-clause-room : goal.new-requires-clause-room
new-requires-clause-room c κs =
    let l8 = c.in_ok-lanes.ensures.len in
    let sl = c.as_slice.ensures.len in
    let ql = c.in_ok-quotas.ensures.len in
    let qv = long_quotas c.in_ok-quotas.quotas in
    let fl = c.told-first in
    let lanes = vec_items c.in_ok-lanes.lanes in
    let qs = vec_items c.in_ok-quotas.quotas in
    let counted : Counted lanes qs = λ k d less.
    c.in_ok-quotas.ensures.each k d (omega (arith, less, l8, sl)) ∙ ap (λ (l : List (Vec LaneLine Global)). vec_len (get_or l k d)) c.as_slice.ensures.value in
    let all = all_quotas c.args.first.now qs lanes (vec_items c.args.window) c.args.window fl (omega (arith, l8, sl, ql, qv)) c.in_ok-lanes.ensures.each counted c.requires.low in
    let same = ap sum c.as_slice-3.ensures.value in
    let whole = long_vec c.args.window in
    let win = c.requires.window in (omega (arith, all, same, whole, win), omega (arith, all, same, whole, win))

pub returns-clause-jobs : goal.returns-clause-jobs
returns-clause-jobs c =
    let l8 = c.in_ok-lanes.ensures.len in
    let sl = c.as_slice.ensures.len in
    let ql = c.in_ok-quotas.ensures.len in
    let qv = long_quotas c.in_ok-quotas.quotas in
    let fl = c.told-first in
    let lanes = vec_items c.in_ok-lanes.lanes in
    let qs = vec_items c.in_ok-quotas.quotas in
    let q8 : length qs ≡ 8 = omega (arith, l8, sl, ql, qv) in
    let counted : Counted lanes qs = λ k d less.
    c.in_ok-quotas.ensures.each k d (omega (arith, less, l8, sl)) ∙ ap (λ (l : List (Vec LaneLine Global)). vec_len (get_or l k d)) c.as_slice.ensures.value in
    let q = c.in_ok-intake.intake in
    let passes = vec_items c.in_ok-intake.passes in
    let plan_is : plan_of c.as_slice-2.result.now c.as_slice-3.result.now ≡ plan_of c.args.first.now qs = (λ i. plan_of (c.as_slice-2.ensures i) (c.as_slice-3.ensures.value i)) in
    let new = c.in_ok-intake.ensures.lanes in
    let sv = c.as_slice-3.ensures.len in
    let p8 : length passes ≡ 8 = (let a = new.0 in omega (arith, a, sv, ql, l8, sl)) in
    let fresh : AreNew q (plan_of c.args.first.now qs) passes = subst (λ (p : Plan). AreNew q p passes) plan_is new.1 in
    let ready = ready_jobs q c.args.first.now qs passes lanes (vec_items c.in_ok-jobs.jobs) (vec_items c.args.window) fl q8 p8 fresh c.in_ok-jobs.ensures c.in_ok-lanes.ensures.each counted c.requires.numbers in
    let taker_plan : (taker_view c.in_ok-intake.pass).plan ≡ plan_of c.args.first.now qs = ap (λ (v : View Made). v.plan) c.in_ok-intake.ensures.taker.1 ∙ plan_is in
    subst (λ (p : Plan). All (IsReady q) (vec_items c.in_ok-jobs.jobs) × AreNewJobs p (vec_items c.in_ok-jobs.jobs)) (sym taker_plan) ready

pub returns-clause-window : goal.returns-clause-window
returns-clause-window c =
    let are = c.in_ok-jobs.ensures in (
      c.requires.low,
      λ k d less.
          let j : LaneJob = get_or (vec_items c.in_ok-jobs.jobs) k d in
          let at = are.1 k d j.pass j.lines less in (
            ap (λ (w : Vec LaneLine Global). w.items) at.1 ∙ c.in_ok-lanes.ensures.each k j.lines less,
            at.2,
          ),
    )

-- The jobs of a window are ready.
use Rattle.std.proofs.Common.{◌≡◌, ℕ, ◌+◌, ◌<◌, ◌^◌, List, length, get_or, sym, ap, ◌∙◌, subst, arith, vec_len, Global}
use Rattle.std.specs.Prelude.{slice_index, All, Vec, sum, eqb, []}
use Rattle.std.proofs.lemmas.List.Elements.{filter_passes}
use Rattle.std.proofs.lemmas.Bool.{eqb-true}
use Rattle.intake_queue.specs.declared.view.View.{View}
use Rattle.intake_queue.specs.declared.intake.Intake.{Intake}
use Rattle.intake_queue.specs.declared.intake.LanePass.{LanePass}
use Rattle.intake_queue.specs.Lanes.{Plan, plan_of, first_in, quota_in, sender, Below}
use Rattle.intake_queue.specs.Passes.{lane_view, AreNew, IsLaneOf}
use Rattle.intake_queue.proofs.Lists.{plan_length, plan_quota, plan_first, room_sum, exact_room}
use Rattle.lane_work.specs.declared.kinds.LaneLine.{LaneLine}
use Rattle.lane_work.specs.declared.kinds.Made.{Made}
use Rattle.lane_work.specs.declared.hands.LaneJob.{LaneJob}
use Rattle.lane_work.specs.Making.{lines_of}
use Rattle.lane_work.specs.Working.{IsReady}
use Rattle.lane_work.specs.Windows.{AreJobs, AreNewJobs}
use Rattle.lane_work.proofs.Lines.{Divided, lines_are}
use Rattle.lane_work.proofs.Merging.{below_all}

abbrev pub Counted : List (Vec LaneLine Global) → List ℕ → Type 0
Counted lanes qs = (k : ℕ) (d : Vec LaneLine Global) → k < 8 → slice_index qs k ≡ vec_len (get_or lanes k d)

pub long_vec : (v : Vec LaneLine Global) → vec_len v ≡ length v.items
long_vec v = v.ok.0

pub long_quotas : (v : Vec ℕ Global) → vec_len v ≡ length v.items
long_quotas v = v.ok.0

same_lane : (k : ℕ) (xs : List LaneLine) → All (λ s. s.lane ≡ k) (lines_of k xs)
same_lane k xs i d less = eqb-true (get_or (lines_of k xs) i d).lane k (filter_passes (λ (s : LaneLine). eqb s.lane k) xs i d less)

pub ready_jobs : (q : Intake Made) (first qs : List ℕ) (passes : List (LanePass Made)) (lanes : List (Vec LaneLine Global)) (jobs : List LaneJob) (window : List LaneLine)
    → length first ≡ 8 → length qs ≡ 8 → length passes ≡ 8 → AreNew q (plan_of first qs) passes → AreJobs passes lanes first jobs → Divided lanes window → Counted lanes qs
    → ((k : ℕ) → k < 8 → slice_index first k + length (lines_of k window) < 2 ^ 64) → All (IsReady q) jobs × AreNewJobs (plan_of first qs) jobs
ready_jobs q first qs passes lanes jobs window fl ql pl new are div count fits =
    let plan : Plan = plan_of first qs in
    let same : length first ≡ length qs = fl ∙ sym ql in
    let long : length plan ≡ 8 = plan_length first qs same ∙ ql in
    let views : (k : ℕ) (d : LaneJob) → k < 8 → IsLaneOf q (get_or jobs k d).pass × (lane_view (get_or jobs k d).pass ≡ sender plan k []) = λ k d less.
    let j : LaneJob = get_or jobs k d in
    let pass : j.pass ≡ get_or passes k j.pass = (are.1 k d j.pass j.lines less).0 in
    let at = new k j.pass (omega (arith, pl, less)) in
    subst (λ (p : LanePass Made). IsLaneOf q p × (lane_view p ≡ sender plan k [])) (sym pass) at in (
      (λ k d less.
          let al = are.0 in
          let low : k < 8 = omega (arith, al, less) in
          let j : LaneJob = get_or jobs k d in
          let v = views k d low in
          let lane_is : (lane_view j.pass).lane ≡ k = ap (λ (w : View Made). w.lane) v.1 in
          let plan_is : (lane_view j.pass).plan ≡ plan = ap (λ (w : View Made). w.plan) v.1 in
          let lines : j.lines ≡ get_or lanes k j.lines = (are.1 k d j.pass j.lines low).1 in
          let items : j.lines.items ≡ lines_of k window = ap (λ (w : Vec LaneLine Global). w.items) lines ∙ div k j.lines low in
          let wide : vec_len j.lines ≡ length (lines_of k window) = long_vec j.lines ∙ ap length items in
          let quota : slice_index qs k ≡ vec_len j.lines = count k j.lines low ∙ sym (ap (λ (w : Vec LaneLine Global). vec_len w) lines) in
          let start : j.start ≡ slice_index first k = (are.1 k d j.pass j.lines low).2 in
          let room_for = fits k low in (
            v.0,
            v.1 ∙ (λ i. sender (sym plan_is i) (sym lane_is i) []),
            (λ i. quota_in (plan_is i) (lane_is i)) ∙ plan_quota first qs k same ∙ quota,
            (λ i. first_in (plan_is i) (lane_is i)) ∙ plan_first first qs k same ∙ sym start,
            omega (arith, room_for, wide, start),
            subst (λ (y : ℕ × List LaneLine). All (λ s. s.lane ≡ y.0) y.1) (λ i. (sym lane_is i, sym items i)) (same_lane k window),
          )),
      (long, are.0, λ k d less. (views k d less).1),
    )

-- the quotas are the window's lines, each once
pub all_quotas : (first qs : List ℕ) (lanes : List (Vec LaneLine Global)) (window : List LaneLine) (d : Vec LaneLine Global) → length first ≡ 8 → length qs ≡ 8 → Divided lanes window → Counted lanes qs
    → All (λ s. s.lane < 8) window → sum qs ≡ length window
all_quotas first qs lanes window d fl ql div count low =
    let ls : LaneLine → ℕ = λ s. s.lane in
    let same : length first ≡ length qs = fl ∙ sym ql in
    let long : length (plan_of first qs) ≡ 8 = plan_length first qs same ∙ ql in
    sym (room_sum first qs same)
    ∙ exact_room ls (plan_of first qs) window (subst (λ (n : ℕ). Below ls n window) (sym long) (below_all 8 window low))
    (λ k less.
    let in' : k < 8 = omega (arith, less, long) in
    plan_quota first qs k same ∙ count k d in' ∙ long_vec (get_or lanes k d) ∙ ap length (div k d in' ∙ lines_are k window))

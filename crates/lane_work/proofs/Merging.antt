-- What the taker got is a merge of the window's lanes.
use Rattle.std.proofs.Common.{◌≡◌, ℕ, ◌<◌, List, [], ◌∷◌, ◌++◌, length, map, sym, ap, ◌∙◌, subst, arith, append-nil, length-append}
use Rattle.std.specs.Prelude.{slice_index, All}
use Rattle.std.proofs.lemmas.List.Elements.{All-head, All-tail}
use Rattle.intake_queue.specs.declared.view.View.{View}
use Rattle.intake_queue.specs.declared.intake.Intake.{Intake}
use Rattle.intake_queue.specs.declared.intake.LanePass.{LanePass}
use Rattle.intake_queue.specs.Lanes.{Plan, room, sender, of_lane, Below, Settled}
use Rattle.intake_queue.specs.Passes.{lane_view, sent_by, IsLaneOf, AreLanes}
use Rattle.intake_queue.proofs.Lists.{used, used_all, same_used, none_left}
use Rattle.ledger_model.specs.Scheme.{Scheme}
use Rattle.lane_work.specs.declared.kinds.LaneLine.{LaneLine}
use Rattle.lane_work.specs.declared.kinds.Made.{Made}
use Rattle.lane_work.specs.declared.hands.LaneJob.{LaneJob}
use Rattle.lane_work.specs.Making.{AllMade, lines_of}
use Rattle.lane_work.specs.Working.{IsReady, WorksOf, Pairs}
use Rattle.lane_work.specs.Windows.{AreNewJobs, AreWindow, Merged}
use Rattle.lane_work.proofs.Makings.{made_length}
use Rattle.lane_work.proofs.Paired.{pairs_found, pairs_length}
use Rattle.lane_work.proofs.Lines.{lines_are}

lane_of : Made → ℕ
lane_of p = p.lane

pub below_all : (n : ℕ) (xs : List LaneLine) → All (λ s. s.lane < n) xs → Below (λ (s : LaneLine). s.lane) n xs
unfolding Below
below_all n [] a = tt
below_all n (x ∷ xs) a = (All-head (λ s. s.lane < n) x xs a, below_all n xs (All-tail (λ s. s.lane < n) x xs a))

-- the passes that came back are those of the lanes
pub are_lanes : (q : Intake Made) (scheme : Scheme) (id : List ℕ) (plan : Plan) (jobs : List LaneJob) (lanes : List (LanePass Made))
    → All (IsReady q) jobs → AreNewJobs plan jobs → Pairs (WorksOf scheme id) jobs lanes → (length lanes ≡ length plan) × AreLanes q plan lanes
are_lanes q scheme id plan jobs lanes ready new pairs =
    let same = pairs_length (WorksOf scheme id) jobs lanes pairs in
    let np = new.0 in let nj = new.1 in (
      omega (arith, same, np, nj),
      λ k d less.
          let in' : k < length jobs = omega (arith, less, same) in
          let at = pairs_found (WorksOf scheme id) sent_by [] jobs lanes k pairs in' in
          let j : LaneJob = at.0 in let p : LanePass Made = at.1 in let w = at.2 in
          let was : IsReady q j = subst (λ (y : LaneJob). IsReady q y) (at.3 j) (ready k j in') in
          let view_is : lane_view j.pass ≡ sender plan k [] = subst (λ (y : LaneJob). lane_view y.pass ≡ sender plan k []) (at.3 j) (new.2 k j (omega arith)) in
          let old = was.0 in
          let plan_same : (lane_view p).plan ≡ (lane_view j.pass).plan = ap (λ (v : View Made). v.plan) w.2 in
          let lane_same : (lane_view p).lane ≡ (lane_view j.pass).lane = ap (λ (v : View Made). v.lane) w.2 in
          let one : IsLaneOf q p = (
            (w.0 ∙ old.0.0, w.1),
            ap (λ (v : View Made). v.sends) w.2,
            subst (λ (y : ℕ × Plan). y.0 < length y.1) (λ i. (sym lane_same i, sym plan_same i)) old.2,
            ap room plan_same ∙ old.3,
          ) in
          subst (λ (y : LanePass Made). IsLaneOf q y × ((lane_view y).lane ≡ k)) (sym (at.4 d)) (one, lane_same ∙ ap (λ (v : View Made). v.lane) view_is),
    )

pub merged : (scheme : Scheme) (id : List ℕ) (first : List ℕ) (window : List LaneLine) (plan : Plan) (jobs : List LaneJob) (lanes : List (LanePass Made)) (got left : List Made)
    → AreNewJobs plan jobs → AreWindow first window jobs → Pairs (WorksOf scheme id) jobs lanes
    → Settled (λ (p : Made). p.lane) (λ (p : Made). p.index) plan (map sent_by lanes) got left → length got ≡ length window → Merged scheme id first window got
merged scheme id first window plan jobs lanes got left new win pairs settled count =
    let la : Made → ℕ = λ p. p.lane in
    let ls : LaneLine → ℕ = λ s. s.lane in
    let np = new.0 in let nj = new.1 in
    let each : (k : ℕ) → k < 8 → AllMade scheme id (slice_index first k) (lines_of k window) (of_lane la k (got ++ left)) = λ k less.
    let in' : k < length jobs = omega (arith, less, nj) in
    let at = pairs_found (WorksOf scheme id) sent_by [] jobs lanes k pairs in' in
    let j : LaneJob = at.0 in
    let is = win.1 k j less in
    let job = at.3 j in
    let lines : j.lines.items ≡ lines_of k window = subst (λ (y : LaneJob). y.lines.items ≡ lines_of k window) job is.0 in
    let start : j.start ≡ slice_index first k = subst (λ (y : LaneJob). y.start ≡ slice_index first k) job is.1 in
    let sent : sent_by at.1 ≡ of_lane la k (got ++ left) = sym at.5 ∙ settled.1 k (omega (arith, less, np)) in
    subst (λ (y : ℕ × List LaneLine × List Made). AllMade scheme id y.0 y.1 y.2) (λ i. (start i, lines i, sent i)) at.2.3 in
    let same : used la 0 plan (got ++ left) ≡ used ls 0 plan window = same_used la ls 0 plan (got ++ left) window
    (λ k less.
    let small : k < 8 = omega (arith, less, np) in
    let e = made_length scheme id (slice_index first k) (lines_of k window) (of_lane la k (got ++ left)) (each k small) in
    let f = ap length (lines_are k window) in
    subst (λ (n : ℕ). length (of_lane la n (got ++ left)) ≡ length (of_lane ls n window)) (omega arith) (sym e ∙ f)) in
    let a = used_all la plan (got ++ left) settled.0 in
    let b = used_all ls plan window (subst (λ (n : ℕ). Below ls n window) (sym np) (below_all 8 window win.0)) in
    let c = length-append got left in
    let zero : length left ≡ 0 = omega (arith, same, a, b, c, count) in
    let whole : got ++ left ≡ got = ap (λ (l : List Made). got ++ l) (none_left left zero) ∙ append-nil got in
    λ k less. subst (λ (l : List Made). AllMade scheme id (slice_index first k) (lines_of k window) (of_lane la k l)) whole (each k less)

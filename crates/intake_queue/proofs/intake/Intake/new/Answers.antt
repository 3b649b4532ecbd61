use Rattle.std.proofs.Common.{rules, ◌≡◌, ℕ, ◌+◌, ◌<◌, List, [], ◌∷◌, ◌++◌, length, arith, sym, ap, ◌∙◌, subst, vec_items}
use Rattle.crossbeam_queue.specs.Passes.{view}
use Rattle.intake_queue.specs.declared.view.View.{View}
use Rattle.intake_queue.specs.declared.intake.LanePass.{LanePass}
use Rattle.intake_queue.specs.Lanes.{Plan, plan_of, room, taker, sender}
use Rattle.intake_queue.specs.Passes.{lane_view, IsSenderOf}
use Rattle.intake_queue.proofs.Lists.{plan_length, room_sum, at_push, EachAt}
use Rattle.intake_queue.proofs.Steps.{begins, lends}
use Rattle.intake_queue.proofs.intake.Intake.new.Goals as goal

pub ruled-requires-clause-rule : goal.ruled-requires-clause-rule
ruled-requires-clause-rule g c = begins g.T.Piece.lane_of g.T.Piece.index_of

pub another-pass-requires-clause-rule : goal.another-pass-requires-clause-rule
another-pass-requires-clause-rule g c =
    let is = c.loop-k.invariant.1 in
    let long = plan_length c.args.first.now c.args.quotas.now c.requires.lanes.0 in
    let less : c.loop-k._k < length (plan_of c.args.first.now c.args.quotas.now) = omega (arith, long) in
    lends g.T.Piece.lane_of g.T.Piece.index_of _ _ (ap (λ (v : View g.row.T.Denot). v.gets) is)
    (subst (λ (v : View g.row.T.Denot). v.lent < length v.plan) (sym is) less)

pub loop-k-preserved : goal.loop-k-preserved
loop-k-preserved g c =
    let is = c.loop-k.invariant.1 in
    let plan : Plan = plan_of c.args.first.now c.args.quotas.now in
    let long = plan_length c.args.first.now c.args.quotas.now c.requires.lanes.0 in
    let less : c.loop-k._k < length plan = omega (arith, long) in
    let cap = c.in_ok-queue.ensures.0 in
    let sums = c.total.ensures in
    let wide = room_sum c.args.first.now c.args.quotas.now c.requires.lanes.0 in
    let queue = c.in_ok-queue.queue in
    let rule = c.another-pass.ensures.rule in
    let same = c.another-pass.ensures.queue.0 in
    let inv = c.loop-k.invariant in
    let view_is : view c.another-pass.result ≡ sender plan c.loop-k._k [] = rule.1 ∙ (λ i. sender (is i).plan (is i).lent []) in
    let pass : LanePass g.row.T.Denot = record { seat = c.another-pass.result } in
    let one : IsSenderOf queue pass = (
      c.another-pass.ensures.queue.1,
      ap (λ (v : View g.row.T.Denot). v.sends) view_is,
      subst (λ (v : View g.row.T.Denot). v.lane < length v.plan) (sym view_is) less,
      ap (λ (v : View g.row.T.Denot). room v.plan) view_is ∙ wide ∙ sym sums ∙ sym cap,
    ) in
    let before = vec_items c.loop-k.lanes in
    let count : length before ≡ c.loop-k._k = search rules in
    let items : vec_items c.push_reserved.new.self ≡ before ++ pass ∷ [] = c.push_reserved.ensures.items ∙ ap (λ (l : List (LanePass g.row.T.Denot)). l ++ pass ∷ []) c.in_ok-reserve.ensures.items in (
      (same.0 ∙ inv.0.0, same.2 ∙ inv.0.1),
      rule.0 ∙ (λ i. taker (is i).plan (is i).got ((is i).lent + 1) (is i).back),
      search rules,
      λ k d low. subst (λ (l : List (LanePass g.row.T.Denot)). EachAt (λ k p. IsSenderOf queue p × (lane_view p ≡ sender plan k [])) l) (sym items)
          (at_push (λ k p. IsSenderOf queue p × (lane_view p ≡ sender plan k [])) before pass inv.3 (one, view_is ∙ ap (λ (k : ℕ). sender plan k []) (sym count))) k d low,
    )

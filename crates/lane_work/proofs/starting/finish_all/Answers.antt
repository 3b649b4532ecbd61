use Rattle.std.proofs.Common.{rules, ◌≡◌, List, [], ◌∷◌, ◌++◌, append_assoc, append-nil, sym, refl, ap, ◌∙◌, subst, vec_items}
use Rattle.std.specs.Vec.Iter.{into_iter_items}
use Rattle.intake_queue.specs.declared.intake.LanePass.{LanePass}
use Rattle.intake_queue.proofs.Lists.{none_left}
use Rattle.lane_work.specs.declared.hands.LaneJob.{LaneJob}
use Rattle.lane_work.specs.declared.hands.Hand.{Hand}
use Rattle.lane_work.specs.declared.kinds.Made.{Made}
use Rattle.lane_work.specs.Working.{Promised, WorksOf, Pairs}
use Rattle.lane_work.proofs.Paired.{pairs_none, pairs_push, pairs_next, pairs_end}
use Rattle.lane_work.proofs.starting.finish_all.Goals as goal

pub loop-hand-init : goal.loop-hand-init
loop-hand-init g c =
    let same : into_iter_items c.into_iter-hand-iterator.result ≡ vec_items c.args.hands = search rules in (
      tt,
      tt,
      search rules,
      λ scheme id jobs all. (
        [],
        jobs,
        refl,
        subst (λ (l : List (LanePass Made)). Pairs (WorksOf scheme id) [] l) (sym c.requires.room.0) (pairs_none (WorksOf scheme id)),
        subst (λ (l : List (Hand g.row.V.Denot)). Pairs (Promised g.V.Verifier.shows scheme id) jobs l) (sym same) all,
      ),
    )

pub loop-hand-preserved : goal.loop-hand-preserved
loop-hand-preserved g c =
    let inv = c.loop-hand.invariant in
    let rest : List (Hand g.row.V.Denot) = into_iter_items c.next.new.self in
    let hand = c.in-Some.hand in (
      tt,
      tt,
      search rules,
      λ scheme id jobs all.
          let R : LaneJob → Hand g.row.V.Denot → Type 0 = Promised g.V.Verifier.shows scheme id in
          let was = inv.3 scheme id jobs all in
          let now : Pairs R was.1 (hand ∷ rest) = subst (λ (l : List (Hand g.row.V.Denot)). Pairs R was.1 l) c.in-Some.ensures.steps.0 was.4 in
          let next = pairs_next R was.1 hand rest now in (
            was.0 ++ next.0 ∷ [],
            next.1,
            append_assoc was.0 (next.0 ∷ []) next.1 ∙ ap (λ (l : List LaneJob). was.0 ++ l) next.2 ∙ was.2,
            subst (λ (l : List (LanePass Made)). Pairs (WorksOf scheme id) (was.0 ++ next.0 ∷ []) l) (sym c.push_reserved.ensures.items)
                (pairs_push (WorksOf scheme id) was.0 (vec_items c.loop-hand.done) next.0 c.finish-pass.result was.3 (c.finish-pass.ensures scheme id next.0 next.3)),
            next.4,
          ),
    )

pub returns : goal.returns
returns g c scheme id jobs all =
    let was = c.loop-hand.invariant.3 scheme id jobs all in
    let R : LaneJob → Hand g.row.V.Denot → Type 0 = Promised g.V.Verifier.shows scheme id in
    let empty : into_iter_items c.loop-hand.hand-iterator ≡ [] = (let z = c.in-None.ensures.steps.0 in none_left (into_iter_items c.loop-hand.hand-iterator) (search rules)) in
    let end : was.1 ≡ [] = pairs_end R was.1 (subst (λ (l : List (Hand g.row.V.Denot)). Pairs R was.1 l) empty was.4) in
    let whole : was.0 ≡ jobs = sym (append-nil was.0) ∙ ap (λ (l : List LaneJob). was.0 ++ l) (sym end) ∙ was.2 in
    subst (λ (l : List LaneJob). Pairs (WorksOf scheme id) l (vec_items c.loop-hand.done)) whole was.3

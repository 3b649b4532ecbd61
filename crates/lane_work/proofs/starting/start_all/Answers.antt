use Rattle.std.proofs.Common.{rules, List, [], ◌∷◌, ◌++◌, append_assoc, sym, ap, ◌∙◌, subst, vec_items}
use Rattle.std.specs.Vec.Iter.{into_iter_items}
use Rattle.lane_work.specs.declared.hands.LaneJob.{LaneJob}
use Rattle.lane_work.specs.declared.hands.Hand.{Hand}
use Rattle.lane_work.specs.Working.{Promised, Pairs}
use Rattle.lane_work.proofs.Paired.{pairs_none, pairs_push}
use Rattle.lane_work.proofs.starting.start_all.Goals as goal

pub loop-job-init : goal.loop-job-init
loop-job-init g c =
    let R : LaneJob → Hand g.row.V.Denot → Type 0 = Promised g.V.Verifier.shows (g.V.Verifier.shows c.args.tools.now.verifier.now) c.args.id.now.0 in (
      tt,
      tt,
      search rules,
      search rules,
      search rules,
      subst (λ (l : List (Hand g.row.V.Denot)). Pairs R [] l) (sym c.requires.room.0) (pairs_none R),
    )

pub loop-job-preserved : goal.loop-job-preserved
loop-job-preserved g c =
    let R : LaneJob → Hand g.row.V.Denot → Type 0 = Promised g.V.Verifier.shows (g.V.Verifier.shows c.args.tools.now.verifier.now) c.args.id.now.0 in
    let inv = c.loop-job.invariant in
    let job = c.in-Some.job in
    let rest : List LaneJob = into_iter_items c.next.new.self in (
      tt,
      tt,
      search rules,
      search rules,
      append_assoc c.loop-job.yielded (job ∷ []) rest ∙ ap (λ (l : List LaneJob). c.loop-job.yielded ++ l) (sym c.in-Some.ensures.steps.0) ∙ inv.4,
      subst (λ (l : List (Hand g.row.V.Denot)). Pairs R (c.loop-job.yielded ++ job ∷ []) l) (sym c.push_reserved.ensures.items)
          (pairs_push R c.loop-job.yielded (vec_items c.loop-job.hands) job c.start-hand.result inv.5 c.start-hand.ensures),
    )

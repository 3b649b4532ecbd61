use Rattle.std.proofs.Common.{rules, ◌≡◌, ℕ, List, [], ◌∷◌, ◌++◌, length, append-nil, arith, sym, refl, ap, ◌∙◌, subst, vec_items, Global}
use Rattle.std.specs.Prelude.{Vec, get_or}
use Rattle.std.specs.Vec.Iter.{into_iter_items}
use Rattle.intake_queue.specs.declared.intake.LanePass.{LanePass}
use Rattle.intake_queue.proofs.Lists.{none_left}
use Rattle.lane_work.specs.declared.kinds.LaneLine.{LaneLine}
use Rattle.lane_work.specs.declared.kinds.Made.{Made}
use Rattle.lane_work.specs.declared.hands.LaneJob.{LaneJob}
use Rattle.lane_work.proofs.Lines.{AreSome, some_push}
use Rattle.lane_work.proofs.lanes.lane_jobs.Goals as goal

pub loop-pass-preserved : goal.loop-pass-preserved
loop-pass-preserved c =
    let inv = c.loop-pass.invariant in
    let passes = vec_items c.args.passes in
    let lanes = vec_items c.args.lanes in
    let more : List (LanePass Made) = into_iter_items c.next.new.self in
    let rest : List (Vec LaneLine Global) = into_iter_items c.next-in-loop-pass.new.self in
    let jobs = vec_items c.loop-pass.jobs in
    let lines = c.in-Some-next.lines in
    let job : LaneJob = record { pass = c.in-Some.pass; lines = lines; start = get_or c.args.first.now c.len-k.result 0 } in
    let long : length jobs ≡ c.len-k.result = search rules in
    let taken : into_iter_items c.loop-pass.rest ≡ lines ∷ rest = c.in-Some-next.ensures.items in
    let now : AreSome c.loop-pass.yielded passes lanes c.args.first.now (c.in-Some.pass ∷ more) (lines ∷ rest) jobs =
    subst (λ (y : List (LanePass Made) × List (Vec LaneLine Global)). AreSome c.loop-pass.yielded passes lanes c.args.first.now y.0 y.1 jobs) (λ i. (c.in-Some.ensures.steps.0 i, taken i)) inv.5 in (
      tt,
      tt,
      search rules,
      search rules,
      search rules,
      subst (λ (l : List LaneJob). AreSome (c.loop-pass.yielded ++ c.in-Some.pass ∷ []) passes lanes c.args.first.now more rest l) (sym c.push_reserved.ensures.items)
          (some_push passes lanes c.args.first.now c.loop-pass.yielded more rest jobs c.in-Some.pass lines job now refl refl (ap (λ (n : ℕ). get_or c.args.first.now n 0) (sym long))),
    )

pub returns : goal.returns
returns c =
    let h = c.loop-pass.invariant.5 in
    let inv = c.loop-pass.invariant in
    let gone = c.in-None.ensures.steps.0 in
    let no_more : into_iter_items c.loop-pass.pass-iterator ≡ [] = none_left (into_iter_items c.loop-pass.pass-iterator) (search rules) in
    let no_rest : into_iter_items c.loop-pass.rest ≡ [] = none_left (into_iter_items c.loop-pass.rest) (search rules) in
    let passes : c.loop-pass.yielded ≡ vec_items c.args.passes = sym (append-nil c.loop-pass.yielded) ∙ ap (λ (l : List (LanePass Made)). c.loop-pass.yielded ++ l) (sym no_more) ∙ h.passes_are in
    let lanes : h.used ≡ vec_items c.args.lanes = sym (append-nil h.used) ∙ ap (λ (l : List (Vec LaneLine Global)). h.used ++ l) (sym no_rest) ∙ h.lanes_are in
    let long : length (vec_items c.loop-pass.jobs) ≡ 8 = search rules in (
      long,
      λ k d e f less.
          let r = h.each k d e f (omega (arith, long, less)) in (
            r.0 ∙ ap (λ (l : List (LanePass Made)). get_or l k e) passes,
            r.1 ∙ ap (λ (l : List (Vec LaneLine Global)). get_or l k f) lanes,
            r.2,
          ),
    )

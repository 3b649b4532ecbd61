use Rattle.std.proofs.Common.{rules, ◌+◌, List, [], ◌∷◌, ◌++◌, length, length-append, append_assoc, inr, sym, ap, ◌∙◌, arith}
use Rattle.std.specs.Vec.Iter.{into_iter_items}
use Rattle.lane_work.specs.declared.kinds.LaneLine.{LaneLine}
use Rattle.lane_work.proofs.Ordering.{alone_none, alone_more, alone_stops, alone_lacks, prepared_is}
use Rattle.lane_work.proofs.alone.run_alone.Goals as goal

pub loop-said-init : goal.loop-said-init
loop-said-init g c = (tt, tt, search rules, omega arith, c.requires.ready, alone_none _ _ _)

pub returns-in_default-clause-err : goal.returns-in_default-clause-err
returns-in_default-clause-err g c =
    alone_lacks _ _ _ c.args.start c.loop-said.yielded _ _ _ _ c.loop-said.invariant.2 c.loop-said.invariant.5

pub returns-in-Stop-clause-ok : goal.returns-in-Stop-clause-ok
returns-in-Stop-clause-ok g c =
    let i = c.loop-said.invariant in
    let rest : List LaneLine = into_iter_items c.next.new.self in
    let whole = ap (λ (l : List LaneLine). c.loop-said.yielded ++ l) (sym c.in-Some.ensures.steps.0) ∙ i.2 in
    let is = prepared_is _ _ c.in-Some.said c.loop-said.index (c.args.start + length c.loop-said.yielded) c.in-Ok.item c.as_slice-line.result.now i.3 c.as_slice-line.ensures c.in-Ok.ensures.lane c.in-Ok.ensures.index c.in-Ok.ensures.job in
    inr (alone_stops _ _ _ c.args.start c.loop-said.yielded rest _ c.in-Some.said c.in-Ok.item _ _ _ whole is i.5 c.in-Stop.ensures.does)

pub loop-said-preserved : goal.loop-said-preserved
loop-said-preserved g c =
    let i = c.loop-said.invariant in
    let rest : List LaneLine = into_iter_items c.next.new.self in
    let is = prepared_is _ _ c.in-Some.said c.loop-said.index (c.args.start + length c.loop-said.yielded) c.in-Ok.item c.as_slice-line.result.now i.3 c.as_slice-line.ensures c.in-Ok.ensures.lane c.in-Ok.ensures.index c.in-Ok.ensures.job in (
      tt,
      tt,
      append_assoc c.loop-said.yielded (c.in-Some.said ∷ []) rest ∙ ap (λ (l : List LaneLine). c.loop-said.yielded ++ l) (sym c.in-Some.ensures.steps.0) ∙ i.2,
      (let e = i.3 in let f = length-append c.loop-said.yielded (c.in-Some.said ∷ []) in omega (arith, e, f)),
      c.in-GoOn.ensures.ready,
      alone_more _ _ _ c.args.start c.loop-said.yielded c.in-Some.said c.in-Ok.item _ _ _ is i.5 c.in-GoOn.ensures.does,
    )

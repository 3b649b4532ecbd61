use Rattle.std.proofs.Common.{rules, ◌≡◌, ◌<◌, List, [], ◌∷◌, ◌++◌, length, get_or, append_assoc, arith, sym, ap, ◌∙◌, vec_items, Global}
use Rattle.std.specs.Prelude.{Vec}
use Rattle.std.specs.Vec.Iter.{into_iter_items}
use Rattle.lane_work.specs.declared.kinds.LaneLine.{LaneLine}
use Rattle.lane_work.proofs.Lines.{divided_push, any_default}
use Rattle.lane_work.proofs.divide.divide.Goals as goal

pub loop-said-preserved : goal.loop-said-preserved
loop-said-preserved c =
    let inv = c.loop-said.invariant in
    let said = c.in-Some.said in
    let rest : List LaneLine = into_iter_items c.next.new.self in
    let here : c.from-lane.result ≡ said.lane = search rules in
    let long : length (vec_items c.loop-said.lanes) ≡ 8 = search rules in
    let low : c.from-lane.result < 8 = (let l = said.low in omega (arith, l, here)) in (
      tt,
      tt,
      search rules,
      append_assoc c.loop-said.yielded (said ∷ []) rest ∙ ap (λ (l : List LaneLine). c.loop-said.yielded ++ l) (sym c.in-Some.ensures.steps.0) ∙ inv.3,
      divided_push (vec_items c.loop-said.lanes) c.loop-said.yielded said c.from-lane.result c.push.new.self long here low inv.4
          (λ d. let at : c.index_mut.result.now ≡ get_or (vec_items c.loop-said.lanes) c.from-lane.result d = c.index_mut.ensures.value ∙ any_default (vec_items c.loop-said.lanes) c.from-lane.result c.index_mut.result.now d (omega (arith, long, low)) in
          c.in_ok-push.ensures.items ∙ ap (λ (v : Vec LaneLine Global). v.items ++ said ∷ []) at),
    )

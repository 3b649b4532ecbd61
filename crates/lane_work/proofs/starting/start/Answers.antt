use Rattle.std.proofs.Common.{rules, ◌≡◌, List, [], sym, refl, ap, ◌∙◌, subst}
use Rattle.intake_queue.specs.declared.view.View.{View}
use Rattle.intake_queue.specs.Passes.{lane_view}
use Rattle.intake_queue.specs.Lanes.{sender}
use Rattle.intake_queue.proofs.Lists.{none_left}
use Rattle.lane_work.specs.declared.kinds.Made.{Made}
use Rattle.lane_work.specs.declared.kinds.LaneLine.{LaneLine}
use Rattle.lane_work.specs.Making.{AllMade}
use Rattle.lane_work.proofs.Makings.{made_none}
use Rattle.lane_work.proofs.starting.start.Goals as goal

pub returns-then-is_empty : goal.returns-then-is_empty
returns-then-is_empty g c =
    let v = lane_view c.args.job.pass in
    let scheme = g.V.Verifier.shows c.args.tools.now.verifier.now in let id = c.args.id.now.0 in
    let is = c.requires.1 in
    let none : v.sent ≡ [] = ap (λ (w : View Made). w.sent) is in
    let empty : c.args.job.lines.items ≡ [] = none_left c.args.job.lines.items (search rules) in (
      refl,
      c.requires.0.0.1,
      is ∙ ap (λ (l : List Made). sender v.plan v.lane l) (sym none),
      subst (λ (y : List LaneLine × List Made). AllMade scheme id c.args.job.start y.0 y.1) (λ i. (sym empty i, sym none i)) (made_none scheme id c.args.job.start),
    )

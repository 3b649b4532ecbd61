use Rattle.std.proofs.Common.{◌++◌, ◌∷◌, [], refl, ap, ◌∙◌}
use Rattle.batch_committer.specs.contracts.taking.Taking.{the_view}
use Rattle.batch_committer.proofs.Judging.{gathered_by, gathered_at, order_more, order_at}
use Rattle.batch_committer.proofs.taking.Taking.gather.Goals as goal

pub returns-clause-gathered : goal.returns-clause-gathered
returns-clause-gathered c = λ journal header_is widths len content_is who_is.
    let i = the_view c.self.inside in
    let e = c.in_ok-place.ensures in
    let given = c.args.given.now in
    let content = c.args.content.now in
    gathered_at i _ _ journal c.self.view_is
    (gathered_by i _ c.args.header.now content given c.in_ok-place.place journal header_is widths len content_is who_is e.body
    (c.push.ensures.list ∙ ap (λ ps. ps ++ c.in_ok-place.place ∷ []) c.in_ok-reserve.ensures.list) e.place e.before)

pub returns-clause-order : goal.returns-clause-order
returns-clause-order c = λ all.
    let i = the_view c.self.inside in
    let e = c.in_ok-place.ensures in
    let given = c.args.given.now in
    let content = c.args.content.now in
    order_more i _ _ _ c.in_ok-place.place c.args.header.now content given e.width e.place refl e.body
    (c.push.ensures.list ∙ ap (λ ps. ps ++ c.in_ok-place.place ∷ []) c.in_ok-reserve.ensures.list) (order_at i c.args.self.now c.self.view_is all)

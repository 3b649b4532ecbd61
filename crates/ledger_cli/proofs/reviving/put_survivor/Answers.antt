use Rattle.std.proofs.Common.{◌++◌, ap, ◌∙◌}
use Rattle.survivor_set.specs.Sets.{Saved}
use Rattle.ledger_cli.specs.Surviving.{view_line}
use Rattle.ledger_cli.proofs.SurviveLaws.{put_err, put_ok, same_survivor}
use Rattle.ledger_cli.proofs.reviving.put_survivor.Goals as goal

pub returns-in_err-made-clause-puts : goal.returns-in_err-made-clause-puts
returns-in_err-made-clause-puts g c = λ h x serves here.
    put_err h (g.N.Notary.state c.args.notary.now).entries c.args.set.now.point x c.from_residual.result c.in_err-made.field-0.0 c.from_residual.ensures (c.in_err-made.ensures.answer h x serves here) c.args.out.now.items c.args.out.now.items

pub returns-clause-puts : goal.returns-clause-puts
returns-clause-puts g c = λ h x serves here.
    let same = same_survivor c.args.set.now.survivors c.args.i x c.in-Some.survivor here c.in-Some.ensures.is in
    put_ok h (g.N.Notary.state c.args.notary.now).entries c.args.set.now.point x c.in-Some.survivor c.in_ok-made.made same (c.in_ok-made.ensures.answer h x serves here)
    (λ is pegged trust head list. c.in_ok-made.ensures.accepted h trust x serves here is pegged head list)
    c.args.out.now.items c.put_view.new.out.items c.put_proof.new.out.items (c.in_ok-put_view.ensures ∙ ap (λ (z : Saved). c.args.out.now.items ++ view_line z.item) c.survivor.view_is) c.in_ok-put_proof.ensures

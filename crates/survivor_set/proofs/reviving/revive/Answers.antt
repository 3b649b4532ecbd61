use Rattle.survivor_set.proofs.Revived.{revives_err, revives_from}
use Rattle.survivor_set.proofs.reviving.revive.Goals as goal

pub returns-in_err-check_set-clause-answer : goal.returns-in_err-check_set-clause-answer
returns-in_err-check_set-clause-answer g c = λ h x s here.
    revives_err h (g.N.Notary.state c.args.notary.now).entries c.args.set.now x c.from_residual.result c.in_err-check_set.field-0.0 c.from_residual.ensures (c.in_err-check_set.ensures.judged h s)

pub returns-clause-answer : goal.returns-clause-answer
returns-clause-answer g c = λ h x s here.
    revives_from h (g.N.Notary.state c.args.notary.now).entries c.args.set.now x c.revive_judged.result (c.in_ok-check_set.ensures.judged h s) (c.revive_judged.ensures.answer h x s here)

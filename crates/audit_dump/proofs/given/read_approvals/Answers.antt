use Rattle.std.proofs.Common.{map, ap, ◌∙◌}
use Rattle.audit_dump.proofs.SaidLaws.{keyed, shown_found, one_way}
use Rattle.audit_dump.proofs.given.read_approvals.Goals as goal

pub returns-in_ok-shown_approvals-in-Some-clause-found : goal.returns-in_ok-shown_approvals-in-Some-clause-found
returns-in_ok-shown_approvals-in-Some-clause-found g c =
    let scheme = g.V.Verifier.shows c.args.verifier.now in
    let said = rw c.in-Some.is at c.in_ok-said.ensures.found in
    shown_found scheme c.args.message.now.0 c.args.who.now c.in-Some.said.items c.in_ok-shown_approvals-in-Some.field-0.items said
    (c.in_ok-shown_approvals-in-Some.ensures ∙ ap (map (keyed scheme c.args.message.now.0)) c.deref.ensures.value)

pub returns-in_ok-shown_approvals-in-Some-clause-only : goal.returns-in_ok-shown_approvals-in-Some-clause-only
returns-in_ok-shown_approvals-in-Some-clause-only g c = λ other are.
    one_way (g.V.Verifier.shows c.args.verifier.now) c.args.message.now.0 c.args.who.now c.in_ok-shown_approvals-in-Some.field-0.items other (returns-in_ok-shown_approvals-in-Some-clause-found g c) are

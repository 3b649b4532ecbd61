use Rattle.std.proofs.Common.{sym, subst}
use Rattle.journal_record.specs.Members.{keys}
use Rattle.audit_dump.specs.Said.{AreShown}
use Rattle.audit_dump.proofs.SaidLaws.{so_many}
use Rattle.audit_dump.proofs.SaidKeys.{of_verdict}
use Rattle.audit_dump.proofs.placing.are_of.Goals as goal

pub are_accepted-requires : goal.are_accepted-requires
are_accepted-requires g c =
    let found = rw c.in-Some.is at c.in_ok-given.ensures.found in
    let shown = subst (AreShown (g.V.Verifier.shows c.args.verifier.now) c.args.message.now.0 c.args.who.now) (sym c.as_slice.ensures.value) found in
    so_many c.args.who.now c.as_slice.result.now shown.who_is c.requires

pub returns-in-Some : goal.returns-in-Some
returns-in-Some g c =
    let scheme = g.V.Verifier.shows c.args.verifier.now in
    let found = rw c.in-Some.is at c.in_ok-given.ensures.found in
    let shown = subst (AreShown scheme c.args.message.now.0 c.args.who.now) (sym c.as_slice.ensures.value) found in
    of_verdict (keys c.args.known.now) c.args.needed.now c.args.who.now c.are_accepted.ensures.few scheme c.args.message.now.0 c.as_slice.result.now c.are_accepted.result shown c.are_accepted.ensures.accepted

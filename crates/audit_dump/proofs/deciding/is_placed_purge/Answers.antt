use Rattle.std.proofs.Common.{ap}
use Rattle.journal_record.specs.Items.{Item}
use Rattle.journal_record.specs.Members.{keys}
use Rattle.audit_dump.proofs.Decisions.{with_root, without_root}
use Rattle.audit_dump.proofs.deciding.is_placed_purge.Goals as goal

pub returns-in-Some : goal.returns-in-Some
returns-in-Some g c =
    let view = c.journal.view_is in
    with_root (g.V.Verifier.shows c.args.verifier.now) c.args.id.now.0 (keys c.args.known.now) c.args.needed.now c.args.journal.now c.args.root c.in-Some.root c.purge_request_digest-request.result.0 c.journal.inside.who.now c.journal.inside.header.a c.are_of.result
    c.in-Some.is (ap (λ (x : Item). x.who) view) (ap (λ (x : Item). x.header.a) view) c.purge_request_digest-request.ensures c.are_of.ensures

pub returns-in-None : goal.returns-in-None
returns-in-None g c =
    without_root (g.V.Verifier.shows c.args.verifier.now) c.args.id.now.0 (keys c.args.known.now) c.args.needed.now c.args.journal.now c.args.root c.journal.inside.who.now c.are_in_form.result
    c.in-None.is (ap (λ (x : Item). x.who) c.journal.view_is) c.are_in_form.ensures

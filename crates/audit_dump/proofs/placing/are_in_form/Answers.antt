use Rattle.std.proofs.Common.{length, sym, ap, subst, ◌∙◌, arith}
use Rattle.std.proofs.lemmas.List.{length-map}
use Rattle.journal_record.specs.Members.{keys}
use Rattle.audit_dump.specs.Said.{AreSaid, own_approval}
use Rattle.audit_dump.proofs.SaidLaws.{so_many}
use Rattle.audit_dump.proofs.SaidKeys.{form_verdict}
use Rattle.audit_dump.proofs.placing.are_in_form.Goals as goal

pub are_accepted-requires : goal.are_accepted-requires
are_accepted-requires c =
    let found = rw c.in-Some.is at c.in_ok-said.ensures.found in
    let said = subst (AreSaid c.args.who.now) (sym c.as_slice.ensures.value) found in
    let count = ap length (c.as_slice-in-Some.ensures.value ∙ c.in_ok-own-in-Some.ensures) in
    omega (arith, count, length-map c.as_slice.result.now (own_approval (keys c.args.known.now)), so_many c.args.who.now c.as_slice.result.now said.who_is c.requires)

pub returns-in_ok-own-in-Some : goal.returns-in_ok-own-in-Some
returns-in_ok-own-in-Some c =
    let found = rw c.in-Some.is at c.in_ok-said.ensures.found in
    let said = subst (AreSaid c.args.who.now) (sym c.as_slice.ensures.value) found in
    form_verdict (keys c.args.known.now) c.args.needed.now c.args.who.now c.are_accepted.ensures.few c.as_slice.result.now c.as_slice-in-Some.result.now c.are_accepted.result said
    (c.as_slice-in-Some.ensures.value ∙ c.in_ok-own-in-Some.ensures) c.are_accepted.ensures.accepted

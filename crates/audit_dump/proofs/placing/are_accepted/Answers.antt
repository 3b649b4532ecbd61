use Rattle.std.proofs.Common.{◌∙◌, sym, arith}
use Rattle.std.proofs.lemmas.List.{length-map}
use Rattle.journal_record.specs.Members.{keys}
use Rattle.journal_record.specs.declared.member.Member.{Member}
use Rattle.member_book.specs.Approvals.{approvals_refusal}
use Rattle.audit_dump.proofs.SaidKeys.{judged}
use Rattle.audit_dump.proofs.placing.are_accepted.Goals as goal

pub returns-clause-accepted : goal.returns-clause-accepted
returns-clause-accepted c =
    let told = judged (approvals_refusal (keys c.args.known.now) c.args.given.now c.args.needed.now) c.check_approvals.result c.check_approvals.ensures in
    (λ ok. told.0 (sym c.is_ok.ensures.value ∙ ok), λ none. c.is_ok.ensures.value ∙ told.1 none)

pub returns-clause-few : goal.returns-clause-few
returns-clause-few c = omega (arith, length-map c.args.known.now (λ (m : Member). m.key.0), c.count-count.ensures.count, c.count-count.ensures.most)

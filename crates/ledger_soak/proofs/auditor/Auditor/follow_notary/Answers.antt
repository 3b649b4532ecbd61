use Rattle.std.proofs.Common.{sym, subst, ◌∙◌}
use Rattle.std.specs.Prelude.{IfSome, Option}
use Rattle.merkle_tree.specs.declared.head.Head.{Head}
use Rattle.ledger_soak.specs.Auditing.{IsListHead}
use Rattle.ledger_soak.proofs.AuditLaws.{ok_and, trusts_entries, list_followed, now_listed}
use Rattle.ledger_soak.proofs.auditor.Auditor.follow_notary.Goals as goal

pub returns-in-Ok-extend_notary-clause-trusts : goal.returns-in-Ok-extend_notary-clause-trusts
returns-in-Ok-extend_notary-clause-trusts g c =
    ok_and _ _
    (λ after told listed well.
    let es = (g.N.Notary.state c.args.notary.now).entries in
    let same = c.in-Ok.ensures.same in
    let old : IsListHead es c.in-Some.old = subst (λ (o : Option Head). IfSome o (IsListHead es)) (sym c.replace.ensures.value ∙ c.in-Some.is) listed in
    let heads = c.in_ok-heads-in-Some.heads in
    let e = c.in_ok-heads-in-Some.ensures in
    let made = rw same at c.in-Ok-extend_notary.ensures.answer in
    let accepts = rw same at c.in-Ok-extend_notary.ensures.accepted in
    let trusts = trusts_entries es c.args.heads c.requires.fresh c.in-Some.old old heads e.trusts e.found in
    list_followed es c.args.heads c.requires.fresh c.in-Some.old old heads e.trusts e.found
    c.in-Ok-extend_notary.made.head c.in-Ok-extend_notary.made.proof after made.1.size_is made.1.root_is (accepts heads trusts) told)
    c.extended.result c.extended.ensures.extended

pub returns-in-Ok-extend_notary-clause-follows : goal.returns-in-Ok-extend_notary-clause-follows
returns-in-Ok-extend_notary-clause-follows g c =
    ok_and _ _
    (λ after told listed.
    let es = (g.N.Notary.state c.args.notary.now).entries in
    subst (λ (o : Option Head). IfSome o (IsListHead es)) (sym c.replace.ensures.after) (now_listed es c.in-Ok.now c.in-Ok.ensures.size c.in-Ok.ensures.root))
    c.extended.result c.extended.ensures.extended

use Rattle.std.proofs.Common.{◌≡◌, Some, None, sym, ap, ◌∙◌, arith}
use Rattle.ledger_book.proofs.StandsLaws.{point_is}
use Rattle.ledger_soak.proofs.AuditLaws.{ok_and, some_if, trusts_first, ledger_followed, unrefused}
use Rattle.ledger_soak.proofs.auditor.follow_from.Goals as goal

pub returns-in-Ok-clause-list : goal.returns-in-Ok-clause-list
returns-in-Ok-clause-list c =
    ok_and _ _ (λ after told. some_if _ _ (λ t is. ap (λ x. x.notary) is ∙ ap (λ x. x.notary) c.in_ok-heads.ensures.trusts) after told) c.extended.result c.extended.ensures.head

pub returns-in-Ok-clause-trusts : goal.returns-in-Ok-clause-trusts
returns-in-Ok-clause-trusts c =
    ok_and _ _
    (λ after told h serves id_is first.
    let heads = c.in_ok-heads.heads in
    let trusts = trusts_first h c.args.id.now id_is c.args.old.now first heads c.in_ok-heads.ensures.trusts c.in_ok-heads.ensures.found in
    ledger_followed h c.args.id.now id_is c.args.old.now first heads c.in_ok-heads.ensures.trusts c.in_ok-heads.ensures.found
    c.in-Ok.made.head c.in-Ok.made.proof after (c.in-Ok.ensures.answer h serves).1.head_is (c.in-Ok.ensures.accepted h heads serves trusts) told)
    c.extended.result c.extended.ensures.extended

pub returns-in-Err-Refused-clause-trusts : goal.returns-in-Err-Refused-clause-trusts
returns-in-Err-Refused-clause-trusts c h serves id_is first =
    let none = unrefused h c.args.old.now.size first.some first.within (omega (arith, point_is c.args.book.now h serves, c.requires.kept)) in
    let some = rw c.in-Err-Refused.field-0-is at (c.in-Err-Refused.ensures.answer h serves) in
    let bad : Some c.in-Err-Refused.field-0-0 ≡ None = sym some ∙ none in
    absurd cc

use Rattle.ledger_soak.proofs.AuditLaws.{now_at, trusts_anew}
use Rattle.ledger_soak.proofs.auditor.Auditor.follow_ledger.Goals as goal

pub returns-in_ok-heads_with-in_default-clause-trusts : goal.returns-in_ok-heads_with-in_default-clause-trusts
returns-in_ok-heads_with-in_default-clause-trusts c h serves first =
    let now = c.head-now.result in
    let new = c.in_ok-heads_with-in_default in
    trusts_anew h c.id-id.result (c.id-id.ensures h serves.stands) now (now_at c.args.book.now h serves c.requires.settled now (c.head-now.ensures h serves.stands)) new.field-0 new.ensures.trusts new.ensures.found

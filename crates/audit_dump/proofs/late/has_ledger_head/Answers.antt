use Rattle.audit_dump.proofs.Ended.{ledger_head, no_own}
use Rattle.audit_dump.proofs.late.has_ledger_head.Goals as goal

pub returns-in-Some : goal.returns-in-Some
returns-in-Some c start items tail held own same =
    let shown = rw c.in-Some.is at c.head_shown.ensures in
    let is = ledger_head c.args.journals.now.id start items tail c.args.ending.now.head c.in-Some.head c.args.given.now.ledger (shown start items held) same in
    (λ yes. is.0 (c.are_same.ensures.0 yes), λ has. c.are_same.ensures.1 (is.1 has))

pub returns-in-None : goal.returns-in-None
returns-in-None c start items tail held own same =
    let shown = rw c.in-None.is at c.head_shown.ensures in
    let none = shown start items held in
    absurd (no_own start items c.args.journals.now.id none.0 none.1 own.own)

use Rattle.audit_dump.specs.Passing.{early_of}
use Rattle.audit_dump.proofs.Noted.{fails_first, told_first}
use Rattle.audit_dump.proofs.journals.check_at.Goals as goal

pub returns-in-Ok : goal.returns-in-Ok
returns-in-Ok g c start items stands =
    let scheme = g.V.Verifier.shows c.args.verifier.now in
    let none = rw c.in_default.is at stands in
    let told = rw c.in-Ok.is at c.in_ok-first.ensures in
    told_first scheme c.args.id.now.0 start items c.args.journal.now c.in-Ok.first none.0 none.1 (told scheme c.args.id.now.0)

pub returns-in-Err : goal.returns-in-Err
returns-in-Err g c start items stands =
    let scheme = g.V.Verifier.shows c.args.verifier.now in
    let none = rw c.in_default.is at stands in
    let told = rw c.in-Err.is at c.in_ok-first.ensures in
    fails_first scheme c.args.id.now.0 start items c.args.journal.now (early_of c.in-Err.check) none.0 none.1 (told scheme c.args.id.now.0)

use Rattle.std.proofs.Common.{sym, arith, true≢false}
use Rattle.ledger_book.proofs.TimeLaws.{point_low}
use Rattle.ledger_cli.proofs.boarding.ends_alone.Goals as goal

pub returns-in-None : goal.returns-in-None
returns-in-None c = λ h serves alone.
    let low = point_low c.args.book.now h serves.stands in
    let seen = serves.seen in
    let many = serves.stands.counts.size in
    let size = c.size.ensures.size in
    true≢false (sym (c.in-None.ensures.some (omega (arith, low, seen, many, size)) (omega (arith, low, seen, many, size))))

use Rattle.std.proofs.Common.{◌≤◌, arith}
use Rattle.ledger_model.specs.Behind.{next_number}
use Rattle.ledger_book.specs.Replaying.{IsPlaced}
use Rattle.audit_dump.proofs.passing.takes_next.Goals as goal

pub returns-in-Ok : goal.returns-in-Ok
returns-in-Ok c start before stands =
    let placed : IsPlaced c.args.book.now c.args.header.now c.replay.new.self = rw c.in-Ok.is at c.in_ok-replay.ensures.ok in
    let some : 1 ≤ next_number start before = omega (arith, stands.size_is, c.size-size.ensures.size, c.size-size.ensures.some) in
    (placed.next_behind start before stands, some, λ journal is. placed.stands_behind start before journal stands is)

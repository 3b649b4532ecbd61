use Rattle.std.proofs.Common.{◌-◌, take, drop}
use Rattle.ledger_model.specs.Needs.{HaveSame}
use Rattle.ledger_book.specs.Purges.{owners_in}
use Rattle.audit_dump.proofs.purging.needed_for.Given as goal

abbrev pub invariant-loop-n : goal.invariant-loop-n
invariant-loop-n l = HaveSame l.owners.items (owners_in (take (l.n - l.first) (drop (l.first - l.book.floor) l.book.headers)))

use Rattle.std.proofs.Common.{take}
use Rattle.ledger_model.specs.Needs.{HaveSame}
use Rattle.ledger_book.specs.Purges.{owners_in}
use Rattle.ledger_book.proofs.book.purging.owners_of.Given as goal

abbrev pub invariant-loop-header : goal.invariant-loop-header
invariant-loop-header l = HaveSame l.owners.items (owners_in (take l.header-index l.headers))

use Rattle.std.proofs.Common.{◌≡◌, ◌+◌, take, map}
use Rattle.ledger_book.specs.Basing.{member_with}
use Rattle.ledger_book.proofs.book.basing.members_with.Given as goal

abbrev pub invariant-loop-key : goal.invariant-loop-key
invariant-loop-key l = l.members ≡ map member_with (take (2 + l.key-index) l.fn.keys)

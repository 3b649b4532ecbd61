use Rattle.std.proofs.Common.{◌≡◌, take, map}
use Rattle.ledger_book.proofs.book.Book.keys_at.Given as goal

abbrev pub invariant-loop-number : goal.invariant-loop-number
invariant-loop-number l = l.keys.items ≡ map (λ m. m.key) (take l.number l.self.members)

use Rattle.std.proofs.Common.{◌≡◌, ℕ, ◌+◌, ◌≤◌, [], length, get_or}
use Rattle.ledger_book.proofs.numbers.NumberIndex.begin.Given as goal

-- none of the members tells anything more, and there is room for the rest
abbrev pub invariant-loop : goal.invariant-loop
invariant-loop l =
    ((k : ℕ) → get_or l.self-inside.members.items k [] ≡ get_or l.fn.self k [])
    × (l.self-inside.members.len ≡ length l.fn.self + l.counter)
    × (length l.fn.self + l.missing + 1 ≤ l.self-inside.members.cap)

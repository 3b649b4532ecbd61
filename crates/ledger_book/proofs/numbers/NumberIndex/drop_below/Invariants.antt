use Rattle.std.proofs.Common.{◌≡◌, ℕ, ◌<◌, ◌≤◌, [], get_or}
use Rattle.ledger_book.specs.Numbered.{from_on, told_in}
use Rattle.ledger_book.proofs.numbers.NumberIndex.drop_below.Given as goal

-- those that were met tell only what is left to tell, and the others what they told
abbrev pub invariant-loop-numbers : goal.invariant-loop-numbers
invariant-loop-numbers l =
    ((k : ℕ) → k < l.numbers-index → (number : ℕ) → told_in number (get_or l.numbers-items k []) ≡ from_on l.p (told_in number (get_or l.fn.self k [])))
    × ((k : ℕ) → l.numbers-index ≤ k → get_or l.numbers-items k [] ≡ get_or l.fn.self k [])

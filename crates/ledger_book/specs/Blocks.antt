-- In which block a kept journal stands, as a receipt tells it.
use Rattle.std.specs.Prelude.{ℕ, ◌&&◌, if◌then◌else◌, nat_le, nat_lt, Option, Some, None}
use Rattle.merkle_tree.specs.declared.head.Head.{Head}
use Rattle.ledger_model.specs.History.{History, block_of, end_of}
use Rattle.ledger_book.specs.Books.{sealed_size}
use Rattle.ledger_book.specs.Seals.{head_at}

-- what is told of a journal, where it is kept from the floor on and its block has ended; of every other number nothing
abbrev pub if_sealed : {A : Type 0} → ℕ → History → ℕ → A → Option A
if_sealed floor h n told = if nat_le floor n && nat_lt n (sealed_size h) then Some told else None

-- the number of the journal's block, and the size where it ends
-- Example: in a history with the blocks [0] [1 2 3] and the open block [4], of journal 2 block 1 and size 4 are told, and of
-- journal 4 nothing.
abbrev pub told_block : ℕ → History → ℕ → Option (ℕ × ℕ)
told_block floor h n = if_sealed floor h n (block_of h n, end_of h n)

-- the number of the journal's block, and the head where it ends
abbrev pub told_end : ℕ → History → ℕ → Option (ℕ × Head)
told_end floor h n = if_sealed floor h n (block_of h n, head_at h (end_of h n))

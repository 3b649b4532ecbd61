use Rattle.std.proofs.Common.{◌≡◌, ℕ, ◌<◌, length, get_or, vec_len}
use Rattle.ledger_open.specs.Ahead.{AreLeaves}
use Rattle.ledger_open.specs.declared.ahead.Hashed.{Hashed}
use Rattle.ledger_open.proofs.ahead.hash_all.Given as goal

abbrev pub invariant-loop-index : goal.invariant-loop-index
invariant-loop-index l = record {
  size : length l.blocks ≡ length l.fn.blocks;
  same : (i : ℕ) (d : Hashed) → i < length l.fn.blocks → (get_or l.blocks i d).block ≡ (get_or l.fn.blocks i d).block;
  sizes : (i : ℕ) (d : Hashed) → i < length l.fn.blocks → vec_len (get_or l.blocks i d).leaves ≡ length (get_or l.blocks i d).block.records;
  leaves : (i : ℕ) (d : Hashed) → i < l.index → AreLeaves (get_or l.blocks i d).block.records (get_or l.blocks i d).leaves.items;
}

use Rattle.std.proofs.Common.{◌≡◌, ◌<◌, length, get_or, ℕ}
use Rattle.ledger_disk.specs.Generator.{draw_at, torn_byte}
use Rattle.ledger_disk.proofs.torn.torn_bytes.Given as goal

abbrev pub invariant-loop-at : goal.invariant-loop-at
invariant-loop-at l = record {
  size : length l.image.items ≡ l.at;
  draw : l.draw ≡ draw_at l.stable l.ranges l.seed l.at;
  torn : (i : ℕ) → i < l.at → get_or l.image.items i 0 ≡ torn_byte l.stable l.ranges l.seed i;
}

use Rattle.std.proofs.Common.{◌≡◌, ◌+◌, ◌-◌, ◌^◌, ◌<◌, ◌≤◌, All, length, vec_len}
use Rattle.std.specs.Prelude.{IsTrue, IsSomeAnd}
use Rattle.block_file.specs.FileView.{gate_of}
use Rattle.ledger_disk.specs.Disk.{KeepsLength}
use Rattle.ledger_open.specs.Ahead.{WereRead, place_behind, journals_in, blocks_in}
use Rattle.ledger_open.specs.declared.ahead.Hashed.{Hashed}
use Rattle.ledger_open.proofs.ahead.read_ahead.Given as goal

abbrev pub invariant-loop-alloc : goal.invariant-loop-alloc
invariant-loop-alloc g l =
    let state = g.D.Disk.state in
    record {
      read : WereRead g.D.Disk.tells (state l.fn.disk).bytes.seen (gate_of l.fn.file) l.fn.first (blocks_in l.blocks.items);
      place : gate_of l.file ≡ place_behind (gate_of l.fn.file) (blocks_in l.blocks.items);
      counted : l.count ≡ journals_in (blocks_in l.blocks.items);
      some : length l.blocks.items ≡ 0 → l.count ≡ 0;
      room : l.count < 2 ^ 33;
      sizes : All (λ (h : Hashed). vec_len h.leaves ≡ length h.block.records) l.blocks.items;
      told : IsSomeAnd (g.D.Disk.state l.disk).told (λ n. gate_of l.file + 1 ≤ n);
      keeps : KeepsLength (g.D.Disk.state l.fn.disk).told (g.D.Disk.state l.disk).told;
      same : IsTrue g.D.Disk.tells → (state l.disk).bytes ≡ (state l.fn.disk).bytes;
      faults : (g.D.Disk.state l.disk).faults ≡ (g.D.Disk.state l.fn.disk).faults;
    }

abbrev pub decreases-loop-alloc : goal.decreases-loop-alloc
decreases-loop-alloc g l = 256 - length l.blocks.items

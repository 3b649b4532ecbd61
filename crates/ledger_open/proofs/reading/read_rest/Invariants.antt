use Rattle.std.proofs.Common.{◌≡◌, ◌+◌, ◌-◌, ◌^◌, ◌≤◌}
use Rattle.std.specs.Prelude.{IsTrue, IsSomeAnd}
use Rattle.block_file.specs.FileView.{gate_of}
use Rattle.ledger_disk.specs.Disk.{KeepsLength}
use Rattle.ledger_open.specs.Ahead.{AreNextBlocks}
use Rattle.ledger_open.proofs.AheadLaws.{more_after}
use Rattle.ledger_open.proofs.reading.read_rest.Given as goal

abbrev pub invariant-loop-alloc : goal.invariant-loop-alloc
invariant-loop-alloc g l =
    let state = g.D.Disk.state in
    record {
      ahead : AreNextBlocks g.D.Disk.tells (state l.fn.disk).bytes.seen l.read.book l.read.places.list l.ahead (gate_of l.file);
      limits : l.read.book.limits ≡ l.fn.read.book.limits;
      told : IsSomeAnd (g.D.Disk.state l.disk).told (λ n. gate_of l.file + 1 ≤ n);
      keeps : KeepsLength (g.D.Disk.state l.fn.disk).told (g.D.Disk.state l.disk).told;
      same : IsTrue g.D.Disk.tells → (state l.disk).bytes ≡ (state l.fn.disk).bytes;
      faults : (g.D.Disk.state l.disk).faults ≡ (g.D.Disk.state l.fn.disk).faults;
    }

abbrev pub decreases-loop-alloc : goal.decreases-loop-alloc
decreases-loop-alloc g l = 2 ^ 62 - gate_of l.file + more_after l.ahead.stop

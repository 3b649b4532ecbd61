use Rattle.std.proofs.Common.{◌≡◌, ◌+◌, ◌*◌, ◌≤◌, ◌++◌, drop, length}
use Rattle.std.specs.Prelude.{IsTrue, Some, max}
use Rattle.time_peg.specs.Entries.{IsList}
use Rattle.notary_ledger.specs.Slots.{opened}
use Rattle.notary_ledger.proofs.open.read_slots.Given as goal

abbrev pub invariant-loop-index : goal.invariant-loop-index
invariant-loop-index g l =
    let state = g.D.Disk.state in
    let file = (state l.fn.disk).bytes.seen in
    record {
      count : length l.list.entries ≡ l.index;
      list : IsList l.list.entries;
      within : 73 * length l.list.entries + 1 ≤ max 1 l.len;
      seen : IsTrue g.D.Disk.tells → file ≡ opened l.list.entries ++ drop (73 * length l.list.entries) file;
      same : IsTrue g.D.Disk.tells → (state l.disk).bytes ≡ (state l.fn.disk).bytes;
      told : (state l.disk).told ≡ Some l.len;
      faults : (state l.disk).faults ≡ (state l.fn.disk).faults;
    }

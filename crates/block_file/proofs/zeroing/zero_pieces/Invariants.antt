use Rattle.std.proofs.Common.{◌≡◌, ◌-◌, ◌≤◌, replicate}
use Rattle.std.specs.Prelude.{IsTrue}
use Rattle.ledger_disk.specs.Disk.{overlay, KeepsLength}
use Rattle.ledger_disk.specs.Guards.{Outside, Confined}
use Rattle.block_file.specs.Changes.{ChangesWithin}
use Rattle.block_file.specs.File.{IsSettled, IsZeros}
use Rattle.block_file.proofs.zeroing.zero_pieces.Given as goal

abbrev pub invariant-loop-done : goal.invariant-loop-done
invariant-loop-done g l =
    let state = g.D.Disk.state in
    record {
      within : l.done ≤ l.len;
      length : KeepsLength (g.D.Disk.state l.fn.disk).told (g.D.Disk.state l.disk).told;
      seen : IsTrue g.D.Disk.tells → (state l.disk).bytes.seen ≡ overlay l.at (replicate l.done 0) (state l.fn.disk).bytes.seen;
      outside : IsTrue g.D.Disk.tells → Outside l.at l.len (state l.fn.disk).bytes.seen (state l.disk).bytes.seen;
      confined : IsTrue g.D.Disk.tells → IsSettled (state l.fn.disk).bytes → Confined l.at l.len (state l.fn.disk).bytes.seen (state l.disk).bytes;
      changes : IsTrue g.D.Disk.tells → ChangesWithin l.at l.len (state l.fn.disk).bytes (state l.disk).bytes;
      idle : IsTrue g.D.Disk.tells → IsZeros l.at l.len (state l.fn.disk).bytes.seen → (state l.disk).bytes ≡ (state l.fn.disk).bytes;
      faults : (g.D.Disk.state l.disk).faults ≡ (g.D.Disk.state l.fn.disk).faults;
    }

abbrev pub decreases-loop-done : goal.decreases-loop-done
decreases-loop-done g l = l.len - l.done

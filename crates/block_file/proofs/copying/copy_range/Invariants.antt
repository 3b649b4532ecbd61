use Rattle.std.proofs.Common.{◌≡◌, ◌+◌, ◌-◌, ◌≤◌, take, drop, length, List, ℕ}
use Rattle.std.specs.Prelude.{IsTrue, IsSomeAnd}
use Rattle.ledger_disk.specs.Disk.{overlay, KeepsLength}
use Rattle.ledger_disk.specs.Guards.{Guards}
use Rattle.block_file.proofs.copying.copy_range.Given as goal

abbrev pub invariant-loop-done : goal.invariant-loop-done
invariant-loop-done g l =
    let state = g.D.Disk.state in
    record {
      within : l.done ≤ l.len;
      from : IsSomeAnd (g.D.Disk.state l.from).told (λ m. l.at + l.len ≤ m);
      keeps : KeepsLength (g.D.Disk.state l.fn.from).told (g.D.Disk.state l.from).told;
      to : IsSomeAnd (g.D.Disk.state l.to).told (λ m. l.place + l.done ≤ m);
      seen : IsTrue g.D.Disk.tells → (state l.to).bytes.seen ≡ overlay l.place (take l.done (drop l.at (state l.fn.from).bytes.seen)) (state l.fn.to).bytes.seen;
      guards : IsTrue g.D.Disk.tells → (front : List ℕ) → Guards (state l.fn.to).bytes front → length front ≤ l.place → Guards (state l.to).bytes front;
      same : IsTrue g.D.Disk.tells → (state l.from).bytes ≡ (state l.fn.from).bytes;
      faults_from : (g.D.Disk.state l.from).faults ≡ (g.D.Disk.state l.fn.from).faults;
      faults_to : (g.D.Disk.state l.to).faults ≡ (g.D.Disk.state l.fn.to).faults;
    }

abbrev pub decreases-loop-done : goal.decreases-loop-done
decreases-loop-done g l = l.len - l.done

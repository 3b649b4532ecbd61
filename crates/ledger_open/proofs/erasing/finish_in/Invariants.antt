use Rattle.std.proofs.Common.{◌≡◌}
use Rattle.std.specs.Prelude.{IsTrue}
use Rattle.ledger_disk.specs.Disk.{KeepsLength}
use Rattle.ledger_open.proofs.ZeroingLaws.{WroteTo}
use Rattle.ledger_open.proofs.erasing.finish_in.Given as goal

abbrev pub invariant-loop-index : goal.invariant-loop-index
invariant-loop-index g l =
    let state = g.D.Disk.state in
    record {
      wrote : IsTrue g.D.Disk.tells → WroteTo l.fn.book l.fn.places.list l.index l.given_up (state l.fn.disk).bytes (state l.disk).bytes;
      same : l.file ≡ l.fn.file;
      keeps : KeepsLength (state l.fn.disk).told (state l.disk).told;
      faults : (state l.disk).faults ≡ (state l.fn.disk).faults;
    }

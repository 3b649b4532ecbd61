-- What reading a journal from the open file asks for and leaves.
use Rattle.std.specs.Prelude.{◌≡◌, ℕ, Bool}
use Rattle.ledger_bytes.specs.Causes.{count_after}
use Rattle.ledger_open.specs.Pieces.{WasOnlyRead}
use Rattle.ledger_open.specs.declared.pieces.PieceErr.{PieceErr}
use Rattle.ledger_open.specs.declared.pieces.PieceErr.TheVariants as pieces
use Rattle.batch_committer.specs.World.{Pair, OneFailed}
use Rattle.batch_committer.specs.declared.failure.CommitErr.{CommitErr}
use Rattle.batch_committer.specs.declared.failure.CommitErr.TheVariants.{DiskFault, WriteFault, NoMemory, Closed}

-- why a piece isn't read, as the end of a run
abbrev pub end_of_piece : PieceErr → CommitErr
end_of_piece pieces.DiskFault = DiskFault
end_of_piece pieces.NoMemory = NoMemory

-- why a reading ended the run: the disk failed, which is counted; or memory was short, and none did
abbrev pub ReadEnds : CommitErr → ℕ → ℕ → Type 0
ReadEnds DiskFault old new = new ≡ count_after old
ReadEnds WriteFault old new = ⊥
ReadEnds NoMemory old new = new ≡ old
ReadEnds Closed old new = ⊥

-- two disks of which at most one was read
pub record WereRead (tells : Bool) (old new : Pair) : Type 0 where
  pub a : WasOnlyRead tells old.a new.a
  pub b : WasOnlyRead tells old.b new.b

-- no call of the two disks failed
abbrev pub NoneFailed : Pair → Pair → Type 0
NoneFailed old new = (new.a.faults ≡ old.a.faults) × (new.b.faults ≡ old.b.faults)

-- why the reading of one of two disks ended the run: it failed, which is counted; or memory was short, and none did
abbrev pub ReadingEnds : CommitErr → Pair → Pair → Type 0
ReadingEnds DiskFault old new = OneFailed old new
ReadingEnds WriteFault old new = ⊥
ReadingEnds NoMemory old new = NoneFailed old new
ReadingEnds Closed old new = ⊥

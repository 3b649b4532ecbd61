-- What reading a journal's pieces from the open file asks for and leaves.
use Rattle.std.specs.Prelude.{◌≡◌, ℕ, Bool, IsTrue, List}
use Rattle.block_file.specs.declared.place.PlaceAt.{PlaceAt}
use Rattle.ledger_book.specs.Books.{Kept}
use Rattle.ledger_bytes.specs.Causes.{count_after}
use Rattle.ledger_disk.specs.Disk.{DiskState, KeepsLength}
use Rattle.ledger_model.specs.History.{History, point}
use Rattle.ledger_open.specs.Erasing.{EndsAs}
use Rattle.ledger_open.specs.Standing.{IsErased}
use Rattle.ledger_open.specs.declared.pieces.PieceErr.{PieceErr}
use Rattle.ledger_open.specs.declared.pieces.PieceErr.TheVariants.{DiskFault, NoMemory}

-- The book and the places are those of this history, of which no journal waits, and the file has it from the point on, where all
-- that is hidden is gone.
pub record IsReadAs (book : Kept) (places : List PlaceAt) (file : List ℕ) (h : History) : Type 0 where
  pub ends : EndsAs book places h
  pub floor : book.floor ≡ point h
  pub erased : IsErased file h

-- a disk was read: its bytes, and what may be left of them, are the same, and so is the length that it told
pub record WasOnlyRead (tells : Bool) (old new : DiskState) : Type 0 where
  pub bytes : IsTrue tells → new.bytes ≡ old.bytes
  pub told : KeepsLength old.told new.told

-- why a piece isn't read: the disk failed, which is counted; or memory was short, and it didn't
abbrev pub PieceEnds : PieceErr → ℕ → ℕ → Type 0
PieceEnds DiskFault old new = new ≡ count_after old
PieceEnds NoMemory old new = new ≡ old

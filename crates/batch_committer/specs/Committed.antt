-- What committing the blocks of a group does to the two disks, and what giving up does what the last journal hides or purges.
use Rattle.std.specs.Prelude.{◌≡◌, ◌⊎◌, ℕ, ◌+◌, ◌≤◌, Bool, IsTrue, IsSomeAnd, List, [], ◌++◌, length, take}
use Rattle.block_file.specs.File.{IsFileOf, tail_of, IsSettled, IsGroupOf, HasGroup}
use Rattle.block_file.specs.Head.{version_in}
use Rattle.ledger_disk.specs.Disk.{State, MayLeave, settled_state}
use Rattle.ledger_model.specs.History.{History}
use Rattle.ledger_open.specs.Purging.{Ledger, ledger_at, open_disk, other_disk, StandsOpen, IsCleanOpen, IsAtGate}
use Rattle.ledger_open.specs.Standing.{PairOpen}
use Rattle.ledger_open.specs.Places.{AreInOrder}
use Rattle.ledger_open.specs.declared.opened.Opened.{Opened}
use Rattle.twin_file.specs.Twin.{open_of, other_of}
use Rattle.batch_committer.specs.World.{Pair, ReadsAsLeft, OneFailed}

-- the contents of the file that is open
abbrev pub open_bytes : Bool → Pair → State
open_bytes in_a disks = open_of in_a disks.a.bytes disks.b.bytes

-- the contents of the file that isn't open
abbrev pub other_bytes : Bool → Pair → State
other_bytes in_a disks = other_of in_a disks.a.bytes disks.b.bytes

-- the open file has the blocks of the group with these bytes behind the gate at this place, for good, and no disk failed
pub record IsCommitted (tells : Bool) (in_a : Bool) (place : ℕ) (bytes : List ℕ) (before after : Pair) : Type 0 where
  pub has : IsTrue tells → (group : List (List ℕ)) → IsGroupOf group bytes → (front : List ℕ) (blocks : List (List ℕ))
      → IsFileOf front blocks (open_bytes in_a before).seen → tail_of front blocks ≡ place → HasGroup front blocks group (open_bytes in_a after)
  pub ends : IsTrue tells → length (open_bytes in_a before).seen ≡ place + 1
      → length (open_bytes in_a after).seen ≡ place + 1 + length bytes + 1
  pub reads : ReadsAsLeft tells (place + 1 + length bytes) (open_of in_a after.a after.b)
  pub head : IsTrue tells → take 64 (open_bytes in_a after).seen ≡ take 64 (open_bytes in_a before).seen
  pub other : other_bytes in_a after ≡ other_bytes in_a before
  pub faults_a : after.a.faults ≡ before.a.faults
  pub faults_b : after.b.faults ≡ before.b.faults

-- each image of a file has all blocks of the group with these bytes behind the gate at this place, or none
abbrev pub AllOrNone : Bool → ℕ → List ℕ → State → State → Type 0
AllOrNone tells place bytes old new =
    IsTrue tells → (group : List (List ℕ)) → IsGroupOf group bytes → IsSettled old
    → (front : List ℕ) (blocks : List (List ℕ)) → IsFileOf front blocks old.seen → tail_of front blocks ≡ place
    → (image : List ℕ) → MayLeave new image → IsFileOf front blocks image ⊎ IsFileOf front (blocks ++ group) image

-- the open file's disk failed in a commit
pub record IsUncommitted (tells : Bool) (in_a : Bool) (place : ℕ) (bytes : List ℕ) (before after : Pair) : Type 0 where
  pub may : AllOrNone tells place bytes (open_bytes in_a before) (open_bytes in_a after)
  pub other : other_bytes in_a after ≡ other_bytes in_a before
  pub failed : OneFailed before after

-- ---- what the last journal hides or purges is given up

-- an open ledger with what these two disks hold
abbrev pub ledger_on : Opened → Pair → Ledger
ledger_on opened disks = ledger_at opened disks.a.bytes disks.b.bytes

-- Nothing is pending, and the book, the places and the files stand for this history, as far as its last journal leaves something
-- undone: the open file has the second version and ends with its tail gate, and the other one is empty.
pub record IsStanding (l : Ledger) (h : History) : Type 0 where
  pub stands : StandsOpen l h
  pub newer : version_in (open_disk l).seen ≡ 2
  pub ends : length (open_disk l).seen ≡ l.known.gate + 1
  pub empty : other_disk l ≡ settled_state []

-- What the last journal hides or purges is gone, for good, and no disk failed. Whatever the history is, the open file reads
-- as the calls leave it, and the book has as many journals as before.
pub record IsFinished (tells : Bool) (old new : Ledger) (before after : Pair) : Type 0 where
  pub clean : IsTrue tells → (h : History) → IsStanding old h → IsCleanOpen new h
  pub gate : IsTrue tells → IsAtGate old → IsAtGate new
  pub told : IsSomeAnd (open_of new.in_a after.a after.b).told (λ n. new.known.gate + 1 ≤ n)
  pub order : AreInOrder 64 old.known.gate old.known.places → AreInOrder 64 new.known.gate new.known.places
  pub limits : new.known.book.limits ≡ old.known.book.limits
  pub size : new.known.book.size ≡ old.known.book.size
  pub sealed : new.known.book.sealed ≡ old.known.book.sealed
  pub faults_a : after.a.faults ≡ before.a.faults
  pub faults_b : after.b.faults ≡ before.b.faults

-- a disk failed while something was given up: each pair of images stands for the history still
pub record IsUnfinished (tells : Bool) (old : Ledger) (before after : Pair) : Type 0 where
  pub meanwhile : IsTrue tells → (h : History) → IsStanding old h
      → (image_a image_b : List ℕ) → MayLeave after.a.bytes image_a → MayLeave after.b.bytes image_b → PairOpen image_a image_b h
  pub failed : OneFailed before after

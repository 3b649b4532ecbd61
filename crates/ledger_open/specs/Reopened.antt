-- What opening a ledger again leaves.
use Rattle.std.specs.Prelude.{◌≡◌, ◌⊎◌, ℕ, ◌+◌, ◌<◌, Bool, IsTrue, not, List, [], ◌++◌, length, take, Option, Some, None}
use Rattle.block_file.specs.File.{IsSettled, IsShutAt, IsFileOf, tail_of}
use Rattle.block_file.specs.Head.{generation_of}
use Rattle.journal_record.specs.Blocks.{AreBlocks}
use Rattle.journal_record.specs.Entry.{Entry}
use Rattle.ledger_book.specs.Books.{Serves}
use Rattle.ledger_disk.specs.Disk.{State, MayLeave, settled_state}
use Rattle.ledger_model.specs.History.{History, journals_of, greatest_point}
use Rattle.pseudo_genesis.specs.Bases.{HasCounts, base_spelling}
use Rattle.pseudo_genesis.specs.declared.base.Base.{Base}
use Rattle.twin_file.specs.Twin.{open_of, other_of, IsTaken, next_generation}
use Rattle.ledger_open.specs.Carrying.{StaysNewer, WasCarried}
use Rattle.ledger_open.specs.Erasing.{ErasesSome, given_up}
use Rattle.ledger_open.specs.Heads.{Edition, edition_of}
use Rattle.ledger_open.specs.Opening.{Known, Knows, GoesOn, HasFile, AreUnchanged}
use Rattle.ledger_open.specs.Places.{places_from}
use Rattle.ledger_open.specs.Cutting.{gate_behind}
use Rattle.ledger_open.specs.Purging.{Ledger, open_disk, copied_file}
use Rattle.ledger_open.specs.Standing.{floor_from, PairFor, IsCleanPair}
use Rattle.block_file.specs.declared.place.PlaceAt.{PlaceAt}

-- ---- what is known afterwards

-- What is known of a ledger that is open. Where its file begins with journal 0, the book is one of each history that begins
-- with these blocks. The places are theirs, and the next gate stands behind them. No journal waits.
pub record Remembers (k : Known) (start : Option Base) (blocks : List (List Entry)) : Type 0 where
  pub serves : start ≡ None → (h : History) → GoesOn start blocks h → Serves k.book h
  pub lawful : AreBlocks (floor_from start).first blocks
  pub floor : k.book.floor ≡ (floor_from start).first
  pub places : k.places ≡ places_from (floor_from start) blocks
  pub tail : k.gate ≡ gate_behind (floor_from start) blocks
  pub settled : k.book.size ≡ k.book.sealed

-- ---- what becomes of the file that was read

-- which of two files is open, the base that it begins with, or none, its blocks, and where its tail gate stands
pub record OpenFile : Type 0 where
  pub in_a : Bool
  pub start : Option Base
  pub blocks : List (List Entry)
  pub gate : ℕ

-- the open file that is this one of two, with this base, or none, and these blocks, where its tail gate stands here
abbrev pub open_file : Bool → Option Base → List (List Entry) → ℕ → OpenFile
open_file in_a start blocks gate = record { in_a = in_a; start = start; blocks = blocks; gate = gate }

-- this file was taken of two and read: it has its base and its blocks, and what was known of them ends at its tail gate
pub record WasRead (file : OpenFile) (a b : State) : Type 0 where
  pub taken : IsTaken file.in_a a.seen b.seen
  pub has : HasFile file.start file.blocks (open_of file.in_a a b).seen
  pub known : Known
  pub knows : Knows known file.start file.blocks
  pub tail : known.gate ≡ file.gate

-- one of two files is taken, which has this edition, and nothing is pending
pub record IsHere (in_a : Bool) (edition : Edition) (a b : State) : Type 0 where
  pub taken : IsTaken in_a a.seen b.seen
  pub quiet_a : IsSettled a
  pub quiet_b : IsSettled b
  pub edition_is : edition ≡ edition_of (open_of in_a a b).seen

-- An open ledger was read, and nothing was written to its files. Where the disks tell their bytes, the open one has these blocks.
pub record WasReadHere (tells : Bool) (l : Ledger) : Type 0 where
  pub start : Option Base
  pub blocks : List (List Entry)
  pub knows : Knows l.known start blocks
  pub has : IsTrue tells → HasFile start blocks (open_disk l).seen
  pub here : IsTrue tells → IsHere l.in_a l.edition l.a l.b

-- A file was cut behind its tail gate, and zeros stand in it for what the last journal hides and none before it does.
pub record IsCutAndErased (was : OpenFile) (places : List PlaceAt) (old new : List ℕ) : Type 0 where
  pub some : ErasesSome places (take (was.gate + 1) old) new
  pub hidden : (h : History) → GoesOn was.start was.blocks h → new ≡ given_up h (floor_from was.start) was.blocks (take (was.gate + 1) old)

-- the point of these blocks is where they begin: no purge is left undone
abbrev pub IsAtPoint : Option Base → List (List Entry) → Type 0
IsAtPoint start blocks = greatest_point (journals_of blocks) ≡ (floor_from start).first

-- the file that was read stays the open one, with these bytes, since no purge was left undone
pub record StaysOpen (was now : OpenFile) (bytes : List ℕ) (a_new b_new : State) : Type 0 where
  pub same : now ≡ was
  pub at_point : IsAtPoint was.start was.blocks
  pub open_is : open_of now.in_a a_new b_new ≡ settled_state bytes

-- A purge was finished: what the file of this generation and these bytes has from the point on was copied into the other one,
-- behind a base there. The blocks in front fell away.
pub record WasMoved (was now : OpenFile) (generation : ℕ) (bytes : List ℕ) (a_new b_new : State) : Type 0 where
  pub other : now.in_a ≡ not was.in_a
  pub front : List (List Entry)
  pub are : was.blocks ≡ front ++ now.blocks
  pub base : Base
  pub start_is : now.start ≡ Some base
  pub counts : HasCounts base
  pub point : base.point ≡ greatest_point (journals_of was.blocks)
  pub before : (floor_from was.start).first < base.point
  pub at : (floor_from was.start).first + length (journals_of front) ≡ base.point
  pub open_is : open_of now.in_a a_new b_new
      ≡ settled_state (copied_file (next_generation generation) (base_spelling base) (gate_behind (floor_from was.start) front) was.gate bytes)

-- What a crash left undone in a pair was done. Which file was taken and read; it was cut and erased; each history that goes on
-- with its blocks goes on with those that are known now, and the book is one of it; and what the open file is. The other file
-- is empty, and nothing is pending.
pub record IsMended (in_a : Bool) (k : Known) (start : Option Base) (blocks : List (List Entry)) (a b a_new b_new : State) : Type 0 where
  pub was : OpenFile
  pub read : WasRead was a b
  pub bytes : List ℕ
  pub erased : IsCutAndErased was read.known.places (open_of was.in_a a b).seen bytes
  pub goes : (h : History) → GoesOn was.start was.blocks h → GoesOn start blocks h
  pub serves : (h : History) → GoesOn was.start was.blocks h → Serves k.book h
  pub left : StaysOpen was (open_file in_a start blocks k.gate) bytes a_new b_new
      ⊎ WasMoved was (open_file in_a start blocks k.gate) (generation_of (open_of was.in_a a b).seen) bytes a_new b_new
  pub other_is : other_of in_a a_new b_new ≡ settled_state []

-- some blocks are known; and where the disks tell their bytes, the pair was mended as these
abbrev pub KnowsMended : Bool → Bool → Known → State → State → State → State → Type 0
KnowsMended tells in_a k a b a_new b_new =
    (start : Option Base) × (blocks : List (List Entry)) × Remembers k start blocks
    × (IsTrue tells → IsMended in_a k start blocks a b a_new b_new)

-- A pair was opened: first what a crash left undone was done, which comes to a pair of which nothing is pending; then a file of
-- the first version was carried over, and one of the second stayed as it was. `an_opened_book_stands_for_the_history` and
-- `an_opened_pair_is_clean` say what follows for a pair that stood for a history.
pub record IsReopened (in_a : Bool) (k : Known) (start : Option Base) (blocks : List (List Entry)) (a b a_new b_new : State) : Type 0 where
  pub in_a_then : Bool
  pub a_then : State
  pub b_then : State
  pub mended : IsMended in_a_then k start blocks a b a_then b_then
  pub left : StaysNewer in_a_then in_a a_then b_then a_new b_new ⊎ WasCarried in_a_then in_a a_then b_then a_new b_new

-- some blocks are known; and where the disks tell their bytes, the pair was reopened as these
abbrev pub KnowsReopened : Bool → Bool → Known → State → State → State → State → Type 0
KnowsReopened tells in_a k a b a_new b_new =
    (start : Option Base) × (blocks : List (List Entry)) × Remembers k start blocks
    × (IsTrue tells → IsReopened in_a k start blocks a b a_new b_new)

-- Nothing is pending, the open file ends with its tail gate, which stands at this place, and the other file is empty.
pub record IsTidyAt (in_a : Bool) (place : ℕ) (a b : State) : Type 0 where
  pub quiet : IsSettled (open_of in_a a b)
  pub empty : other_of in_a a b ≡ settled_state []
  pub shut : IsShutAt place (open_of in_a a b).seen
  pub ends : length (open_of in_a a b).seen ≡ place + 1

-- ---- what a crash leaves meanwhile

-- every pair of images stands for what the pair stood for
abbrev pub PairStandsStill : State → State → State → State → Type 0
PairStandsStill a b a_new b_new =
    (h : History) → PairFor a.seen b.seen h
    → (image_a image_b : List ℕ) → MayLeave a_new image_a → MayLeave b_new image_b → PairFor image_a image_b h

-- a pair that was clean, and of which nothing was pending, is the same
abbrev pub IsCleanStill : State → State → State → State → Type 0
IsCleanStill a b a_new b_new = IsSettled a → IsSettled b → (h : History) → IsCleanPair a.seen b.seen h → AreUnchanged a b a_new b_new

-- every image of a file that is being cut behind its tail gate, which stands at this place, has the blocks that it had
abbrev pub StandsTrimmed : ℕ → State → State → Type 0
StandsTrimmed place old new =
    IsSettled old → (front : List ℕ) (blocks : List (List ℕ)) → IsFileOf front blocks old.seen → tail_of front blocks ≡ place
    → (image : List ℕ) → MayLeave new image → IsFileOf front blocks image

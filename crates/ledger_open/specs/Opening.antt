-- What is known of a ledger that was made or opened, and what making and opening leave.
use Rattle.std.specs.Prelude.{◌≡◌, ◌⊎◌, ℕ, ◌+◌, Bool, false, IsTrue, List, [], length, take, drop, Option, Result, Err, MatchResult}
use Rattle.block_file.specs.File.{IsSettled}
use Rattle.block_file.specs.Head.{IsShut, HasHead, number_at}
use Rattle.block_file.specs.FileView.{base_len_of, base_digest_of, gate_of, HasTail}
use Rattle.block_file.specs.declared.file.BlockFile.{BlockFile}
use Rattle.block_file.specs.declared.failure.FileErr.{FileErr}
use Rattle.block_file.specs.declared.failure.FileErr.TheVariants as files
use Rattle.journal_record.specs.Blocks.{AreBlocks}
use Rattle.journal_record.specs.Entry.{Entry}
use Rattle.ledger_book.specs.Books.{Kept, Serves}
use Rattle.ledger_bytes.specs.Causes.{count_after}
use Rattle.ledger_disk.specs.Disk.{State, DiskState, OneMore, settled_state}
use Rattle.ledger_model.specs.History.{History, journals_of, greatest_point}
use Rattle.ledger_model.specs.Lawful.{IsLawful}
use Rattle.ledger_model.specs.Targets.{is_hidden}
use Rattle.pseudo_genesis.specs.declared.base.Base.{Base}
use Rattle.twin_file.specs.Twin.{open_of, IsTaken, IsReopenErr}
use Rattle.twin_file.specs.Which.{in_a_of, file_of}
use Rattle.twin_file.specs.declared.twin.Twin.{Twin}
use Rattle.ledger_open.specs.Damages.{IsDamage, IsReadTo}
use Rattle.block_file.specs.Places.{places_at, after_at}
use Rattle.ledger_open.specs.Heads.{Edition}
use Rattle.ledger_open.specs.Starts.{IsDecoded, IsBaseOf, AreLegal, HasOwnPurge}
use Rattle.ledger_open.specs.Standing.{floor_from, HasBlocks, Parts, SameButHidden}
use Rattle.ledger_open.specs.Replaying.{Goes}
use Rattle.ledger_open.specs.declared.failure.OpenErr.{OpenErr}
use Rattle.ledger_open.specs.declared.opened.Opened.{Opened}
use Rattle.block_file.specs.declared.place.PlaceAt.{PlaceAt}
use Rattle.ledger_open.specs.declared.failure.OpenErr.TheVariants.{DiskFault, Damaged, Empty, Exists, NewerFormat, NoMemory}

-- ---- what is known, whatever the disks tell

-- what a book keeps, the places of journals, and where the next gate stands
pub record Known : Type 0 where
  pub book : Kept
  pub places : List PlaceAt
  pub gate : ℕ

-- what is known by this book and these places, where the next gate stands here
abbrev pub known_from : Kept → List PlaceAt → ℕ → Known
known_from book places gate = record { book = book; places = places; gate = gate }

-- what is known of a ledger that is open
abbrev pub known_in : Opened → Known
known_in opened = known_from opened.book opened.places.list (gate_of (file_of opened.twin))

-- This history goes on from the base, or begins, with these blocks, but for contents that are hidden: it is one of those
-- that a file with this base and these blocks may be of.
-- Example: with the blocks [3] [4] behind a base at journal 3 go on all lawful histories that have this base there and then
-- these two blocks, whatever their journals 0 to 2 are. With the blocks [0] [1 2] and no base there is one, but for the
-- bytes of what is hidden.
pub record GoesOn (start : Option Base) (blocks : List (List Entry)) (h : History) : Type 0 where
  pub lawful : IsLawful h
  pub none : h.waiting ≡ []
  pub parts : Parts (floor_from start).first h
  pub base : IsBaseOf start h
  pub same : SameButHidden (is_hidden h) (λ n. false) parts.kept blocks

-- What is known is that of this base, or of none, and of these blocks, for each history that goes on so; the purge to the
-- base's point was read among them. No disk is in it.
pub record Knows (k : Known) (start : Option Base) (blocks : List (List Entry)) : Type 0 where
  pub base : IsDecoded start
  pub legal : AreLegal start blocks
  pub reached : HasOwnPurge start (journals_of blocks)
  pub lawful : AreBlocks (floor_from start).first blocks
  pub serves : (h : History) → GoesOn start blocks h → Serves k.book h
  pub floor : k.book.floor ≡ (floor_from start).first
  pub point : k.book.point ≡ greatest_point (journals_of blocks)
  pub places : k.places ≡ places_at (64 + length (floor_from start).base) blocks
  pub tail : k.gate ≡ after_at (64 + length (floor_from start).base) blocks
  pub size : k.book.size ≡ (floor_from start).first + length (journals_of blocks)
  -- no journal waits
  pub settled : k.book.size ≡ k.book.sealed

-- ---- what was read

-- What was taken so far is that of this base, or of none, and of these blocks, whether the purge to the base's point was met
-- or not. No disk is in it.
pub record HasTaken (k : Known) (start : Option Base) (blocks : List (List Entry)) : Type 0 where
  pub legal : AreLegal start blocks
  pub lawful : AreBlocks (floor_from start).first blocks
  pub goes : Goes k.book start blocks []
  pub places : k.places ≡ places_at (64 + length (floor_from start).base) blocks
  pub tail : k.gate ≡ after_at (64 + length (floor_from start).base) blocks
  pub settled : k.book.size ≡ k.book.sealed

-- some blocks were taken; and where the disk tells its bytes, the file begins with them
pub record HasRead (tells : Bool) (file : List ℕ) (k : Known) : Type 0 where
  pub start : Option Base
  pub blocks : List (List Entry)
  pub taken : HasTaken k start blocks
  pub begun : IsTrue tells → IsReadTo file start blocks k.gate

-- An open file has this base, or none, and lawful blocks, of some edition, and so no damage: none of its journals is
-- missing or wrong.
pub record HasWhole (file : List ℕ) (start : Option Base) (blocks : List (List Entry)) : Type 0 where
  pub edition : Edition
  pub has : HasBlocks (floor_from start) edition blocks file
  pub base : IsDecoded start
  pub legal : AreLegal start blocks
  pub reached : HasOwnPurge start (journals_of blocks)

-- an open file has some base, or none, and lawful blocks, and so no damage
abbrev pub HasLawfulBlocks : List ℕ → Type 0
HasLawfulBlocks file = (start : Option Base) × (blocks : List (List Entry)) × HasWhole file start blocks

-- an open file has this base, or none, and these blocks, of some edition
abbrev pub HasFile : Option Base → List (List Entry) → List ℕ → Type 0
HasFile start blocks file = (edition : Edition) × HasBlocks (floor_from start) edition blocks file

-- some blocks are known; and where the disk tells its bytes, the file has them
pub record HasKnown (tells : Bool) (file : List ℕ) (k : Known) : Type 0 where
  pub start : Option Base
  pub blocks : List (List Entry)
  pub knows : Knows k start blocks
  pub has : IsTrue tells → HasFile start blocks file

-- what a `BlockFile` tells of the head of this file, which is open and known
pub record IsHeadOf (file : List ℕ) (taken : BlockFile) : Type 0 where
  pub head : HasHead file
  pub base_len : base_len_of taken ≡ number_at 18 file
  pub base_digest : base_digest_of taken ≡ take 32 (drop 26 file)

-- ---- answers

-- an error of a file as opening a ledger hands it on
abbrev pub as_open : FileErr → OpenErr
as_open files.DiskFault = DiskFault
as_open (files.Damaged damage) = Damaged damage
as_open (files.NewerFormat found) = NewerFormat found
as_open files.NoMemory = NoMemory

-- an error whose cause isn't in the files: a fault of a disk, or want of memory
abbrev pub IsOutside : OpenErr → Type 0
IsOutside DiskFault = Unit {0}
IsOutside NoMemory = Unit {0}
IsOutside (Damaged damage) = ⊥
IsOutside Empty = ⊥
IsOutside Exists = ⊥
IsOutside (NewerFormat found) = ⊥

-- why an open file is read no further: a fault of its disk, want of memory, or a damage
abbrev pub IsReadErr : List ℕ → OpenErr → Type 0
IsReadErr file DiskFault = Unit {0}
IsReadErr file NoMemory = Unit {0}
IsReadErr file (Damaged damage) = IsDamage file damage
IsReadErr file Empty = ⊥
IsReadErr file Exists = ⊥
IsReadErr file (NewerFormat found) = ⊥

-- what goes with an error: the first where a fault of a disk is told, and the second at every other one
abbrev pub ByFault : OpenErr → Type 0 → Type 0 → Type 0
ByFault DiskFault failed sound = failed
ByFault NoMemory failed sound = sound
ByFault (Damaged damage) failed sound = sound
ByFault Empty failed sound = sound
ByFault Exists failed sound = sound
ByFault (NewerFormat found) failed sound = sound

-- a disk's count of failures goes with an error: one more where that is a fault, and the same at every other one
abbrev pub CountsErr : OpenErr → ℕ → ℕ → Type 0
CountsErr e old new = ByFault e (new ≡ count_after old) (new ≡ old)

-- a disk's count of failures goes with an answer: one more exactly where a fault is answered
abbrev pub CountsRead : {T : Type 0} → Result T OpenErr → ℕ → ℕ → Type 0
CountsRead result old new = MatchResult result (λ _. new ≡ old) (λ e. CountsErr e old new)

-- the counts of two disks go with an error: one of them is one more where that is a fault, and both stay at every other one
abbrev pub CountsTwoErr : OpenErr → ℕ → ℕ → ℕ → ℕ → Type 0
CountsTwoErr e x1 x2 y1 y2 = ByFault e (OneMore x1 x2 y1 y2) ((x2 ≡ x1) × (y2 ≡ y1))

-- the counts of two disks go with an answer: one of them is one more exactly where a fault is answered
abbrev pub CountsOpen : {T : Type 0} → Result T OpenErr → ℕ → ℕ → ℕ → ℕ → Type 0
CountsOpen result x1 x2 y1 y2 = MatchResult result (λ _. (x2 ≡ x1) × (y2 ≡ y1)) (λ e. CountsTwoErr e x1 x2 y1 y2)

-- Why a pair of files isn't opened. What is wrong is looked for in this order: 1. The head of a. 2. The head of b
-- (`IsReopenErr`, where the other file is shut or has a known head). 3. Both are shut: `Empty`. 4. The length of the base of
-- the file that is taken. 5. All that stands behind its head (`IsDamage`). A fault of a disk and want of memory may come at
-- any time. But for these a pair has one cause at most (`a_pair_has_one_cause_of_refusal`), and none where it stands for a
-- history (`a_standing_pair_opens`).
-- Example: a has no bytes, and b is open with the magic and version 3: `NewerFormat 3`. Or both heads are known, of
-- generation 3 in a and 5 in b: b is taken, and a wrong root in its block 2 is told, while the blocks of a aren't looked at.
abbrev pub IsOpenErr : List ℕ → List ℕ → OpenErr → Type 0
IsOpenErr a b DiskFault = Unit {0}
IsOpenErr a b NoMemory = Unit {0}
IsOpenErr a b Empty = IsShut a × IsShut b
IsOpenErr a b Exists = ⊥
IsOpenErr a b (NewerFormat found) = IsReopenErr a b (files.NewerFormat found)
IsOpenErr a b (Damaged damage) =
    IsReopenErr a b (files.Damaged damage)
    ⊎ ((in_a : Bool) × IsTaken in_a a b × IsDamage (open_of in_a a b) damage)

-- ---- what opening leaves

-- a file reads as before, and what was pending is so still, or stands for good
abbrev pub StandsAsRead : State → State → Type 0
StandsAsRead old new = (new ≡ old) ⊎ (new ≡ settled_state old.seen)

-- two files read as before, and what was pending on each is so still, or stands for good
abbrev pub StandAsRead : State → State → State → State → Type 0
StandAsRead a b a_new b_new = StandsAsRead a a_new × StandsAsRead b b_new

-- two files read as before, and nothing is pending any more
abbrev pub AreSettled : State → State → State → State → Type 0
AreSettled a b a_new b_new = (a_new ≡ settled_state a.seen) × (b_new ≡ settled_state b.seen)

-- nothing was pending on two disks, where one of them failed
abbrev pub WereSettled : {T : Type 0} → Result T OpenErr → State → State → Type 0
WereSettled result a b = result ≡ Err DiskFault → IsSettled a × IsSettled b

-- nothing was written to two files
abbrev pub AreUnchanged : State → State → State → State → Type 0
AreUnchanged a b a_new b_new = (a_new ≡ a) × (b_new ≡ b)

-- what the disk of the open file holds
abbrev pub open_bytes : Twin → DiskState → DiskState → State
open_bytes twin a b = open_of (in_a_of twin) a.bytes b.bytes

-- the length that this disk tells reaches behind the open file's tail gate
abbrev pub HasOpenTail : Twin → DiskState → DiskState → Type 0
HasOpenTail twin a b = HasTail (open_of (in_a_of twin) a.told b.told) (file_of twin)

-- the open file's disk
abbrev pub open_state : Twin → DiskState → DiskState → DiskState
open_state twin a b = open_of (in_a_of twin) a b

-- what holds of the bytes of the open file's disk, before and after a call, where it tells them
abbrev pub OfOpen : Bool → Twin → (State → State → Type 0) → DiskState → DiskState → DiskState → DiskState → Type 0
OfOpen tells twin holds a b a_new b_new = IsTrue tells → holds (open_state twin a b).bytes (open_state twin a_new b_new).bytes

-- what holds of the bytes of both disks, before and after a call
abbrev pub OfBoth : (State → State → State → State → Type 0) → DiskState → DiskState → DiskState → DiskState → Type 0
OfBoth holds a b a_new b_new = holds a.bytes b.bytes a_new.bytes b_new.bytes

-- what holds of the bytes of both disks, before and after a call, where they tell them
abbrev pub OfTold : Bool → (State → State → State → State → Type 0) → DiskState → DiskState → DiskState → DiskState → Type 0
OfTold tells holds a b a_new b_new = IsTrue tells → OfBoth holds a b a_new b_new

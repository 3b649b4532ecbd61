-- How a purge is finished: what stays is copied into the other file, which is opened, and the old one is wiped.
use Rattle.std.specs.Prelude.{◌≡◌, ◌⊎◌, ℕ, ◌+◌, ◌-◌, ◌^◌, ◌<◌, ◌≤◌, Bool, false, IsTrue, not, List, [], ◌∷◌, ◌++◌, length, take, drop, map, Option, Some, None, ⊤}
use Rattle.block_file.specs.File.{IsSettled, IsShutAt, open_blocks}
use Rattle.block_file.specs.Head.{HasHead, front_of, generation_of, version_in}
use Rattle.block_file.specs.FileView.{gate_of}
use Rattle.journal_record.specs.Entry.{Entry}
use Rattle.ledger_book.specs.Books.{Kept, Serves}
use Rattle.ledger_disk.specs.Disk.{State, MayLeave, settled_state}
use Rattle.ledger_model.specs.History.{History, point}
use Rattle.twin_file.specs.Twin.{open_of, other_of, IsPassed, next_generation}
use Rattle.twin_file.specs.Which.{in_a_of, file_of}
use Rattle.ledger_open.specs.Cutting.{FallsAway, IsBaseAt, gate_behind}
use Rattle.ledger_open.specs.Erasing.{EndsAs}
use Rattle.ledger_open.specs.Heads.{Edition, edition_from, edition_of, edition_in}
use Rattle.ledger_open.specs.Opening.{Known, known_from}
use Rattle.ledger_open.specs.Places.{AreInOrder, places_from}
use Rattle.ledger_open.specs.Standing.{Floor, floor_of, floor_behind, StandsFor, IsErased, IsClean, IsBeside, PairFor}
use Rattle.block_file.specs.Places.{moved_place}
use Rattle.ledger_open.specs.declared.opened.Opened.{Opened}
use Rattle.ledger_open.specs.declared.purging.Gone.{Gone}

-- ---- an open ledger

-- a ledger that is open: what is known of it, which of its two files is open, of which edition that is, and what both
-- disks hold
pub record Ledger : Type 0 where
  pub known : Known
  pub in_a : Bool
  pub edition : Edition
  pub a : State
  pub b : State

-- the open ledger that a program has, with what its two disks hold
abbrev pub ledger_at : Opened → State → State → Ledger
ledger_at opened a b =
    record {
      known = known_from opened.book opened.places.list (gate_of (file_of opened.twin));
      in_a = in_a_of opened.twin;
      edition = edition_in opened.twin;
      a = a;
      b = b;
    }

-- the disk of a ledger's open file
abbrev pub open_disk : Ledger → State
open_disk l = open_of l.in_a l.a l.b

-- the disk of the file that isn't open
abbrev pub other_disk : Ledger → State
other_disk l = other_of l.in_a l.a l.b

-- the gate where a ledger's open file ends is shut, and the edition that is kept is that file's own
pub record IsAtGate (l : Ledger) : Type 0 where
  pub shut : IsShutAt l.known.gate (open_disk l).seen
  pub edition : l.edition ≡ edition_of (open_disk l).seen

-- ---- the copy

-- a file of this generation behind this base, with what another one has between these places, and a tail gate
abbrev pub copied_file : ℕ → List ℕ → ℕ → ℕ → List ℕ → List ℕ
copied_file generation base from to file = (front_of 1 generation base ++ take (to - from) (drop from file)) ++ 0 ∷ []

-- between these places a file has these blocks, each with its gate
abbrev pub HasBetween : ℕ → ℕ → List ℕ → List (List ℕ) → Type 0
HasBetween from to file blocks = take (to - from) (drop from file) ≡ open_blocks blocks

-- of a book only what journals from this one on need is left
pub record KeepsFrom (p : ℕ) (old new : Kept) : Type 0 where
  pub limits : new.limits ≡ old.limits
  pub floor : new.floor ≡ p
  pub point_stays : new.point ≡ old.point
  pub size : new.size ≡ old.size
  pub sealed : new.sealed ≡ old.sealed
  pub serves : (h : History) → Serves old h → p ≡ point h → Serves new h

-- what a purge took from the files may be let go of: the cut lies inside of what the book and the places keep
abbrev pub MayLetGo : Opened → Option Gone → Type 0
MayLetGo opened None = ⊤
MayLetGo opened (Some gone) =
    (opened.book.floor ≤ gone.cut.point) × (gone.cut.point ≤ opened.book.sealed) × (gone.cut.count ≤ length opened.places.list)

-- of an open ledger memory keeps what lies behind the cut, and the places move as the bytes did
pub record KeepsBehind (gone : Gone) (old new : Opened) : Type 0 where
  pub book : KeepsFrom gone.cut.point old.book new.book
  pub places : new.places.list ≡ map (moved_place gone.cut.gate gone.first_gate) (drop gone.cut.count old.places.list)
  pub twin : new.twin ≡ old.twin

-- memory lets go of what a purge took from the files; where it took nothing all is as it was
abbrev pub LetsGo : Option Gone → Opened → Opened → Type 0
LetsGo None old new = new ≡ old
LetsGo (Some gone) old new = KeepsBehind gone old new

-- The first blocks of a file fell away: what is known is that of the others behind this base, and the file that is open now
-- has what the old one had of them. The old one is empty, and nothing is pending.
pub record IsPurged (tells : Bool) (floor : Floor) (front behind : List (List Entry)) (old new : Ledger) : Type 0 where
  pub bytes : List ℕ
  pub base : IsBaseAt old.known.book old.known.book.point bytes
  pub book : KeepsFrom old.known.book.point old.known.book new.known.book
  pub places : new.known.places ≡ places_from (floor_of base.base) behind
  pub tail : new.known.gate ≡ gate_behind (floor_of base.base) behind
  pub in_a : new.in_a ≡ not old.in_a
  pub edition : new.edition ≡ edition_from 2 (next_generation old.edition.number)
  pub copied : IsTrue tells
      → open_disk new ≡ settled_state (copied_file new.edition.number bytes (gate_behind floor front) old.known.gate (open_disk old).seen)
  pub wiped : IsTrue tells → other_disk new ≡ settled_state []

-- where an open file begins in front of the book's point, the blocks in front of the point fall away, whatever blocks it has
abbrev pub Purges : Bool → Ledger → Ledger → Type 0
Purges tells old new =
    (floor : Floor) (front behind : List (List Entry)) → FallsAway old.known floor front behind → floor.first < old.known.book.point
    → IsPurged tells floor front behind old new

-- ---- two files of which one takes over

-- a copy of the open file may take over: that file has this generation, above which there is another one; the other file is
-- passed over, and nothing is pending
pub record MayMove (in_a : Bool) (generation : ℕ) (a b : State) : Type 0 where
  pub quiet_a : IsSettled a
  pub quiet_b : IsSettled b
  pub head : HasHead (open_of in_a a b).seen
  pub generation_is : generation ≡ generation_of (open_of in_a a b).seen
  pub fits : generation + 1 < 2 ^ 64
  pub passed : IsPassed false generation (other_of in_a a b).seen

-- In two images the old file is there as it was and the other is passed over, or the new file is there and in the old place
-- stands a front of the old one, which is passed over.
abbrev pub IsEither : Bool → List ℕ → List ℕ → List ℕ → List ℕ → Type 0
IsEither in_a old new image_a image_b =
    ((open_of in_a image_a image_b ≡ old) × IsPassed false (generation_of old) (other_of in_a image_a image_b))
    ⊎ ((other_of in_a image_a image_b ≡ new) × IsPassed false (generation_of new) (open_of in_a image_a image_b)
    × (open_of in_a image_a image_b ≡ take (length (open_of in_a image_a image_b)) old))

-- in each pair of images the old file is open or the new one, with the other passed over
abbrev pub AllEither : Bool → List ℕ → List ℕ → State → State → Type 0
AllEither in_a old new a b =
    (image_a image_b : List ℕ) → MayLeave a image_a → MayLeave b image_b → IsEither in_a old new image_a image_b

-- ---- for a history

-- The book, the places and the files of an open ledger stand for this history, as far as the last journal leaves something
-- undone. Nothing is pending.
pub record StandsOpen (l : Ledger) (h : History) : Type 0 where
  pub quiet_a : IsSettled l.a
  pub quiet_b : IsSettled l.b
  pub ends : EndsAs l.known.book l.known.places h
  pub tail : l.known.gate ≡ gate_behind (floor_behind h ends.parts.gone) ends.parts.kept
  pub stands : StandsFor (open_disk l).seen h
  pub floor : stands.floor ≡ l.known.book.floor
  pub beside : IsBeside h stands.file.edition (other_disk l).seen
  pub edition : l.edition ≡ edition_of (open_disk l).seen

-- An open ledger is one of this history, and nothing is left undone: the pair is clean, and nothing is pending.
pub record IsCleanOpen (l : Ledger) (h : History) : Type 0 where
  pub quiet_a : IsSettled l.a
  pub quiet_b : IsSettled l.b
  pub ends : EndsAs l.known.book l.known.places h
  pub floor : l.known.book.floor ≡ point h
  pub tail : l.known.gate ≡ gate_behind (floor_behind h ends.parts.gone) ends.parts.kept
  pub clean : IsClean (open_disk l).seen h
  pub newer : version_in (open_disk l).seen ≡ 2
  pub empty : length (other_disk l).seen ≡ 0
  pub edition : l.edition ≡ edition_of (open_disk l).seen

-- What the last journal of this history takes away is gone: the open file begins at the point, all that is hidden is zeros there for
-- good, and nothing is pending. `what_is_left_undone_is_finished` says that an occult and a purge come to this.
-- Example: the last journal is a purge to journal 9. Then the open file begins with a base at 9.
pub record IsFinished (l : Ledger) (h : History) : Type 0 where
  pub quiet : IsSettled (open_disk l)
  pub other_quiet : IsSettled (other_disk l)
  pub erased : IsErased (open_disk l).seen h
  pub floor : l.known.book.floor ≡ point h

-- where the open file began in front of the point, the pair is clean afterwards for the history that it stood for
abbrev pub FinishesPurge : Ledger → Ledger → Type 0
FinishesPurge old new = old.known.book.floor < old.known.book.point → (h : History) → StandsOpen old h → IsCleanOpen new h

-- while a purge is finished, a crash at any time leaves a pair that stands for what the pair stood for
abbrev pub StandsPurging : Ledger → State → State → Type 0
StandsPurging old a_new b_new =
    (h : History) → StandsOpen old h → (image_a image_b : List ℕ) → MayLeave a_new image_a → MayLeave b_new image_b → PairFor image_a image_b h

-- where the open file begins at the point already, nothing is written
abbrev pub IsPurgedStill : Ledger → State → State → Type 0
IsPurgedStill old a_new b_new = old.known.book.point ≤ old.known.book.floor → (a_new ≡ old.a) × (b_new ≡ old.b)

-- ---- what finishing it comes to

-- a purge that was left undone is finished, and where there is none all is as it was
pub record IsDone (tells : Bool) (old new : Ledger) : Type 0 where
  pub purges : Purges tells old new
  pub clean : IsTrue tells → FinishesPurge old new
  -- whatever stands in the files
  pub gate : IsTrue tells → IsAtGate old → IsAtGate new
  pub order : AreInOrder 64 old.known.gate old.known.places → AreInOrder 64 new.known.gate new.known.places

-- a crash at any time leaves a pair that stands for what this one did
pub record IsHalfDone (tells : Bool) (old : Ledger) (a_new b_new : State) : Type 0 where
  pub images : IsTrue tells → StandsPurging old a_new b_new
  pub idle : IsTrue tells → IsPurgedStill old a_new b_new

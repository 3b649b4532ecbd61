-- What a committer, its disks and its sink tell, and how a call leads from one to the next.
use Rattle.std.specs.Prelude.{◌≡◌, ◌≢◌, ◌⊎◌, ℕ, ◌+◌, ◌-◌, ◌<◌, ◌≤◌, Bool, IsTrue, IsSomeAnd, List, [], ◌++◌, length, take, drop, Option, None}
use Rattle.std.specs.Io.KnownBytes.{Appends}
use Rattle.ledger_bytes.specs.Begins.{Begins}
use Rattle.ledger_bytes.specs.declared.limits.TheConstants.{BLOCK_LIMIT}
use Rattle.sha2.specs.Sha256.{sha256}
use Rattle.tree_model.specs.Tree.{mth}
use Rattle.journal_record.specs.Blocks.{body_of, leaves_of, written_blocks, AreFrom, AreBlocks}
use Rattle.journal_record.specs.Entry.{Entry}
use Rattle.block_file.specs.File.{IsSettled, IsShutAt}
use Rattle.block_file.specs.Head.{version_in}
use Rattle.block_file.specs.Writing.{ended_blocks}
use Rattle.block_file.specs.declared.file.BlockFile.{BlockFile}
use Rattle.ledger_disk.specs.Disk.{DiskState, State, MayLeave, OneMore, settled_state}
use Rattle.ledger_io.specs.Outside.{SinkState, MeetsNone, MeetsOne}
use Rattle.ledger_model.specs.Dues.{due_lines, AllWaiting, AllIn}
use Rattle.ledger_model.specs.Growing.{Grows}
use Rattle.ledger_model.specs.History.{History, history, journals_of, point}
use Rattle.ledger_model.specs.Lawful.{AllGather}
use Rattle.ledger_model.specs.Limits.{real_limits}
use Rattle.ledger_model.specs.declared.due.Due.{Due}
use Rattle.ledger_book.specs.Books as books
use Rattle.ledger_book.specs.Books.{Serves, sealed_size}
use Rattle.ledger_book.specs.Steps.{OpenGathers}
use Rattle.twin_file.specs.Twin.{open_of, other_of}
use Rattle.ledger_open.specs.Heads.{Edition, edition_of}
use Rattle.ledger_open.specs.Cutting.{gate_behind}
use Rattle.block_file.specs.Places.{body_from, places_in}
use Rattle.ledger_open.specs.Places.{places_from, AreInOrder}
use Rattle.ledger_open.specs.Standing.{floor_behind, Parts, IsErased, PairOpen, IsCleanPair}
use Rattle.block_file.specs.declared.place.PlaceAt.{PlaceAt}
use Rattle.batch_committer.specs.declared.open_block.TheConstants.{GROUP_BLOCKS}
use Rattle.batch_committer.specs.declared.failure.CommitErr.{CommitErr}
use Rattle.batch_committer.specs.declared.failure.CommitErr.TheVariants.{DiskFault, WriteFault, NoMemory, Closed}

-- ---- what is told

-- what the two disks of a ledger tell
pub record Pair : Type 0 where
  pub a : DiskState
  pub b : DiskState

-- what these two disks tell
abbrev pub pair : DiskState → DiskState → Pair
pair a b = record { a = a; b = b }

-- what a committer keeps: its book, where its open file ends, the blocks that ended and wait for the disk, the records of the
-- open block, where journals stand, and what is due
pub record CommitterState : Type 0 where
  pub book : books.Kept
  -- where the open file's tail gate stands, whether that file is the first, which edition it is, and the copy of it that
  -- was begun
  pub gate : ℕ
  pub in_a : Bool
  pub edition : Edition
  pub copy : Option BlockFile
  -- how many blocks ended and are gathered for the disk, and their bytes, each with an open gate behind it
  pub ended : ℕ
  pub before : List ℕ
  -- where the open block's gate will stand
  pub next : ℕ
  -- the records of the open block
  pub body : List ℕ
  -- where each journal stands, or will stand
  pub places : List PlaceAt
  -- all that is due and isn't written, and the lines of the first of it, as many as are spelled: the others wait for the open
  -- block's end
  pub dues : List Due
  pub spelled : ℕ
  pub lines : List ℕ

-- what is kept of a ledger that was made or opened just now
abbrev pub first_kept : books.Kept → List PlaceAt → ℕ → Bool → Edition → Option BlockFile → CommitterState
first_kept book places gate in_a edition copy = record {
  book = book;
  gate = gate;
  in_a = in_a;
  edition = edition;
  copy = copy;
  ended = 0;
  before = [];
  next = gate;
  body = [];
  places = places;
  dues = [];
  spelled = 0;
  lines = [];
}

-- what a committer keeps, and whether a call has ended its run
pub record Held : Type 0 where
  pub kept : CommitterState
  pub ended : Bool

-- what a committer keeps, and what its disks and its sink tell: all that a call leads from and to
pub record World : Type 0 where
  pub kept : CommitterState
  pub disks : Pair
  pub sink : SinkState

-- the world of a committer that keeps this, with these disks and this sink
abbrev pub world : CommitterState → Pair → SinkState → World
world kept disks sink = record { kept = kept; disks = disks; sink = sink }

-- the world of a committer that keeps this, by what its two disks and its sink tell
abbrev pub world_of : {D K : Type 0} → (D → DiskState) → (K → SinkState) → CommitterState → D → D → K → World
world_of disk sink kept a b k = world kept (pair (disk a) (disk b)) (sink k)

-- ---- what a call asks for

-- the open file reads as the calls left it: the length that is told reaches behind its tail gate, and that gate is shut
pub record ReadsAsLeft (tells : Bool) (place : ℕ) (d : DiskState) : Type 0 where
  pub told : IsSomeAnd d.told (λ n. place + 1 ≤ n)
  pub shut : IsTrue tells → IsShutAt place d.bytes.seen

-- What each call asks for, also where the disks tell nothing: the open file reads as the calls left it, the edition that
-- is kept is its own, no copy of it was begun, the open block has no more journals than a block may have, and the contents
-- stand in their order between the head of their file and the end of the open block. Its gate will stand behind the tail gate
-- and the blocks that are gathered, of which there are fewer than a group may have.
pub record Fits (tells : Bool) (w : World) : Type 0 where
  pub reads : ReadsAsLeft tells w.kept.gate (open_of w.kept.in_a w.disks.a w.disks.b)
  pub edition : IsTrue tells → w.kept.edition ≡ edition_of (open_of w.kept.in_a w.disks.a w.disks.b).bytes.seen
  pub copy : w.kept.copy ≡ None
  pub few : w.kept.book.size ≤ w.kept.book.sealed + BLOCK_LIMIT
  pub order : AreInOrder 64 (body_from w.kept.next + length w.kept.body) w.kept.places
  pub next : w.kept.next ≡ w.kept.gate + length w.kept.before
  pub some : w.kept.ended ≢ 0 → 1 ≤ length w.kept.before
  pub room : w.kept.ended < GROUP_BLOCKS
  pub spelled : w.kept.spelled ≤ length w.kept.dues
  -- each journal that waits or is gathered has a receipt due
  pub owed : w.kept.book.sealed < w.kept.book.size → w.kept.spelled < length w.kept.dues
  pub clear : w.kept.dues ≡ [] → w.kept.ended ≡ 0

-- a journal more has room in the open block, and may share it with those that wait there
abbrev pub HasRoom : CommitterState → Type 0
HasRoom k = (k.book.size < k.book.sealed + BLOCK_LIMIT) × OpenGathers k.book

-- ---- which history it is

-- a history without its open block
abbrev pub sealed_part : History → History
sealed_part h = history h.closed []

-- What the files have of a history: its ended blocks, but for the last ones, which are gathered for the disk.
-- Example: blocks [0] [1 2] [3 4] have ended, and journal 5 waits. Where one block is gathered the files have [0] [1 2].
abbrev pub stored_part : CommitterState → History → History
stored_part k h = history (take (length h.closed - k.ended) h.closed) []

-- The last of a history's ended blocks are gathered for the disk, and the others are stored. Each journal of a gathered block may
-- share its block with others: none hides or purges anything.
pub record IsGathering (k : CommitterState) (h : History) : Type 0 where
  pub stored : List (List Entry)
  pub blocks : List (List Entry)
  pub are : h.closed ≡ stored ++ blocks
  pub count : length blocks ≡ k.ended
  pub follow : AreBlocks (length (journals_of stored)) blocks
  pub alike : AllGather (journals_of blocks)
  pub bytes : k.before ≡ ended_blocks (written_blocks (mth sha256) (leaves_of (journals_of stored)) blocks)

-- The places are those of the journals of the open file's blocks, which are this history's from where the book begins, and of
-- those that will stand behind them: of the gathered blocks, and of the open one. The tail gate stands behind the stored blocks,
-- and the open block's will stand behind the gathered ones.
pub record Located (k : CommitterState) (h : History) (stored blocks : List (List Entry)) : Type 0 where
  pub parts : Parts k.book.floor (history stored [])
  pub places : k.places ≡ places_from (floor_behind (history stored []) parts.gone) (parts.kept ++ blocks) ++ places_in (body_from k.next) h.waiting
  pub tail : k.gate ≡ gate_behind (floor_behind (history stored []) parts.gone) parts.kept
  pub next : k.next ≡ gate_behind (floor_behind (history stored []) parts.gone) (parts.kept ++ blocks)

-- What is due is so of this history: the first of it is of ended blocks, and its lines are spelled, as they are in each later
-- history whose blocks have ended; the rest waits.
pub record Owes (k : CommitterState) (h : History) : Type 0 where
  pub few : k.spelled ≤ length k.dues
  pub told : AllIn h.closed (take k.spelled k.dues)
  pub lines : (f : History) → Grows h f → f.waiting ≡ [] → k.lines ≡ due_lines f (take k.spelled k.dues)
  pub waits : AllWaiting h (drop k.spelled k.dues)

-- The committer keeps what this history says. The book begins where the file does: at the point of its blocks, behind which a
-- purge may wait.
pub record Keeps (k : CommitterState) (h : History) : Type 0 where
  pub serves : Serves k.book h
  pub limits : k.book.limits ≡ real_limits
  pub floor : k.book.floor ≡ point (sealed_part h)
  pub dues : Owes k h
  pub body : k.body ≡ body_of h.waiting
  pub next : AreFrom (sealed_size h) h.waiting
  pub gathered : length h.waiting ≢ 1 → AllGather h.waiting
  pub group : IsGathering k h
  pub located : Located k h group.stored group.blocks

-- The pair is clean for a history where no journal waits, and nothing is pending: the open file has it and the second version, and
-- ends with its tail gate, which stands at this place, and the other file is empty.
pub record IsCleanFor (in_a : Bool) (place : ℕ) (h : History) (a b : State) : Type 0 where
  pub quiet : IsSettled (open_of in_a a b)
  pub empty : other_of in_a a b ≡ settled_state []
  pub erased : IsErased (open_of in_a a b).seen h
  pub newer : version_in (open_of in_a a b).seen ≡ 2
  pub ends : length (open_of in_a a b).seen ≡ place + 1

-- This is a history that the committer and its disks have: the disks tell their contents, the committer keeps what it says,
-- and the files are clean for its stored blocks. `an_opened_ledger_is_held` and `a_new_ledger_is_held` say of which histories
-- that is so at first.
pub record Holds (tells : Bool) (w : World) (h : History) : Type 0 where
  pub told : IsTrue tells
  pub keeps : Keeps w.kept h
  pub disks : IsCleanFor w.kept.in_a w.kept.gate (history keeps.group.stored []) w.disks.a.bytes w.disks.b.bytes

-- ---- ways

-- no disk met a fault in a call, and the sink didn't either
pub record MeetsNoFault (before after : World) : Type 0 where
  pub a : after.disks.a.faults ≡ before.disks.a.faults
  pub b : after.disks.b.faults ≡ before.disks.b.faults
  pub sink : MeetsNone before.sink after.sink

-- Of the lines that were due, and those that became due on the way to h, the first are written, whose journals stand in
-- stored blocks, and the others wait. What is written is told of each later history whose blocks have ended: what comes later
-- doesn't change it.
-- Example: journal 5 waits, and its receipt is due. An accepted record becomes journal 6: nothing is written, and two
-- receipts wait. Then `head` ends their block: both receipts and the head are written, and none waits. Both receipts read
-- size 7 whatever comes later.
pub record Writes (h stored : History) (old more new : List Due) (sofar : List ℕ) : Type 0 where
  pub done : List Due
  pub split : old ++ more ≡ done ++ new
  pub kept : AllIn stored.closed done
  pub text : (f : History) → Grows h f → f.waiting ≡ [] → sofar ≡ due_lines f done

-- A call led from each history that is held to the next one, by which this became due: that one is held afterwards, it goes
-- on from the first, what is stored stays so, what is written is so of each, and no fault was met.
-- Example: h is held, in which journal 5 waits. `offer` takes an accepted record: `next h` has journal 6 waiting too and is
-- held then, `due h` is its receipt, and `sofar` is empty. Where the disks tell nothing no history is held; what is left is
-- what was appended to the sink, and that no fault was met.
pub record Goes (tells : Bool) (before : World) (next : History → History) (due : History → List Due) (after : World) : Type 0 where
  pub holds : (h : History) → Holds tells before h → Holds tells after (next h)
  pub grows : (h : History) → Holds tells before h → Grows h (next h)
  pub stays : (h : History) → Holds tells before h → Begins (stored_part before.kept h).closed (stored_part after.kept (next h)).closed
  pub sofar : List ℕ
  pub appended : Appends before.sink.held after.sink.held sofar
  pub writes : (h : History) → Holds tells before h → Writes (next h) (stored_part after.kept (next h)) before.kept.dues (due h) after.kept.dues sofar
  pub no_fault : MeetsNoFault before after

-- one of the files stands for a history, each content that this hides is gone from it, and the other file is empty
pub record IsErasedPair (a b : List ℕ) (h : History) : Type 0 where
  pub in_a : Bool
  pub erased : IsErased (open_of in_a a b) h
  pub empty : length (other_of in_a a b) ≡ 0

-- all but the last of some blocks
abbrev pub before_last : List (List Entry) → List (List Entry)
before_last blocks = take (length blocks - 1) blocks

-- the last of the blocks that are left was added on the way, and no receipt of its journals was begun
pub record IsUnanswered (h kept : History) (done : List Due) : Type 0 where
  pub added : length h.closed < length kept.closed
  pub unanswered : AllIn (before_last kept.closed) done

-- How clean the images are. Where a disk failed each hidden content is gone from them, unless the last block was added on the
-- way and no receipt of it was begun. Where none failed they are clean.
abbrev pub IsLeftClean : CommitErr → History → History → List Due → List ℕ → List ℕ → Type 0
IsLeftClean DiskFault h kept done a b = IsErasedPair a b kept ⊎ IsUnanswered h kept done
IsLeftClean WriteFault h kept done a b = IsCleanPair a b kept
IsLeftClean NoMemory h kept done a b = IsCleanPair a b kept
IsLeftClean Closed h kept done a b = IsCleanPair a b kept

-- The images stand for the blocks of h and maybe for more of those of the whole history, every journal whose receipt was begun
-- is in them, and what such journals hide is gone.
pub record LeftStanding (h whole : History) (done : List Due) (end : CommitErr) (a b : List ℕ) : Type 0 where
  pub kept : History
  pub stands : PairOpen a b kept
  pub no_shorter : Begins h.closed kept.closed
  pub no_longer : Begins kept.closed whole.closed
  pub receipts : AllIn kept.closed done
  pub clean : IsLeftClean end h kept done a b

-- how far the lines were written: whole, but for a fault of the sink
abbrev pub Says : CommitErr → List ℕ → List ℕ → Type 0
Says DiskFault part lines = part ≡ lines
Says WriteFault part lines = Begins part lines × (length part < length lines)
Says NoMemory part lines = part ≡ lines
Says Closed part lines = part ≡ lines

-- What stands where a call ended the run on the way from h to the whole history: the first lines of those that are due were
-- written, as they are in each later history whose blocks have ended, and what the disks may leave has their journals.
-- Example: journals 5 and 6 wait, their receipts are due, and `head` ends their block. 1. A disk fails at the commit: `done`
-- is empty, nothing is written, and an image has the journals up to 4 or up to 6. 2. The sink fails in the second receipt:
-- `done` is both receipts, the first and a part of the second are written, and each image has journals 5 and 6.
pub record LeftAtTheEnd (h whole : History) (dues : List Due) (end : CommitErr) (part : List ℕ) (disks : Pair) : Type 0 where
  pub done : List Due
  pub rest : List Due
  pub split : dues ≡ done ++ rest
  pub said : (f : History) → Grows whole f → f.waiting ≡ [] → Says end part (due_lines f done)
  pub images : (a b : List ℕ) → MayLeave disks.a.bytes a → MayLeave disks.b.bytes b → LeftStanding h whole done end a b

-- one call of one of the two disks failed
abbrev pub OneFailed : Pair → Pair → Type 0
OneFailed before after = OneMore before.a.faults after.a.faults before.b.faults after.b.faults

-- each end of a run has its cause, and no other fault was met: one call of a disk failed, the sink met one fault, or memory
-- was short and nothing failed
abbrev pub EndsBy : CommitErr → World → World → Type 0
EndsBy DiskFault before after = OneFailed before.disks after.disks × MeetsNone before.sink after.sink
EndsBy WriteFault before after =
    (after.disks.a.faults ≡ before.disks.a.faults) × (after.disks.b.faults ≡ before.disks.b.faults)
    × MeetsOne before.sink after.sink
EndsBy NoMemory before after = MeetsNoFault before after
EndsBy Closed before after = ⊥

-- A call ended the run on the way from each history that is held to the next one: what was written is a beginning of what
-- was due and became due, what the disks may leave stands for what was stored or for more of the next history, and the end has
-- its cause.
-- Example: as for `LeftAtTheEnd`, with `next` the step of `head`, and `due` its reply: 1. `DiskFault`: `part` is empty, and one
-- disk counts one failure more. 2. `WriteFault`: the sink holds `part` more and counts one fault, and no disk failed.
pub record EndsOnTheWay (tells : Bool) (before : World) (next : History → History) (due : History → List Due) (end : CommitErr) (after : World) : Type 0 where
  pub grows : (h : History) → Holds tells before h → Grows h (next h)
  pub part : List ℕ
  pub appended : Appends before.sink.held after.sink.held part
  pub stops : (h : History) → Holds tells before h → LeftAtTheEnd (stored_part before.kept h) (next h) (before.kept.dues ++ due h) end part after.disks
  pub cause : EndsBy end before after

-- What a run of the program did, from the bytes that came in to the bytes that went out and the files that are left.
use Rattle.std.specs.Prelude.{◌≡◌, ◌≢◌, ℕ, ◌⊎◌, Bool, IsTrue, List, [], ◌∷◌, codes, decimal, Option, None, Some, IsSome, IsSomeAnd, IfSome, Result, ⊤}
use Rattle.std.specs.Io.KnownBytes.{Consumes, Appends}
use Rattle.batch_committer.specs.World.{Pair, World, Holds, OneFailed}
use Rattle.batch_committer.specs.Opened.{IsQuietFor}
use Rattle.block_file.specs.File.{IsSettled}
use Rattle.block_file.specs.Head.{IsShut}
use Rattle.dump_export.specs.Exports as dumps
use Rattle.dump_export.specs.Texts.{front_text}
use Rattle.dump_export.specs.declared.failure.DumpErr.{DumpErr}
use Rattle.dump_model.specs.Dumps.{dump_text}
use Rattle.dump_model.specs.Shown.{ledger_dump}
use Rattle.ledger_bytes.specs.Begins.{Begins}
use Rattle.ledger_bytes.specs.Causes.{count_after}
use Rattle.ledger_disk.specs.Disk.{MayLeave, settled_state}
use Rattle.ledger_io.specs.Outside.{SourceState, SinkState, Outside, outside, MeetsNone, MeetsOne}
use Rattle.ledger_io.specs.Runs.{Answered, EndsReading, SomeOfScript, FallsShort, AreWhole, Wrote}
use Rattle.ledger_io.specs.declared.ending.Ending.{Ending}
use Rattle.ledger_io.specs.declared.ending.Ending.TheVariants as run
use Rattle.ledger_io.specs.declared.failure.LineErr.{LineErr}
use Rattle.ledger_io.specs.declared.failure.LineErr.TheVariants as line_err
use Rattle.ledger_model.specs.Genesis.{new_ledger}
use Rattle.ledger_model.specs.History.{History, id, journals_of}
use Rattle.ledger_model.specs.Merge.{IsMerge}
use Rattle.ledger_bytes.specs.declared.digest.Digest.{Digest}
use Rattle.ledger_model.specs.Dues.{HasLeaf, IsHeadOf}
use Rattle.script_lines.specs.Receipts.{AllHeads, IsReceipted}
use Rattle.ledger_model.specs.Pegs.{Pegged}
use Rattle.ledger_model.specs.Rules.{after}
use Rattle.ledger_model.specs.Scheme.{Scheme}
use Rattle.ledger_model.specs.Step.{Step}
use Rattle.ledger_model.specs.Texts.{text}
use Rattle.ledger_model.specs.Took.{TookAll}
use Rattle.ledger_model.specs.Windows.{said_lines, windows}
use Rattle.ledger_model.specs.declared.genesis.Genesis.{Genesis}
use Rattle.ledger_open.specs.Founding.{IsFounded, IsFoundedOrShut, IsOneOpen}
use Rattle.ledger_open.specs.Opening.{IsOpenErr, IsOutside, StandsAsRead}
use Rattle.ledger_open.specs.Standing.{PairFor, IsCleanPair}
use Rattle.ledger_open.specs.declared.failure.OpenErr.{OpenErr}
use Rattle.ledger_open.specs.declared.failure.OpenErr.TheVariants as open_err
use Rattle.ledger_soak.specs.Soaking.{Soaked}
use Rattle.ledger_soak.specs.declared.running.SoakEnd.{SoakEnd}
use Rattle.ledger_soak.specs.declared.running.SoakEnd.TheVariants as soak
use Rattle.proof_maker.specs.Written.{AllGood}
use Rattle.time_peg.specs.Entries.{NotaryState, IsList}
use Rattle.ledger_bytes.specs.Digests.{digest}
use Rattle.script_lines.specs.Words.{hex_of}
use Rattle.proof_board.specs.declared.hands.Tally.{Tally}
use Rattle.ledger_cli.specs.Boards.{TellsBehind, TellsSizes}
use Rattle.ledger_cli.specs.Endings.{line_of, refusal_of, ending_of_export}
use Rattle.ledger_cli.specs.Failures.{FailsByLines}
use Rattle.ledger_cli.specs.Heads.{HeadsLeadOn}
use Rattle.ledger_cli.specs.Leaving.{AreClean, AreErased}
use Rattle.ledger_cli.specs.Taken.{taken, TookSome}
use Rattle.ledger_cli.specs.declared.ending.LedgerEnding.{LedgerEnding}
use Rattle.ledger_cli.specs.declared.ending.LedgerEnding.TheVariants.{Run, DiskFault, Damaged, Empty, Exists, NewerFormat, NotaryFault, Refused}

-- ---- what a run is handed

-- all that a run is handed: what it reads from, what it writes to, the two disks of the ledger, and the notary
pub record Handed : Type 0 where
  pub source : SourceState
  pub sink : SinkState
  pub disks : Pair
  pub notary : NotaryState

-- the same by its parts
abbrev pub handed : SourceState → SinkState → Pair → NotaryState → Handed
handed source sink disks notary = record { source = source; sink = sink; disks = disks; notary = notary }

-- of these what the run reads from and what it writes to
abbrev pub outside_of : Handed → Outside
outside_of x = outside x.source x.sink

-- nothing is pending on the two disks
pub record AreQuiet (disks : Pair) : Type 0 where
  pub a : IsSettled disks.a.bytes
  pub b : IsSettled disks.b.bytes

-- the files on the two disks stand for this history
abbrev pub StandFor : Pair → History → Type 0
StandFor disks h = PairFor disks.a.bytes.seen disks.b.bytes.seen h

-- both files read as before, and nothing is pending
pub record SettledAsRead (before after_all : Pair) : Type 0 where
  pub a : after_all.a.bytes ≡ settled_state before.a.bytes.seen
  pub b : after_all.b.bytes ≡ settled_state before.b.bytes.seen

-- both files read as before, and what was pending on one is so still, or stands for good
pub record StayAsRead (before after_all : Pair) : Type 0 where
  pub a : StandsAsRead before.a.bytes after_all.a.bytes
  pub b : StandsAsRead before.b.bytes after_all.b.bytes

-- one of the two files is open: a ledger is there
abbrev pub HasOpen : Pair → Type 0
HasOpen disks = IsOneOpen disks.a.bytes.seen disks.b.bytes.seen

-- both files are shut: no ledger is there
abbrev pub HasNone : Pair → Type 0
HasNone disks = IsShut disks.a.bytes.seen × IsShut disks.b.bytes.seen

-- ---- which faults were met

-- no call of a disk failed
pub record NoDiskFailed (before after_all : Pair) : Type 0 where
  pub a : after_all.a.faults ≡ before.a.faults
  pub b : after_all.b.faults ≡ before.b.faults

-- the source failed once, by its counts before and after
abbrev pub FailedOnce : ℕ → ℕ → Type 0
FailedOnce before now = now ≡ count_after before

-- the source failed at most once: lines that were whole before that are answered, which may meet a fault of its own
abbrev pub FailedAtMostOnce : ℕ → ℕ → Type 0
FailedAtMostOnce before now = (now ≡ before) ⊎ FailedOnce before now

-- what source, sink and disks met: the fault that an ending tells is the only one of its object, and beside it only reading may
-- have failed before
pub record Faults (source : ℕ → ℕ → Type 0) (sink : SinkState → SinkState → Type 0) (disks : Pair → Pair → Type 0) (before after_all : Handed) : Type 0 where
  pub source_is : source before.source.faults after_all.source.faults
  pub sink_is : sink before.sink after_all.sink
  pub disks_are : disks before.disks after_all.disks

-- the source didn't fail, by its counts before and after
abbrev pub NoneFailed : ℕ → ℕ → Type 0
NoneFailed before now = now ≡ before

-- source, sink and disks met no fault
abbrev pub NothingFailed : Handed → Handed → Type 0
NothingFailed before after_all = Faults NoneFailed MeetsNone NoDiskFailed before after_all

-- which faults source, sink and disks met, by the ending
abbrev pub FaultsBy : LedgerEnding → Handed → Handed → Type 0
FaultsBy (Run run.Done) before after_all = Faults NoneFailed MeetsNone NoDiskFailed before after_all
FaultsBy (Run run.Usage) before after_all = ⊥
FaultsBy (Run run.ReadFault) before after_all = Faults FailedOnce MeetsNone NoDiskFailed before after_all
FaultsBy (Run run.WriteFault) before after_all = Faults FailedAtMostOnce MeetsOne NoDiskFailed before after_all
FaultsBy (Run run.NoMemory) before after_all = Faults FailedAtMostOnce MeetsNone NoDiskFailed before after_all
FaultsBy (Run run.LineTooLong) before after_all = Faults NoneFailed MeetsNone NoDiskFailed before after_all
FaultsBy (Run run.ScriptTooLong) before after_all = Faults NoneFailed MeetsNone NoDiskFailed before after_all
FaultsBy DiskFault before after_all = Faults FailedAtMostOnce MeetsNone OneFailed before after_all
FaultsBy (Damaged damage) before after_all = Faults NoneFailed MeetsNone NoDiskFailed before after_all
FaultsBy Empty before after_all = Faults NoneFailed MeetsNone NoDiskFailed before after_all
FaultsBy Exists before after_all = Faults NoneFailed MeetsNone NoDiskFailed before after_all
FaultsBy (NewerFormat found) before after_all = Faults NoneFailed MeetsNone NoDiskFailed before after_all
FaultsBy NotaryFault before after_all = Faults NoneFailed MeetsNone NoDiskFailed before after_all
FaultsBy (Refused why) before after_all = Faults NoneFailed MeetsNone NoDiskFailed before after_all

-- The notary failed once at most for each line that was read, and each failure was counted. Where the disks tell what they
-- have, each of these is a step's.
abbrev pub NotaryFails : Handed → Handed → Type 0
NotaryFails before after_all = FailsByLines before.source after_all.source before.notary after_all.notary

-- the source was read to where reading ended so
abbrev pub HasEnded : Option LineErr → SourceState → SourceState → Type 0
HasEnded end before after_all =
    (read : List ℕ) × (lines : List (List ℕ)) × Consumes before.left after_all.left read × EndsReading end before after_all read lines

-- How reading ended, by the ending and whatever the disks tell. Of what was still to come nothing is said where a call ended the run
-- on its way. A refusal reads nothing.
abbrev pub ReadsBy : LedgerEnding → SourceState → SourceState → Type 0
ReadsBy (Run run.Done) before after_all = HasEnded None before after_all
ReadsBy (Run run.Usage) before after_all = ⊥
ReadsBy (Run run.ReadFault) before after_all = HasEnded (Some line_err.ReadFault) before after_all
ReadsBy (Run run.WriteFault) before after_all = ⊤
ReadsBy (Run run.NoMemory) before after_all = ⊤
ReadsBy (Run run.LineTooLong) before after_all = HasEnded (Some line_err.LineTooLong) before after_all
ReadsBy (Run run.ScriptTooLong) before after_all = HasEnded (Some line_err.ScriptTooLong) before after_all
ReadsBy DiskFault before after_all = ⊤
ReadsBy (Damaged damage) before after_all = after_all ≡ before
ReadsBy Empty before after_all = after_all ≡ before
ReadsBy Exists before after_all = after_all ≡ before
ReadsBy (NewerFormat found) before after_all = after_all ≡ before
ReadsBy NotaryFault before after_all = after_all ≡ before
ReadsBy (Refused why) before after_all = after_all ≡ before

-- ---- a script on a ledger

-- What is answered to the lines of a script on a history: the text of a merge of them, window by window, along whose steps the
-- notary goes from one state to another. Where its list had the pegs of the history, each proof and each extension is accepted under
-- the heads of its step. The heads of each moment lead to those of each later one.
pub record Answers (scheme : Scheme) (h : History) (lines : List (List ℕ)) (replies : List ℕ) (first last : NotaryState) : Type 0 where
  pub steps : List (List Step)
  pub merge : IsMerge (windows (said_lines lines)) steps
  pub took : TookAll scheme h first steps last
  pub replies_are : replies ≡ text scheme h steps
  pub proofs : Pegged h first.entries → AllGood scheme h steps
  pub heads : HeadsLeadOn scheme h first.entries steps

-- Example: the lines `0 head`, `1 head`, `0 get 1` are one window. `steps` takes them as 0.1 1.1 0.2, as 1.1 0.1 0.2 or as
-- 0.1 0.2 1.1 (lane and number), and `replies` is the text of that order. In no order 0.2 stands in front of 0.1.

-- Two images stand for a history that goes on from h and ends where a block of the whole history does, or is h. Each journal is
-- in it of which a receipt was written whole, and each head of the ledger that stands in a line written whole is that of its
-- first journals. The notary's list has the entry of each of its time journals, where it had those of h. The images are as
-- clean as is asked.
pub record MayStand (h whole : History) (first last : NotaryState) (replies : List ℕ) (IsSoClean : History → List ℕ → List ℕ → Type 0) (a b : List ℕ) : Type 0 where
  pub kept : History
  pub stands : PairFor a b kept
  pub no_shorter : Begins h.closed kept.closed
  pub no_longer : Begins kept.closed whole.closed
  pub receipts : (jsn : ℕ) (leaf : Digest) → IsReceipted replies jsn leaf → HasLeaf (journals_of kept.closed) jsn leaf
  pub heads : AllHeads (IsHeadOf (journals_of kept.closed)) replies
  pub pegs : Pegged h first.entries → Pegged kept last.entries
  pub clean : IsSoClean kept a b

-- Example: h has the blocks [0], the whole history [0] [1] [2 3]. The receipt of journal 1 was written whole, that of 2 in
-- part. Then two images have [0] [1] or [0] [1] [2 3], and not [0] alone.

-- all images that a crash may leave stand for such a history
abbrev pub AllStand : History → History → NotaryState → NotaryState → List ℕ → (History → List ℕ → List ℕ → Type 0) → Pair → Type 0
AllStand h whole first last replies IsSoClean disks =
    (a b : List ℕ) → MayLeave disks.a.bytes a → MayLeave disks.b.bytes b → MayStand h whole first last replies IsSoClean a b

-- the lines are answered, the two files are clean for the history after them, and this is so of it
pub record AnswersOn (scheme : Scheme) (h : History) (IsSo : History → Type 0) (disks : Pair) (first last : NotaryState) (lines : List (List ℕ)) (replies : List ℕ) : Type 0 where
  pub answers : Answers scheme h lines replies first last
  pub clean : IsCleanPair disks.a.bytes.seen disks.b.bytes.seen (after scheme h answers.steps)
  pub quiet : AreQuiet disks
  pub images : AllStand h (after scheme h answers.steps) first last replies AreClean disks
  pub so : IsSo (after scheme h answers.steps)

-- A run stopped on its way. A text answers the lines: that of a merge of them of which some first steps were taken. Along these
-- the notary goes from one state to the other; the others stand as ones in which it failed, which isn't counted. What was
-- written is so of the text of the taken steps too: nothing of the others is written. What is left after some replies stands
-- for a beginning of the history after all, and of that after the taken steps. The proofs that are written are accepted, and
-- their heads lead on, as those of a whole run.
pub record StopsOn (scheme : Scheme) (h : History) (replies : List ℕ) (disks : Pair) (first last : NotaryState) (IsSoClean : History → List ℕ → List ℕ → Type 0) (IsSo : List ℕ → Type 0) (lines : List (List ℕ)) (whole_text : List ℕ) : Type 0 where
  pub steps : List (List Step)
  pub merge : IsMerge (windows (said_lines lines)) steps
  pub took : TookSome scheme h first steps last
  pub text_is : whole_text ≡ text scheme h steps
  pub written : IsSo (text scheme h (taken took.done took.now))
  pub images : AllStand h (after scheme h steps) first last replies IsSoClean disks
  pub proofs : Pegged h first.entries → AllGood scheme h (taken took.done took.now)
  pub heads : HeadsLeadOn scheme h first.entries (taken took.done took.now)
  pub images_taken : AllStand h (after scheme h (taken took.done took.now)) first last replies IsSoClean disks

-- Example: behind the blocks [0] a script has three records in one window, and memory is short behind the first. `steps` has
-- all three, of which `now` is the first alone. In `whole_text` the receipt of journal 1 reads size 4, in the text of the
-- taken steps size 2: what was written begins both, so nothing of that block is. `images` have a history from [0] to
-- [0] [1 2 3], `images_taken` one from [0] to [0] [1].

-- all lines that count are answered: those that stand whole in what was read, by how reading ended
abbrev pub AnswersAll : Scheme → History → (History → Type 0) → Option LineErr → List ℕ → List ℕ → Handed → Handed → Type 0
AnswersAll scheme h IsSo end read replies before after_all =
    Answered (AnswersOn scheme h IsSo after_all.disks before.notary after_all.notary) end read replies (outside_of before) (outside_of after_all)

-- The run stopped: some text that answers the script has this property, and that of the steps that were taken has it too. What
-- is left is a beginning of their history.
abbrev pub StopsSo : Scheme → History → List ℕ → List ℕ → Handed → Handed → (History → List ℕ → List ℕ → Type 0) → (List ℕ → Type 0) → Type 0
StopsSo scheme h read replies before after_all IsSoClean IsSo =
    SomeOfScript (StopsOn scheme h replies after_all.disks before.notary after_all.notary IsSoClean IsSo) before.source after_all.source read IsSo

-- By how far reading came: 1. It goes on: some first whole lines of what was read were taken, and whatever lines follow
-- these, some text that answers all of them is so. 2. It has ended: some text that answers the lines is so that are answered
-- then.
-- Example: `0 head`, a newline and `0 he` were read, and writing failed in the reply. 1. Some text begins with what was
-- written that answers `0 head` and any further lines. 2. Where the source had ended too, it answers `0 head` and `0 he`.

-- what was written before the last line, and what is left in the files, by the ending; and what is so of the history after all lines, where
-- all were answered that count
abbrev pub Replies : Scheme → History → (History → Type 0) → LedgerEnding → List ℕ → List ℕ → Handed → Handed → Type 0
Replies scheme h IsSo (Run run.Done) read replies before after_all = AnswersAll scheme h IsSo None read replies before after_all
Replies scheme h IsSo (Run run.Usage) read replies before after_all = ⊥
Replies scheme h IsSo (Run run.ReadFault) read replies before after_all = AnswersAll scheme h IsSo (Some line_err.ReadFault) read replies before after_all
Replies scheme h IsSo (Run run.WriteFault) read replies before after_all = StopsSo scheme h read replies before after_all AreClean (FallsShort replies)
Replies scheme h IsSo (Run run.NoMemory) read replies before after_all = AreWhole replies × StopsSo scheme h read replies before after_all AreClean (Begins replies)
Replies scheme h IsSo (Run run.LineTooLong) read replies before after_all = AnswersAll scheme h IsSo (Some line_err.LineTooLong) read replies before after_all
Replies scheme h IsSo (Run run.ScriptTooLong) read replies before after_all = AnswersAll scheme h IsSo (Some line_err.ScriptTooLong) read replies before after_all
Replies scheme h IsSo DiskFault read replies before after_all = AreWhole replies × StopsSo scheme h read replies before after_all (AreErased h replies) (Begins replies)
Replies scheme h IsSo (Damaged damage) read replies before after_all = ⊥
Replies scheme h IsSo Empty read replies before after_all = ⊥
Replies scheme h IsSo Exists read replies before after_all = ⊥
Replies scheme h IsSo (NewerFormat found) read replies before after_all = ⊥
Replies scheme h IsSo NotaryFault read replies before after_all = ⊥
Replies scheme h IsSo (Refused why) read replies before after_all = ⊥

-- what a run of a script did on the ledger with this history: everything but the last line; and what is so of the history after all lines
pub record RunsOn (scheme : Scheme) (h : History) (IsSo : History → Type 0) (ending : LedgerEnding) (before after_all : Handed) : Type 0 where
  -- the bytes that were read, and those that were written
  pub read : List ℕ
  pub replies : List ℕ
  pub consumed : Consumes before.source.left after_all.source.left read
  pub appended : Appends before.sink.held after_all.sink.held replies
  pub replied : Replies scheme h IsSo ending read replies before after_all

-- nothing was read or written, and the notary is as it was
pub record IsUnstarted (before after_all : Handed) : Type 0 where
  pub unread : after_all.source ≡ before.source
  pub unwritten : after_all.sink ≡ before.sink
  pub unasked : after_all.notary ≡ before.notary

-- nothing more is said of the history before a run and of the one after it
abbrev pub Anything : History → History → Type 0
Anything h g = ⊤

-- a script is run on the history that a committer and its disks have, where no journal waits, with a notary that keeps a list; and this is so
-- of that history and the one after all lines
pub record Runs (scheme : Scheme) (tells : Bool) (w : World) (IsSo : History → History → Type 0) (ending : LedgerEnding) (before after_all : Handed) : Type 0 where
  pub serves : (h : History) → Holds tells w h → h.waiting ≡ [] → IsList before.notary.entries → RunsOn scheme h (IsSo h) ending before after_all
  pub ends : ReadsBy ending before.source after_all.source
  pub faults : FaultsBy ending before after_all
  pub failures : NotaryFails before after_all

-- ---- the commands

-- an ending that comes from outside: a disk failed, or memory was missing
abbrev pub IsOutsideEnding : LedgerEnding → Type 0
IsOutsideEnding ending = (ending ≡ DiskFault) ⊎ (ending ≡ Run run.NoMemory)

-- a refusal has its cause in what stands in the files; they read as before, and nothing is pending
pub record IsRefused (e : OpenErr) (before after_all : Pair) : Type 0 where
  pub cause : IsOpenErr before.a.bytes.seen before.b.bytes.seen e
  pub left : SettledAsRead before after_all

-- Files of which no ledger was run are left so: nothing is read or written, and they read as before. At an ending that is such a
-- refusal nothing is pending on them.
abbrev pub LeftAsRead : (LedgerEnding → Type 0) → LedgerEnding → Handed → Handed → Type 0
LeftAsRead IsRefusal ending before after_all =
    IsUnstarted before after_all
    × (IsOutsideEnding ending × StayAsRead before.disks after_all.disks ⊎ IsRefusal ending × SettledAsRead before.disks after_all.disks)

-- The ledger wasn't opened: a disk failed, or memory was missing. Nothing is read or written. Where memory is missing both files read
-- as before. Else they do, and what was pending may be so still, or a crash at any time leaves a pair that stands for this history
-- still. Of a pair that was clean, and of which nothing was pending, nothing changes.
pub record IsNotOpened (h : History) (ending : LedgerEnding) (before after_all : Handed) : Type 0 where
  pub outside : IsOutsideEnding ending
  pub unstarted : IsUnstarted before after_all
  pub left : ending ≡ Run run.NoMemory → StayAsRead before.disks after_all.disks
  pub images : StayAsRead before.disks after_all.disks
      ⊎ ((a b : List ℕ) → MayLeave after_all.disks.a.bytes a → MayLeave after_all.disks.b.bytes b → PairFor a b h)
  pub clean : AreQuiet before.disks → IsCleanPair before.disks.a.bytes.seen before.disks.b.bytes.seen h
      → (after_all.disks.a.bytes ≡ before.disks.a.bytes) × (after_all.disks.b.bytes ≡ before.disks.b.bytes)

-- what `run` does: the ledger that is there is opened, and the script is run on it; and this is so of its history and the one after all lines
pub record RunsAgain (scheme : Scheme) (tells : Bool) (IsSo : History → History → Type 0) (ending : LedgerEnding) (before after_all : Handed) : Type 0 where
  -- whatever history the pair stood for, where the notary keeps a list
  pub serves : IsTrue tells → (h : History) → StandFor before.disks h → IsList before.notary.entries
      → RunsOn scheme h (IsSo h) ending before after_all ⊎ IsNotOpened h ending before after_all
  -- a refusal reads and writes nothing, whatever the disks tell
  pub unstarted : IsSome (refusal_of ending) → IsUnstarted before after_all
  pub refused : IsTrue tells → IfSome (refusal_of ending) (λ e. IsRefused e before.disks after_all.disks)
  -- .. and it is never that a ledger is there
  pub only : IfSome (refusal_of ending) (λ e. e ≢ open_err.Exists)
  -- what shows damage, or is no ledger, isn't run, and a refusal has its cause
  pub exact : IsTrue tells → (e : OpenErr) → IsOpenErr before.disks.a.bytes.seen before.disks.b.bytes.seen e → (IsOutside e → ⊥)
      → LeftAsRead (λ met. IsSomeAnd (refusal_of met) (IsOpenErr before.disks.a.bytes.seen before.disks.b.bytes.seen)) ending before after_all
  pub ends : ReadsBy ending before.source after_all.source
  pub faults : FaultsBy ending before after_all
  pub failures : NotaryFails before after_all

-- The dump of this history and of the notary's list was written: whole, and where it ended early a beginning of it. At an ending
-- that tells a damage it is that of the first journal that has one, and those in front of it are written; a dump that is whole shows
-- none. Nothing is pending on the disks, and they are clean for the history.
pub record WritesDump (h : History) (ending : LedgerEnding) (before after_all : Handed) : Type 0 where
  pub result : Result (Unit {0}) DumpErr
  pub ending_is : ending ≡ ending_of_export result
  pub part : List ℕ
  pub appended : Appends before.sink.held after_all.sink.held part
  pub written : dumps.IsWritten result part (dump_text (ledger_dump h before.notary.entries))
  pub damage : dumps.TellsDamage (front_text (ledger_dump h before.notary.entries)) h result before.sink after_all.sink
  pub quiet : IsQuietFor after_all.disks h

-- the notary failed once where the ending says so, and else not
abbrev pub NotaryFailsBy : LedgerEnding → ℕ → ℕ → Type 0
NotaryFailsBy NotaryFault before now = now ≡ count_after before
NotaryFailsBy (Run ending) before now = now ≡ before
NotaryFailsBy DiskFault before now = now ≡ before
NotaryFailsBy (Damaged damage) before now = now ≡ before
NotaryFailsBy Empty before now = now ≡ before
NotaryFailsBy Exists before now = now ≡ before
NotaryFailsBy (NewerFormat found) before now = now ≡ before
NotaryFailsBy (Refused why) before now = now ≡ before

-- what `export` does: the ledger that is there is opened, and its dump is written
pub record Exports (tells : Bool) (ending : LedgerEnding) (before after_all : Handed) : Type 0 where
  -- whatever history the pair stood for
  pub serves : IsTrue tells → (h : History) → StandFor before.disks h → WritesDump h ending before after_all ⊎ IsNotOpened h ending before after_all
  pub unread : after_all.source ≡ before.source
  pub asked : dumps.IsOnlyAsked before.notary after_all.notary
  -- what shows damage, or is no ledger, isn't opened, and a refusal has its cause
  pub exact : IsTrue tells → (e : OpenErr) → IsOpenErr before.disks.a.bytes.seen before.disks.b.bytes.seen e → (IsOutside e → ⊥)
      → LeftAsRead (λ met. IsSomeAnd (refusal_of met) (IsOpenErr before.disks.a.bytes.seen before.disks.b.bytes.seen)) ending before after_all
  pub faults : FaultsBy ending before after_all
  pub notary_fails : NotaryFailsBy ending before.notary.faults after_all.notary.faults

-- the line that tells a new ledger: its id, its size and its root
abbrev pub ledger_line : Genesis → List ℕ
ledger_line genesis =
    let first = hex_of (digest (id (new_ledger genesis))) in line_of (codes "ledger") (first ∷ decimal 1 ∷ first ∷ [])

-- two files that were shut are those of the new ledger, and nothing is pending
abbrev pub IsMadeOf : Genesis → Pair → Pair → Type 0
IsMadeOf genesis before after_all = HasNone before × IsFounded genesis after_all.a.bytes after_all.b.bytes

-- What `init` wrote of the new ledger's line, and what it leaves, by the ending. Where memory is missing the ledger isn't made, or
-- it is and only its line isn't spelled.
abbrev pub MadeBy : Genesis → Bool → LedgerEnding → List ℕ → Pair → Pair → Type 0
MadeBy genesis tells (Run run.Done) written before after_all = (written ≡ ledger_line genesis) × (IsTrue tells → IsMadeOf genesis before after_all)
MadeBy genesis tells (Run run.Usage) written before after_all = ⊥
MadeBy genesis tells (Run run.ReadFault) written before after_all = ⊥
MadeBy genesis tells (Run run.WriteFault) written before after_all = FallsShort written (ledger_line genesis) × (IsTrue tells → IsMadeOf genesis before after_all)
MadeBy genesis tells (Run run.NoMemory) written before after_all = (written ≡ []) × (IsTrue tells → StayAsRead before after_all ⊎ IsMadeOf genesis before after_all)
MadeBy genesis tells (Run run.LineTooLong) written before after_all = ⊥
MadeBy genesis tells (Run run.ScriptTooLong) written before after_all = ⊥
MadeBy genesis tells DiskFault written before after_all = (written ≡ []) × (IsTrue tells → HasOpen before → StayAsRead before after_all)
MadeBy genesis tells (Damaged damage) written before after_all = ⊥
MadeBy genesis tells Empty written before after_all = ⊥
MadeBy genesis tells Exists written before after_all = (written ≡ []) × (IsTrue tells → HasOpen before × SettledAsRead before after_all)
MadeBy genesis tells (NewerFormat found) written before after_all = ⊥
MadeBy genesis tells NotaryFault written before after_all = ⊥
MadeBy genesis tells (Refused why) written before after_all = ⊥

-- a crash leaves two files that are shut, or the new ledger
abbrev pub LeaveFoundedOrShut : Genesis → Pair → Type 0
LeaveFoundedOrShut genesis disks = (a b : List ℕ) → MayLeave disks.a.bytes a → MayLeave disks.b.bytes b → IsFoundedOrShut genesis a b

-- What `init` does: it makes a new ledger, and writes one line that tells it. Both files read as before, and what was pending may be
-- so still, or a crash at any time leaves both shut, or the new ledger, where both were shut.
pub record Makes (genesis : Genesis) (tells : Bool) (ending : LedgerEnding) (before after_all : Handed) : Type 0 where
  pub written : List ℕ
  pub unread : after_all.source ≡ before.source
  pub unasked : after_all.notary ≡ before.notary
  pub appended : Appends before.sink.held after_all.sink.held written
  pub made : MadeBy genesis tells ending written before.disks after_all.disks
  pub images : IsTrue tells → StayAsRead before.disks after_all.disks ⊎ (HasNone before.disks → LeaveFoundedOrShut genesis after_all.disks)
  pub faults : FaultsBy ending before after_all

-- The new ledger wasn't made, and no script was run: a disk failed, or memory was missing; then both files read as before. Else they
-- do, and what was pending may be so still, or a crash at any time leaves both files shut, or the new ledger.
pub record IsNotMade (genesis : Genesis) (ending : LedgerEnding) (before after_all : Handed) : Type 0 where
  pub outside : IsOutsideEnding ending
  pub unstarted : IsUnstarted before after_all
  pub left : ending ≡ Run run.NoMemory → StayAsRead before.disks after_all.disks
  pub images : StayAsRead before.disks after_all.disks ⊎ LeaveFoundedOrShut genesis after_all.disks

-- what `dry` does: a new ledger is made, and the script is run on it
pub record RunsNew (scheme : Scheme) (genesis : Genesis) (tells : Bool) (ending : LedgerEnding) (before after_all : Handed) : Type 0 where
  pub serves : IsTrue tells → HasNone before.disks → IsList before.notary.entries → RunsOn scheme (new_ledger genesis) (Anything (new_ledger genesis)) ending before after_all ⊎ IsNotMade genesis ending before after_all
  -- a refusal reads and writes nothing, whatever the disks tell
  pub unstarted : IsSome (refusal_of ending) → IsUnstarted before after_all
  -- .. and there is one, whatever the disks tell
  pub only : IfSome (refusal_of ending) (λ e. e ≡ open_err.Exists)
  pub left : IsTrue tells → HasOpen before.disks → LeftAsRead (λ met. met ≡ Exists) ending before after_all
  pub ends : ReadsBy ending before.source after_all.source
  pub faults : FaultsBy ending before after_all
  pub failures : NotaryFails before after_all

-- what `sign`, `chainkey` and `chainsign` do: they write one text, and touch nothing else
pub record Signs (written_text : List ℕ) (ending : LedgerEnding) (before after_all : Handed) : Type 0 where
  pub plain : Ending
  pub ending_is : ending ≡ Run plain
  pub wrote : Wrote written_text plain (outside_of before) (outside_of after_all)
  pub disks_are : after_all.disks ≡ before.disks
  pub notary_is : after_all.notary ≡ before.notary

-- the ending that the end of a soak brings
abbrev pub ending_of_soak : SoakEnd → Ending
ending_of_soak soak.Done = run.Done
ending_of_soak soak.WriteFault = run.WriteFault
ending_of_soak soak.NoMemory = run.NoMemory

-- what `soak` does: it writes the line of a soak with these numbers, and touches nothing else
pub record Soaks (seed count stop : ℕ) (ending : LedgerEnding) (before after_all : Handed) : Type 0 where
  pub end : SoakEnd
  pub ending_is : ending ≡ Run (ending_of_soak end)
  pub soaked : Soaked seed count stop end before.sink after_all.sink
  pub source_is : after_all.source ≡ before.source
  pub disks_are : after_all.disks ≡ before.disks
  pub notary_is : after_all.notary ≡ before.notary

-- What `board` does: the ledger that is there is opened, and the script is run on it, as `run` does, with so many provers beside it.
-- Behind the replies their lines are written, with sizes of lists that were published.
pub record RunsBoard (scheme : Scheme) (tells : Bool) (provers count : ℕ) (ending : LedgerEnding) (before after_all : Handed) : Type 0 where
  -- how the script's run ended, and what it left
  pub met : LedgerEnding
  pub mid : Handed
  -- what the provers did, and the size that was published last
  pub tallies : List Tally
  pub published : ℕ
  pub ran : RunsAgain scheme tells (TellsSizes tallies published) met before mid
  pub told : TellsBehind (λ h. IsTrue tells × StandFor before.disks h) provers count tallies published met ending (outside_of mid) (outside_of after_all)
  pub disks_are : after_all.disks ≡ mid.disks
  pub notary_is : after_all.notary ≡ mid.notary
  pub faults : FaultsBy ending before after_all

-- What a run of the program did whose notary keeps its list on a disk, or in memory where no folder is named.
use Rattle.std.specs.Prelude.{◌≡◌, ◌⊎◌, ℕ, Bool, true, false, IsTrue, IsSome, List, [], Option, Some, None, codes}
use Rattle.ledger_bytes.specs.Causes.{Rose, count_after}
use Rattle.ledger_bytes.specs.declared.digest.Digest.{Digest}
use Rattle.batch_committer.specs.World.{Pair}
use Rattle.block_file.specs.declared.failure.FileErr.{FileErr}
use Rattle.block_file.specs.declared.failure.FileErr.TheVariants as files
use Rattle.ledger_disk.specs.Disk.{DiskState, MayLeave}
use Rattle.ledger_io.specs.Outside.{SourceState, SinkState}
use Rattle.ledger_io.specs.Writing.{WritesLast}
use Rattle.ledger_io.specs.declared.ending.Ending.TheVariants as run
use Rattle.ledger_model.specs.Scheme.{Scheme}
use Rattle.notary_ledger.specs.Notaries.{memory_origin}
use Rattle.notary_ledger.specs.Opening.{KeepsList}
use Rattle.notary_ledger.specs.Slots.{Lists, MayList}
use Rattle.time_peg.specs.Entries.{IsList, Making, NotaryState, Times}
use Rattle.ledger_cli.specs.Endings.{last_line}
use Rattle.ledger_cli.specs.Program.{RanProgram}
use Rattle.ledger_cli.specs.Runs.{Handed, handed}
use Rattle.ledger_cli.specs.declared.ending.LedgerEnding.{LedgerEnding}
use Rattle.ledger_cli.specs.declared.ending.LedgerEnding.TheVariants.{Run, DiskFault}
use Rattle.ledger_cli.specs.declared.words.Command.{Command}
use Rattle.ledger_cli.specs.declared.words.Command.TheVariants as command

-- all that the program is handed: what it reads from, what it writes to, the two disks of the ledger, and the disk on which the
-- notary keeps its list
pub record Given : Type 0 where
  pub source : SourceState
  pub sink : SinkState
  pub disks : Pair
  pub keeper : DiskState

-- the same by its parts
abbrev pub given : SourceState → SinkState → Pair → DiskState → Given
given source sink disks keeper = record { source = source; sink = sink; disks = disks; keeper = keeper }

-- what a run is handed, with a notary in place of the disk on which its list is
abbrev pub with_notary : Given → NotaryState → Handed
with_notary x notary = handed x.source x.sink x.disks notary

-- a notary that has stamped nothing and never failed
abbrev pub new_notary : NotaryState
new_notary = record { origin = memory_origin; entries = []; faults = 0 }

-- a command names a folder, in which the notary has its file too
abbrev pub names_folder : Option Command → Bool
names_folder (Some (command.Init genesis)) = true
names_folder (Some command.Run) = true
names_folder (Some command.Export) = true
names_folder (Some (command.Lineage clue from)) = true
names_folder (Some (command.Board provers count)) = true
names_folder (Some (command.Keep point numbers)) = true
names_folder (Some (command.Carry point)) = true
names_folder (Some command.Revive) = true
names_folder (Some (command.Dry genesis)) = false
names_folder (Some (command.Sign signing)) = false
names_folder (Some (command.Chain text)) = false
names_folder (Some (command.Soak seed count stop)) = false
names_folder None = false

-- how a run ends whose notary can't be taken up
abbrev pub ending_of_keeper : FileErr → LedgerEnding
ending_of_keeper files.DiskFault = DiskFault
ending_of_keeper (files.Damaged damage) = DiskFault
ending_of_keeper (files.NewerFormat found) = DiskFault
ending_of_keeper files.NoMemory = Run run.NoMemory

-- ---- a notary and its disk

-- the notary was taken up from its disk: it has the list that the disk reads as, which is one that a notary may keep, has failed as
-- often, and makes its entries so
pub record IsTakenUp (tells : Bool) (keeper : DiskState) (making : Making) (notary : NotaryState) : Type 0 where
  pub list : IsTrue tells → Lists notary.entries keeper.bytes.seen
  pub lawful : IsList notary.entries
  pub origin : notary.origin ≡ record { making = Some making; faults = keeper.faults }
  pub faults : notary.faults ≡ keeper.faults

-- what a crash may leave of the disk has the notary's list, or that and one entry, whose stamp failed: one that isn't there where
-- no call of the disk failed since the notary was taken up
pub record IsLeftBy (tells : Bool) (notary : NotaryState) (keeper : DiskState) : Type 0 where
  pub half : Option (List ℕ)
  pub images : IsTrue tells → (image : List ℕ) → MayLeave keeper.bytes image → MayList notary.entries half image
  pub failed : IsSome half → Rose notary.origin.faults keeper.faults
  pub faults : keeper.faults ≡ notary.faults

-- what a crash may leave of the disk has the list of something that a crash might have left before
abbrev pub IsLeftListed : Bool → DiskState → DiskState → Type 0
IsLeftListed tells before after = IsTrue tells → (image : List ℕ) → MayLeave after.bytes image → KeepsList before.bytes image

-- nothing was done with the disk
abbrev pub IsUntouched : DiskState → DiskState → Type 0
IsUntouched before after = after ≡ before

-- ---- runs

-- a run with a new notary in memory, which doesn't fail
pub record RanInMemory (scheme : Scheme) (tells : Bool) (words : Option Command) (status : ℕ) (before after_all : Given) : Type 0 where
  pub notary : NotaryState
  pub unfailed : notary.faults ≡ 0
  pub ran : RanProgram scheme tells words status (with_notary before new_notary) (with_notary after_all notary)
  pub keeper_is : after_all.keeper ≡ before.keeper

-- a run with the notary that the disk keeps, which makes its entries so
pub record RanOnKeeper (scheme : Scheme) (tells keeps : Bool) (making : Making) (words : Option Command) (status : ℕ) (before after_all : Given) : Type 0 where
  pub first : NotaryState
  pub last : NotaryState
  pub taken_up : IsTakenUp keeps before.keeper making first
  pub stays : last.origin ≡ first.origin
  pub left : IsLeftBy keeps last after_all.keeper
  pub ran : RanProgram scheme tells words status (with_notary before first) (with_notary after_all last)

-- a run that wasn't begun: nothing is read, and the ledger's disks aren't touched; this is its last line
pub record IsUnbegun (line : List ℕ) (before after_all : Given) : Type 0 where
  pub unread : after_all.source ≡ before.source
  pub untouched : after_all.disks ≡ before.disks
  pub last : WritesLast line before.sink after_all.sink

-- a run that wasn't begun for want of a seed of salts
pub record WantsSeed (status : ℕ) (before after_all : Given) : Type 0 where
  pub unbegun : IsUnbegun (codes "fail 2 seed\n") before after_all
  pub status_is : status ≡ 2
  pub keeper_is : after_all.keeper ≡ before.keeper

-- a run that wasn't begun for want of memory, and what that leaves of the notary's disk
pub record WantsMemory (IsLeft : DiskState → DiskState → Type 0) (words : Option Command) (status : ℕ) (before after_all : Given) : Type 0 where
  pub unbegun : IsUnbegun (last_line (Run run.NoMemory)) before after_all
  pub status_is : status ≡ 6
  pub words_are : IsSome words
  pub left : IsLeft before.keeper after_all.keeper
  pub faults : after_all.keeper.faults ≡ before.keeper.faults

-- a run that wasn't begun since the notary's disk failed
pub record KeeperFailed (keeps : Bool) (status : ℕ) (before after_all : Given) : Type 0 where
  pub unbegun : IsUnbegun (last_line DiskFault) before after_all
  pub status_is : status ≡ 4
  pub listed : IsLeftListed keeps before.keeper after_all.keeper
  pub faults : after_all.keeper.faults ≡ count_after before.keeper.faults

-- which of these came, by whether the words name a folder, and whether there is a seed of salts; only a folder has a notary
-- that is kept, whose salts come from the seed
abbrev pub RanWith : Scheme → Bool → Bool → Times → Option Command → Bool → Option Digest → ℕ → Given → Given → Type 0
RanWith scheme tells keeps times words false seed status before after_all =
    RanInMemory scheme tells words status before after_all ⊎ WantsMemory IsUntouched words status before after_all
RanWith scheme tells keeps times words true None status before after_all =
    WantsSeed status before after_all ⊎ WantsMemory IsUntouched words status before after_all
RanWith scheme tells keeps times words true (Some seed) status before after_all =
    RanOnKeeper scheme tells keeps (record { seed = seed.0; times = times }) words status before after_all
    ⊎ (KeeperFailed keeps status before after_all ⊎ WantsMemory (IsLeftListed keeps) words status before after_all)

-- which of these came of a run with some words
abbrev pub RanMain : Scheme → Bool → Bool → Times → Option Command → Option Digest → ℕ → Given → Given → Type 0
RanMain scheme tells keeps times words seed status before after_all =
    RanWith scheme tells keeps times words (names_folder words) seed status before after_all

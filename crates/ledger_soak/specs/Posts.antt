-- A ledger in memory with its committer, and what becomes of it where a line is taken, and at a stop.
use Rattle.std.specs.Prelude.{◌≡◌, ◌⊎◌, ℕ, Bool, true, List, [], Some}
use Rattle.ledger_disk.specs.Disk.{DiskState, MayLeave}
use Rattle.ledger_disk.specs.Fuse.{fuse_state}
use Rattle.ledger_disk.specs.Memory.{memory_state, memory_faults, told_len}
use Rattle.ledger_disk.specs.declared.fuse.FuseDisk.{FuseDisk}
use Rattle.ledger_disk.specs.declared.memory.MemDisk.{MemDisk}
use Rattle.ledger_model.specs.Dues.{due_of, due_line}
use Rattle.ledger_model.specs.History.{History, close}
use Rattle.ledger_model.specs.Rules.{judged_at, after_job}
use Rattle.ledger_model.specs.Step.{Step}
use Rattle.ledger_model.specs.declared.job.Job.{Job}
use Rattle.time_peg.specs.Entries.{NotaryState}
use Rattle.notary_ledger.specs.Notaries.{MemShown, memory_origin}
use Rattle.ledger_open.specs.Standing.{PairFor}
use Rattle.batch_committer.specs.Attending.{Attended, step_in}
use Rattle.batch_committer.specs.World.{World, Pair, Holds}
use Rattle.batch_committer.specs.declared.failure.CommitErr.{CommitErr}
use Rattle.batch_committer.specs.declared.failure.CommitErr.TheVariants as ends
use Rattle.ledger_soak.specs.declared.post.Halt.{Halt}
use Rattle.ledger_soak.specs.declared.post.Halt.TheVariants.{Stopped, NoMemory}

-- all that a clause knows of a disk in memory
abbrev pub memory_disk : MemDisk → DiskState
memory_disk disk = record { bytes = memory_state disk; told = told_len disk; faults = memory_faults disk }

-- all that a clause knows of a disk in memory behind a fuse
abbrev pub fused_disk : FuseDisk MemDisk → DiskState
fused_disk disk = fuse_state memory_disk disk

-- all that a clause knows of a notary in memory
abbrev pub notary_state : MemShown → NotaryState
notary_state notary = record { origin = memory_origin; entries = notary.entries; faults = notary.faults }

-- how a soak ends a job in which the committer met this end
abbrev pub halt_of : CommitErr → Halt
halt_of ends.DiskFault = Stopped
halt_of ends.WriteFault = NoMemory
halt_of ends.NoMemory = NoMemory
halt_of ends.Closed = NoMemory

-- what a committer, its disks and its sink tell, and whether a call has ended its run
pub record Posted : Type 0 where
  pub world : World
  pub ended : Bool

-- A job was taken as a window of one line: whatever the history is, it is the one behind the window, the notary took part, and
-- the sink has the line that is due.
pub record TakesWindow (w t : World) (n m : NotaryState) (step : Step) (job : Job) : Type 0 where
  pub holds : (h : History) → Holds true w h → Holds true t (close (after_job h step job))
  pub attended : (h : History) → Holds true w h → Attended n m (judged_at h job) step job
  pub dues : t.kept.dues ≡ []
  pub text : (h : History) → Holds true w h → t.sink.held ≡ Some (due_line (close (after_job h step job)) (due_of h step job))

-- each pair of images that a stop may leave stands for one of two histories
abbrev pub LeavesEither : Pair → History → History → Type 0
LeavesEither disks h g = (i j : List ℕ) → MayLeave disks.a.bytes i → MayLeave disks.b.bytes j
    → PairFor i j h ⊎ PairFor i j g

-- a disk failed while a job was taken as a window of one line: what is left has the job's entry or hasn't, and the notary took
-- part
pub record StopsInWindow (w t : World) (n m : NotaryState) (step : Step) (job : Job) : Type 0 where
  pub leaves : (h : History) → Holds true w h → h.waiting ≡ [] → LeavesEither t.disks h (close (after_job h step job))
  pub attended : (h : History) → Holds true w h → Attended n m (judged_at h job) step job

-- a disk failed before the job had a part in anything: nothing of it is left, and the notary is as it was
pub record StopsBefore (w t : World) (n m : NotaryState) : Type 0 where
  pub leaves : (h : History) → Holds true w h → h.waiting ≡ [] → LeavesEither t.disks h h
  pub same : m ≡ n

-- a disk failed while a job was taken: in its window, or before the step was begun
abbrev pub StopsTaking : World → World → NotaryState → NotaryState → Job → Type 0
StopsTaking w t n m job =
    ((failed : Bool) × ((line : List ℕ) → StopsInWindow w t n m (step_in n m failed 0 1 line) job)) ⊎ StopsBefore w t n m

-- the ledger and its disks are as before, but for the counts of faults
pub record SameButFaults (w t : World) : Type 0 where
  pub kept : t.kept ≡ w.kept
  pub a : t.disks.a.bytes ≡ w.disks.a.bytes
  pub b : t.disks.b.bytes ≡ w.disks.b.bytes

-- what a stop left was opened again: for some pair of images the ledger is each history that the pair stands for, and nothing
-- is due
pub record OpensLeft (old new : World) : Type 0 where
  pub a : List ℕ
  pub b : List ℕ
  pub left_a : MayLeave old.disks.a.bytes a
  pub left_b : MayLeave old.disks.b.bytes b
  pub holds : (h : History) → PairFor a b h → Holds true new h
  pub dues : new.kept.dues ≡ []

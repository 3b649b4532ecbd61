-- A post of a new ledger, and of one that is opened again.
use Rattle.std.specs.Prelude.{Bool, true, false, IsSomeAnd}
use Rattle.std.proofs.Common.{◌≡◌, ℕ, ◌+◌, ◌≤◌, List, [], Option, None, refl, ap, sym, subst, ◌∙◌}
use Rattle.block_file.specs.declared.file.BlockFile.{BlockFile}
use Rattle.journal_record.specs.Entry.{Entry}
use Rattle.ledger_disk.specs.Disk.{State}
use Rattle.ledger_io.specs.Outside.{SinkState}
use Rattle.ledger_model.specs.Genesis.{HasKeys, new_ledger}
use Rattle.ledger_model.specs.History.{History}
use Rattle.ledger_model.specs.Limits.{real_limits}
use Rattle.ledger_model.specs.declared.genesis.Genesis.{Genesis}
use Rattle.pseudo_genesis.specs.declared.base.Base.{Base}
use Rattle.ledger_open.specs.Heads.{Edition, edition_from, edition_of}
use Rattle.ledger_open.specs.Founding.{IsFounded}
use Rattle.ledger_open.specs.Opening.{Known, Knows}
use Rattle.ledger_open.specs.Reopened.{Remembers, IsReopened}
use Rattle.ledger_open.specs.Standing.{PairFor}
use Rattle.twin_file.specs.Twin.{open_of}
use Rattle.batch_committer.specs.Opened.{kept_from, IsOpened}
use Rattle.batch_committer.specs.World.{CommitterState, Pair, World, world, first_kept, Fits, HasRoom, Holds, ReadsAsLeft}
use Rattle.batch_committer.specs.declared.failure.CommitErr.{CommitErr}
use Rattle.batch_committer.specs.declared.failure.CommitErr.TheVariants as ends
use Rattle.batch_committer.proofs.Opening.{opened_held, opened_fits, opened_room, founded_held, founded_fits, told_at}
use Rattle.ledger_soak.specs.Posts.{SameButFaults, halt_of}
use Rattle.ledger_soak.specs.declared.post.Halt.TheVariants.{Stopped, NoMemory}

-- ---- ends

-- only a disk's failure stops a job
pub stopped_by : (end : CommitErr) → halt_of end ≡ Stopped → end ≡ ends.DiskFault
stopped_by ends.DiskFault is = refl
stopped_by ends.WriteFault is = absurd (let no_such : NoMemory ≡ Stopped = is in let bad : ⊥ = cc in bad)
stopped_by ends.NoMemory is = absurd (let no_such : NoMemory ≡ Stopped = is in let bad : ⊥ = cc in bad)
stopped_by ends.Closed is = absurd (let no_such : NoMemory ≡ Stopped = is in let bad : ⊥ = cc in bad)

-- ---- a new ledger

remembered : {k : Known} {start : Option Base} {blocks : List (List Entry)} → Knows k start blocks → Remembers k start blocks
remembered n = record { serves = λ none. n.serves; lawful = n.lawful; floor = n.floor; places = n.places; tail = n.tail; settled = n.settled }

-- what making a ledger tells
pub record WasMade (k : Known) (genesis : Genesis) (disks : Pair) (in_a : Bool) (edition : Edition) (copy : Option BlockFile) : Type 0 where
  pub keys : HasKeys genesis
  pub knows : Knows k None (new_ledger genesis).closed
  pub first : in_a ≡ true
  pub one : edition ≡ edition_from 2 1
  pub none : copy ≡ None
  pub told : IsSomeAnd disks.a.told (λ n. k.gate + 1 ≤ n)
  pub limits : k.book.limits ≡ real_limits
  pub founded : IsFounded genesis disks.a.bytes disks.b.bytes

module _ (k : Known) (genesis : Genesis) (disks : Pair) (in_a : Bool) (edition : Edition) (copy : Option BlockFile) (sink : SinkState) (x : WasMade k genesis disks in_a edition copy)
    (kept : CommitterState) (is : kept ≡ first_kept k.book k.places k.gate in_a edition copy) where
  made : kept ≡ kept_from k true (edition_from 2 1)
  made = is ∙ ap (λ v. first_kept k.book k.places k.gate v edition copy) x.first ∙ ap (λ n. first_kept k.book k.places k.gate true n copy) x.one ∙ ap (first_kept k.book k.places k.gate true (edition_from 2 1)) x.none

  made_opened : IsOpened k true disks None (new_ledger genesis).closed
  made_opened = record { knows = remembered x.knows; told = x.told }

  pub made_holds : Holds true (world kept disks sink) (new_ledger genesis)
  made_holds = subst (λ (y : CommitterState). Holds true (world y disks sink) (new_ledger genesis)) (sym made) (founded_held true k genesis disks sink x.keys made_opened x.limits refl x.founded)

  pub made_fits : Fits true (world kept disks sink) × HasRoom kept
  made_fits = (
    subst (λ (y : CommitterState). Fits true (world y disks sink)) (sym made) (founded_fits true k genesis disks sink x.keys made_opened (λ told. x.founded)),
    subst HasRoom (sym made) (opened_room k true (edition_from 2 1) None (new_ledger genesis).closed disks made_opened),
  )

  pub made_none : kept.dues ≡ []
  made_none = ap (λ (y : CommitterState). y.dues) made

-- ---- one that is opened again

pub record WasOpened (k : Known) (a b : State) (disks : Pair) (in_a : Bool) (edition : Edition) (copy : Option BlockFile) : Type 0 where
  pub start : Option Base
  pub blocks : List (List Entry)
  pub remembers : Remembers k start blocks
  pub reopened : IsReopened in_a k start blocks a b disks.a.bytes disks.b.bytes
  pub told : IsSomeAnd (open_of in_a disks.a.told disks.b.told) (λ n. k.gate + 1 ≤ n)
  pub edition_is : edition ≡ edition_of (open_of in_a disks.a.bytes disks.b.bytes).seen
  pub none : copy ≡ None
  pub limits : k.book.limits ≡ real_limits

module _ (k : Known) (a b : State) (disks : Pair) (in_a : Bool) (edition : Edition) (copy : Option BlockFile) (sink : SinkState) (x : WasOpened k a b disks in_a edition copy)
    (kept : CommitterState) (is : kept ≡ first_kept k.book k.places k.gate in_a edition copy) where
  again : kept ≡ kept_from k in_a edition
  again = is ∙ ap (first_kept k.book k.places k.gate in_a edition) x.none

  again_opened : IsOpened k in_a disks x.start x.blocks
  again_opened = record { knows = x.remembers; told = told_at in_a disks.a disks.b k.gate x.told }

  pub again_fits : Fits true (world kept disks sink) × HasRoom kept
  again_fits = (
    subst (λ (y : CommitterState). Fits true (world y disks sink)) (sym again) (opened_fits true k in_a edition x.start x.blocks a b disks sink again_opened (λ told. x.reopened) (λ told. x.edition_is)),
    subst HasRoom (sym again) (opened_room k in_a edition x.start x.blocks disks again_opened),
  )

  pub again_none : kept.dues ≡ []
  again_none = ap (λ (y : CommitterState). y.dues) again

  pub again_holds : (h : History) → PairFor a.seen b.seen h → Holds true (world kept disks sink) h
  again_holds h p = subst (λ (y : CommitterState). Holds true (world y disks sink) h) (sym again) (opened_held true k in_a edition x.start x.blocks a b disks sink h again_opened x.limits refl x.reopened p)

-- ---- the counts of faults play no part

pub holds_same : (w t : World) → SameButFaults w t → (h : History) → Holds true w h → Holds true t h
holds_same w t same h p =
    subst (λ (k : CommitterState). Holds true (world k t.disks t.sink) h) (sym same.kept)
    (record { told = p.told; keeps = p.keeps; disks = rw (same.a, same.b) p.disks })

-- what is asked of a file doesn't depend on the counts either
pub fits_same : (kept : CommitterState) (p q : Pair) (sink : SinkState) → q.a.bytes ≡ p.a.bytes → q.a.told ≡ p.a.told → q.b.bytes ≡ p.b.bytes → q.b.told ≡ p.b.told → Fits true (world kept p sink) → Fits true (world kept q sink)
fits_same kept p q sink a at b bt f = record {
  reads = reads_so kept.in_a f.reads;
  edition = λ t. f.edition t ∙ bytes_so kept.in_a;
  copy = f.copy;
  few = f.few;
  order = f.order;
  next = f.next;
  some = f.some;
  room = f.room;
  spelled = f.spelled;
  owed = f.owed;
  clear = f.clear;
} where
  reads_so : (in_a : Bool) → ReadsAsLeft true kept.gate (open_of in_a p.a p.b) → ReadsAsLeft true kept.gate (open_of in_a q.a q.b)
  reads_so true r = record { told = rw at r.told; shut = λ t. rw a (r.shut t) }
  reads_so false r = record { told = rw bt r.told; shut = λ t. rw b (r.shut t) }

  bytes_so : (in_a : Bool) → edition_of (open_of in_a p.a p.b).bytes.seen ≡ edition_of (open_of in_a q.a q.b).bytes.seen
  bytes_so true = ap (λ (s : State). edition_of s.seen) (sym a)
  bytes_so false = ap (λ (s : State). edition_of s.seen) (sym b)

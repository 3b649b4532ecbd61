-- A committer of a ledger that was made or opened just now.
use Rattle.std.specs.Prelude.{ℕ, ◌+◌, ◌≤◌, Bool, IsSomeAnd, List, Option, None}
use Rattle.journal_record.specs.Entry.{Entry}
use Rattle.block_file.specs.File.{IsSettled}
use Rattle.ledger_disk.specs.Disk.{MayLeave}
use Rattle.ledger_model.specs.History.{History}
use Rattle.twin_file.specs.Twin.{open_of}
use Rattle.pseudo_genesis.specs.declared.base.Base.{Base}
use Rattle.ledger_open.specs.Heads.{Edition}
use Rattle.ledger_open.specs.Opening.{Known}
use Rattle.ledger_open.specs.Reopened.{Remembers}
use Rattle.ledger_open.specs.Standing.{PairFor, IsCleanPair}
use Rattle.batch_committer.specs.World.{CommitterState, Pair, first_kept}

-- what a committer begins with on a ledger of which this is known: nothing is due, and no journal waits
abbrev pub kept_from : Known → Bool → Edition → CommitterState
kept_from known in_a edition = first_kept known.book known.places known.gate in_a edition None

-- a ledger was made or opened: its file has this base, or none, and these blocks, and the length of that file is told
pub record IsOpened (known : Known) (in_a : Bool) (disks : Pair) (start : Option Base) (blocks : List (List Entry)) : Type 0 where
  pub knows : Remembers known start blocks
  pub told : IsSomeAnd (open_of in_a disks.a disks.b).told (λ n. known.gate + 1 ≤ n)

-- nothing is pending on two disks, the pair is clean for this history, and each pair of images stands for it
pub record IsQuietFor (disks : Pair) (h : History) : Type 0 where
  pub a : IsSettled disks.a.bytes
  pub b : IsSettled disks.b.bytes
  pub clean : IsCleanPair disks.a.bytes.seen disks.b.bytes.seen h
  pub images : (a b : List ℕ) → MayLeave disks.a.bytes a → MayLeave disks.b.bytes b → PairFor a b h

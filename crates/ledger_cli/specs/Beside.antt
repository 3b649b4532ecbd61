-- What a session does with provers beside it.
use Rattle.std.specs.Prelude.{◌≡◌, ◌⊎◌, ℕ, ◌-◌, Bool, None, Some, All, List, [], ◌∷◌, ◌++◌, Result, Ok, IfOk, map, take, drop}
use Rattle.sha2.specs.Sha256.{sha256}
use Rattle.merkle_batch.specs.Rows.{Levels, StandsFor}
use Rattle.proof_board.specs.History.{Digests}
use Rattle.batch_committer.specs.World.{World, pair, world, Holds}
use Rattle.ledger_disk.specs.Disk.{DiskState}
use Rattle.time_peg.specs.Entries.{NotaryState}
use Rattle.ledger_bytes.specs.declared.failure.NoMemory.{NoMemory}
use Rattle.ledger_model.specs.Scheme.{Scheme}
use Rattle.proof_board.specs.Words.{shown_by, history_of, waiting_of}
use Rattle.proof_board.specs.declared.hands.Tally.{Tally}
use Rattle.ledger_io.specs.Outside.{Outside, SourceState, SinkState}
use Rattle.ledger_io.specs.Runs.{Wrote}
use Rattle.ledger_io.specs.declared.ending.Ending.{Ending}
use Rattle.ledger_io.specs.declared.ending.Ending.TheVariants as run
use Rattle.ledger_cli.specs.Boards.{Posted, posted, published_size, board_text, EndsWith, TellsBehind, TellsSizes}
use Rattle.ledger_cli.specs.Endings.{refusal_of}
use Rattle.ledger_cli.specs.Runs.{Handed, handed, outside_of, Runs}
use Rattle.ledger_cli.specs.declared.ending.LedgerEnding.{LedgerEnding}
use Rattle.ledger_cli.specs.declared.ending.LedgerEnding.TheVariants.{Run}
use Rattle.ledger_cli.specs.declared.scripted.Script.{Script}
use Rattle.ledger_cli.specs.declared.posting.Posting.{Posting}

-- what is known of the board that a writer posts to
abbrev pub posted_by : {R : Type 0} → Posting R → Posted
posted_by p = posted (shown_by p.writer) (waiting_of p.writer) p.lacking

-- a writer published one batch: the leaves of each list that a tree stands for, from where the published list ended up to this size
pub record IsPublished {R : Type 0} (old new : Posting R) (tree : Levels) (to : ℕ) : Type 0 where
  pub batch : Digests
  pub history : history_of new.writer ≡ history_of old.writer ++ batch ∷ []
  pub size_is : published_size (shown_by new.writer) ≡ to
  pub none_waits : waiting_of new.writer ≡ []
  pub leaves : (ds : Digests) → StandsFor sha256 tree ds → batch ≡ take (to - old.size) (drop old.size ds)

-- the tallies of provers of which none lacked memory are these
abbrev pub AreTallies : List (Result Tally NoMemory) → List Tally → Type 0
AreTallies results tallies = results ≡ map Ok tallies

-- each prover that didn't lack memory made this many proofs that were accepted
abbrev pub AllAccepted : ℕ → List (Result Tally NoMemory) → Type 0
AllAccepted count results = All (λ r. IfOk r (λ t. t.accepted ≡ count)) results

-- the lines of these provers were written, whole or in part, or there was no memory for them; where one lacked memory there are none
abbrev pub WritesTallies : List (Result Tally NoMemory) → ℕ → LedgerEnding → Outside → Outside → Type 0
WritesTallies results published ending before after_all =
    ((tallies : List Tally) × AreTallies results tallies × ((plain : Ending) × (ending ≡ Run plain) × Wrote (board_text tallies published) plain before after_all))
    ⊎ EndsWith (Run run.NoMemory) ending before after_all

-- the world in which a script is run, by what a disk and a sink tell
abbrev pub world_of : {S K D N W : Type 0} → (D → DiskState) → (K → SinkState) → Script S K D N W → World
world_of disk sink s = world s.committer.now.kept (pair (disk s.a.now) (disk s.b.now)) (sink s.sink.now)

-- what a script's run is handed
abbrev pub handed_to : {S K D N W : Type 0} → (S → SourceState) → (K → SinkState) → (D → DiskState) → (N → NotaryState) → Script S K D N W → Handed
handed_to source sink disk notary s = handed (source s.source.now) (sink s.sink.now) (pair (disk s.a.now) (disk s.b.now)) (notary s.notary.now)

-- the references are those that were handed in
abbrev pub SameScript : {S K D N W : Type 0} → Script S K D N W → Script S K D N W → Type 0
SameScript old new =
    (new.committer.ghost_name ≡ old.committer.ghost_name) × (new.a.ghost_name ≡ old.a.ghost_name) × (new.b.ghost_name ≡ old.b.ghost_name)
    × (new.source.ghost_name ≡ old.source.ghost_name) × (new.sink.ghost_name ≡ old.sink.ghost_name) × (new.notary.ghost_name ≡ old.notary.ghost_name)
    × (new.follower.ghost_name ≡ old.follower.ghost_name)

-- A script was run on the history that a committer and its disks have, as without provers, with so many of them beside it, and their
-- lines were written behind the replies.
pub record RunsBeside (scheme : Scheme) (tells : Bool) (w : World) (provers count : ℕ) (ending : LedgerEnding) (before after_all : Handed) : Type 0 where
  pub met : LedgerEnding
  pub mid : Handed
  -- what the provers did, and the size that was published last
  pub tallies : List Tally
  pub published : ℕ
  pub ran : Runs scheme tells w (TellsSizes tallies published) met before mid
  pub unrefused : refusal_of met ≡ None
  pub told : TellsBehind (Holds tells w) provers count tallies published met ending (outside_of mid) (outside_of after_all)
  pub disks_are : after_all.disks ≡ mid.disks
  pub notary_is : after_all.notary ≡ mid.notary

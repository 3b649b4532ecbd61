-- What a desk tells, which is a committer with its disks, its sink, its notary and what follows it, each by reference; and what it does with a piece.
use Rattle.std.specs.Prelude.{◌≡◌, Bool, false, List, [], ◌∷◌, ℕ, Option, Result, MatchResult}
use Rattle.batch_committer.specs.World.{pair}
use Rattle.batch_committer.specs.declared.failure.CommitErr.{CommitErr}
use Rattle.lane_work.specs.declared.kinds.LaneLine.{LaneLine}
use Rattle.ledger_disk.specs.Disk.{DiskState}
use Rattle.ledger_io.specs.Outside.{SourceState, SinkState}
use Rattle.ledger_model.specs.Scheme.{Scheme}
use Rattle.time_peg.specs.Entries.{NotaryState}
use Rattle.ledger_cli.specs.Boards.{Posted, is_lacking, lasting_of}
use Rattle.ledger_cli.specs.Pieces.{At, at, IsOpen, Told, told, stays, PieceTaken, PieceBroken, WindowTaken, WindowBroken}
use Rattle.ledger_cli.specs.Runs.{Handed, handed}
use Rattle.ledger_cli.specs.declared.desk.Desk.{Desk}

-- what a desk's parts tell, by what a disk, a sink, a notary and a follower tell
abbrev pub at_desk : {D K N W : Type 0} → (D → DiskState) → (K → SinkState) → (N → NotaryState) → (W → Option Posted) → Desk D K N W → At
at_desk disk sink notary board s =
    at s.committer.now (pair (disk s.a.now) (disk s.b.now)) (sink s.sink.now) (notary s.notary.now) (board s.follower.now)

-- the names of a desk's references
abbrev pub names_at : {D K N W : Type 0} → Desk D K N W → List ℕ
names_at s = s.committer.ghost_name ∷ s.a.ghost_name ∷ s.b.ghost_name ∷ s.sink.ghost_name ∷ s.notary.ghost_name ∷ s.follower.ghost_name ∷ []

-- what a desk tells, with what stays of it and the end that it met
abbrev pub told_desk : {D K N W : Type 0} → (D → DiskState) → (K → SinkState) → (N → NotaryState) → (W → Option Posted) → Desk D K N W → Told
told_desk disk sink notary board s = told (stays (names_at s) (lasting_of (board s.follower.now))) s.end (at_desk disk sink notary board s)

-- the references are those that were handed in, and the board that follows is the same
abbrev pub SameDesk : {D K N W : Type 0} → (W → Option Posted) → Desk D K N W → Desk D K N W → Type 0
SameDesk board old new =
    (new.committer.ghost_name ≡ old.committer.ghost_name) × (new.a.ghost_name ≡ old.a.ghost_name) × (new.b.ghost_name ≡ old.b.ghost_name)
    × (new.sink.ghost_name ≡ old.sink.ghost_name) × (new.notary.ghost_name ≡ old.notary.ghost_name) × (new.follower.ghost_name ≡ old.follower.ghost_name)
    × (lasting_of (board new.follower.now) ≡ lasting_of (board old.follower.now))

-- what a run is handed with them
abbrev pub handed_at : SourceState → At → Handed
handed_at source s = handed source s.sink s.disks s.notary

-- the lines of a piece were taken, and more may be offered; or the run ended on the way
abbrev pub TakesLines : {T : Type 0} → Scheme → Bool → List ℕ → List LaneLine → Result T CommitErr → At → At → Type 0
TakesLines scheme tells first lines result s t =
    MatchResult result (λ _. PieceTaken scheme tells first lines s t × IsOpen tells t) (λ end. PieceBroken scheme tells first lines end s t)

-- the lines of a piece were taken and the open block was ended, behind which nothing waits, and memory wasn't missing for the board; or the
-- run ended on the way
abbrev pub TakesWindow : {T : Type 0} → Scheme → Bool → List ℕ → List LaneLine → Result T CommitErr → At → At → Type 0
TakesWindow scheme tells first lines result s t =
    MatchResult result (λ _. WindowTaken scheme tells first lines s t × IsOpen tells t × (t.held.kept.dues ≡ []) × (is_lacking t.board ≡ false)) (λ end. WindowBroken scheme tells first lines end s t)

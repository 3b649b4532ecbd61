-- The lines of a window, lane by lane, and what was got of each.
use Rattle.std.specs.Prelude.{◌≡◌, ℕ, ◌<◌, List, [], length, slice_index, get_or, Vec, All}
use Rattle.std.proofs.Common.{Global}
use Rattle.intake_queue.specs.declared.intake.LanePass.{LanePass}
use Rattle.intake_queue.specs.Lanes.{of_lane, sender}
use Rattle.intake_queue.specs.Passes.{lane_view}
use Rattle.ledger_model.specs.Scheme.{Scheme}
use Rattle.lane_work.specs.declared.kinds.LaneLine.{LaneLine}
use Rattle.lane_work.specs.declared.kinds.Made.{Made}
use Rattle.lane_work.specs.declared.hands.LaneJob.{LaneJob}
use Rattle.lane_work.specs.Making.{AllMade, lines_of}

-- each job is the pass of a lane with its lines and its first number
abbrev pub AreJobs : List (LanePass Made) → List (Vec LaneLine Global) → List ℕ → List LaneJob → Type 0
AreJobs passes lanes first jobs =
    (length jobs ≡ 8)
    × ((k : ℕ) (d : LaneJob) (e : LanePass Made) (f : Vec LaneLine Global) → k < 8
    → ((get_or jobs k d).pass ≡ get_or passes k e) × ((get_or jobs k d).lines ≡ get_or lanes k f) × ((get_or jobs k d).start ≡ slice_index first k))

-- of each lane, the items are what its lines were made into, in order, each once
abbrev pub Merged : Scheme → List ℕ → List ℕ → List LaneLine → List Made → Type 0
Merged scheme id first window got =
    (k : ℕ) → k < 8 → AllMade scheme id (slice_index first k) (lines_of k window) (of_lane (λ (m : Made). m.lane) k got)

-- the jobs of a window as they are started, with passes that have sent nothing
abbrev pub AreNewJobs : List (ℕ × ℕ) → List LaneJob → Type 0
AreNewJobs plan jobs =
    (length plan ≡ 8) × (length jobs ≡ 8) × ((k : ℕ) (d : LaneJob) → k < 8 → lane_view (get_or jobs k d).pass ≡ sender plan k [])

-- the jobs have exactly the lines of the window, each those of its lane
abbrev pub AreWindow : List ℕ → List LaneLine → List LaneJob → Type 0
AreWindow first window jobs =
    All (λ l. l.lane < 8) window
    × ((k : ℕ) (d : LaneJob) → k < 8 → ((get_or jobs k d).lines.items ≡ lines_of k window) × ((get_or jobs k d).start ≡ slice_index first k))

-- What a clause says of a queue and of its passes.
use Rattle.std.specs.Prelude.{◌≡◌, Option, ℕ, ◌<◌, true, List, [], length}
use lib.ListN.{get_or}
use Rattle.crossbeam_queue.specs.declared.array_queue.Doing.{Doing}
use Rattle.crossbeam_queue.specs.declared.array_queue.Slotted.{Slotted}
use Rattle.crossbeam_queue.specs.Passes.{view, IsPassOf, ruled_capacity}
use Rattle.intake_queue.specs.declared.view.View.{View}
use Rattle.intake_queue.specs.declared.intake.Intake.{Intake}
use Rattle.intake_queue.specs.declared.intake.LanePass.{LanePass}
use Rattle.intake_queue.specs.declared.intake.TakerPass.{TakerPass}
use Rattle.intake_queue.specs.Lanes.{Plan, room, sender}

-- what a lane's pass knows
abbrev pub lane_view : {T : Type 0} → LanePass T → View T
lane_view p = view p.seat

-- what the taker's pass knows
abbrev pub taker_view : {T : Type 0} → TakerPass T → View T
taker_view p = view p.seat

-- the items that a lane has sent by its pass
abbrev pub sent_by : {T : Type 0} → LanePass T → List T
sent_by p = (lane_view p).sent

-- a pass by which a lane of this queue may send
abbrev pub IsSenderOf : {T Q A : Type 0} → Slotted (Option T) (Doing T (View T)) Q A → LanePass T → Type 0
IsSenderOf q p = IsPassOf q p.seat × ((lane_view p).sends ≡ true) × ((lane_view p).lane < length (lane_view p).plan) × (room (lane_view p).plan ≡ ruled_capacity q)

-- the same of the queue in an intake
abbrev pub IsLaneOf : {T : Type 0} → Intake T → LanePass T → Type 0
IsLaneOf q p = IsSenderOf q.queue p

-- the pass by which items are got from this intake
abbrev pub IsTakerOf : {T : Type 0} → Intake T → TakerPass T → Type 0
IsTakerOf q p = IsPassOf q.queue p.seat × ((taker_view p).gets ≡ true)

-- the passes of the first lanes of this queue, in order, which have sent nothing
abbrev pub AreNewOf : {T Q A : Type 0} → Slotted (Option T) (Doing T (View T)) Q A → Plan → List (LanePass T) → Type 0
AreNewOf {T} q plan ps = (k : ℕ) (d : LanePass T) → k < length ps → IsSenderOf q (get_or ps k d) × (lane_view (get_or ps k d) ≡ sender plan k [])

-- the same of the queue in an intake
abbrev pub AreNew : {T : Type 0} → Intake T → Plan → List (LanePass T) → Type 0
AreNew q plan ps = AreNewOf q.queue plan ps

-- the passes of the first lanes of this intake, in order, which may have sent something
abbrev pub AreLanes : {T : Type 0} → Intake T → Plan → List (LanePass T) → Type 0
AreLanes {T} q plan ps = (k : ℕ) (d : LanePass T) → k < length ps → IsLaneOf q (get_or ps k d) × ((lane_view (get_or ps k d)).lane ≡ k)

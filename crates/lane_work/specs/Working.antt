-- What a worker is given, and what it promises.
use Rattle.std.specs.Prelude.{◌≡◌, ℕ, ◌+◌, ◌<◌, ◌≤◌, ◌^◌, List, [], ◌∷◌, All, vec_len, vec_capacity, ⊤}
use Rattle.intake_queue.specs.declared.intake.Intake.{Intake}
use Rattle.intake_queue.specs.declared.intake.LanePass.{LanePass}
use Rattle.intake_queue.specs.Lanes.{sender, first_in, quota_in}
use Rattle.intake_queue.specs.Passes.{lane_view, IsLaneOf}
use Rattle.ledger_model.specs.Scheme.{Scheme}
use Rattle.lane_work.specs.declared.kinds.Made.{Made}
use Rattle.lane_work.specs.declared.hands.LaneJob.{LaneJob}
use Rattle.lane_work.specs.declared.hands.Hand.{Hand}
use Rattle.lane_work.specs.declared.hands.Room.{Room}
use Rattle.lane_work.specs.declared.hands.Hand.TheVariants.{Here, There}
pub use Rattle.lane_work.specs.Handing.{Works}

-- what a worker is given: a pass that has sent nothing, whose quota is the number of its lines
abbrev pub IsReady : Intake Made → LaneJob → Type 0
IsReady q j =
    IsLaneOf q j.pass × (lane_view j.pass ≡ sender (lane_view j.pass).plan (lane_view j.pass).lane [])
    × (quota_in (lane_view j.pass).plan (lane_view j.pass).lane ≡ vec_len j.lines) × (first_in (lane_view j.pass).plan (lane_view j.pass).lane ≡ j.start)
    × (j.start + vec_len j.lines < 2 ^ 64)
    × All (λ l. l.lane ≡ (lane_view j.pass).lane) j.lines.items

-- a worker hands back what its job asks for
abbrev pub WorksOf : Scheme → List ℕ → LaneJob → LanePass Made → Type 0
WorksOf scheme id j p = Works scheme id j.start j.lines.items j.pass p

-- the same of a worker that has done its lines already, or of what its thread promises
abbrev pub Promised : {V : Type 0} → (V → Scheme) → Scheme → List ℕ → LaneJob → Hand V → Type 0
Promised shows scheme id j (Here p) = WorksOf scheme id j p
Promised shows scheme id j (There h) =
    (shows h.promise.verifier.value ≡ scheme) × (h.promise.id.0 ≡ id) × (h.promise.start ≡ j.start) × (h.promise.lines.value.items ≡ j.lines.items) × (h.promise.pass.value ≡ j.pass)

-- there is room for the hands of so many workers, and for what they hand back
abbrev pub HasHandRoom : {V : Type 0} → ℕ → Room V → Type 0
HasHandRoom n room = (room.hands.items ≡ []) × (n ≤ vec_capacity room.hands) × (room.done.items ≡ []) × (n ≤ vec_capacity room.done)

-- two lists are as long, and R holds of the elements at each place
unfoldable pub Pairs : {A B : Type 0} → (A → B → Type 0) → List A → List B → Type 0
Pairs R [] [] = ⊤
Pairs R [] (y ∷ ys) = ⊥
Pairs R (x ∷ xs) [] = ⊥
Pairs R (x ∷ xs) (y ∷ ys) = R x y × Pairs R xs ys

-- What is handed back: a pass of the same queue, and what it sent or got.
use Rattle.std.specs.Prelude.{◌≡◌, ℕ, List, [], length}
use Rattle.intake_queue.specs.declared.intake.Intake.{Intake}
use Rattle.intake_queue.specs.declared.intake.LanePass.{LanePass}
use Rattle.intake_queue.specs.declared.intake.TakerPass.{TakerPass}
use Rattle.intake_queue.specs.Lanes.{sender, taker}
use Rattle.intake_queue.specs.Passes.{lane_view, sent_by, taker_view, IsTakerOf}
use Rattle.ledger_model.specs.Scheme.{Scheme}
use Rattle.lane_work.specs.declared.kinds.LaneLine.{LaneLine}
use Rattle.lane_work.specs.declared.kinds.Made.{Made}
use Rattle.lane_work.specs.Making.{AllMade}

-- a worker hands back its lane's pass of the same queue, which sent what its lines were made into
abbrev pub Works : Scheme → List ℕ → ℕ → List LaneLine → LanePass Made → LanePass Made → Type 0
Works scheme id n lines old new =
    (new.seat.table_id ≡ old.seat.table_id) × (new.seat.me.1 ≡ [])
    × (lane_view new ≡ sender (lane_view old).plan (lane_view old).lane (sent_by new))
    × AllMade scheme id n lines (sent_by new)

-- the taker's pass of this queue, which got nothing yet
abbrev pub IsNewTaker : Intake Made → TakerPass Made → Type 0
IsNewTaker q pass = IsTakerOf q pass × (taker_view pass ≡ taker (taker_view pass).plan [] (taker_view pass).lent (taker_view pass).back)

-- that pass later, which got so many items
pub record HasGot (q : Intake Made) (before : TakerPass Made) (count : ℕ) (pass : TakerPass Made) : Type 0 where
  pub of_queue : IsTakerOf q pass
  pub view : taker_view pass ≡ taker (taker_view before).plan (taker_view pass).got (taker_view before).lent (taker_view before).back
  pub count_is : length (taker_view pass).got ≡ count

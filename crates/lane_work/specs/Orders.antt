-- The orders in which the lines of a window may be taken.
use Rattle.std.specs.Prelude.{◌≡◌, ℕ, ◌+◌, List, [], ◌∷◌, slice_index}
use Rattle.ledger_model.specs.Merge.{lines_of_lane}
use Rattle.ledger_model.specs.Windows.{Said}
use Rattle.lane_work.specs.declared.kinds.LaneLine.{LaneLine}
use Rattle.lane_work.specs.Making.{lines_of}

-- the lines of one lane with their numbers, from n on
unfoldable pub numbered : ℕ → List LaneLine → List Said
numbered n [] = []
numbered n (l ∷ ls) = record { lane = l.lane; index = n; line = l.line } ∷ numbered (n + 1) ls

-- an order in which lines may be taken: each lane's in theirs, with the numbers that go on from the lane's first one
abbrev pub IsOrderOf : List ℕ → List LaneLine → List Said → Type 0
IsOrderOf first window order = (lane : ℕ) → lines_of_lane lane order ≡ numbered (slice_index first lane) (lines_of lane window)

-- What the rows of a tree stand for where no list of its leaves is known: the peaks of its first leaves, and the leaves
-- behind them.
use Rattle.std.specs.Prelude.{◌≡◌, ℕ, ◌+◌, ◌-◌, ◌/◌, ◌≤◌, nat_eq, if◌then◌else◌, count_ones, List, [], ◌∷◌, ◌++◌, length, drop, Option, Some, None}
use Rattle.tree_model.specs.Tree.{Hash}
use Rattle.tree_model.specs.Halves.{pairs}
use Rattle.tree_model.specs.RootFrom.{root_from, last_peak, other_peaks}
use Rattle.merkle_batch.specs.Rows.{Row, first_of, Levels}

-- the rows keep the whole nodes over the peaks of p digests and the digests behind them, from the first that a floor
-- leaves on, level by level: the last of an odd number's peaks stands in front of the digests
unfoldable pub KeepsOver : Hash → ℕ → ℕ → List Row → List (List ℕ) → List (List ℕ) → Type 0
KeepsOver hash p floor [] ps xs = (p ≡ 0) × (ps ≡ []) × (xs ≡ [])
KeepsOver hash p floor (row ∷ rows) ps xs =
    (row.nodes ≡ drop (first_of floor - first_of p) (last_peak p ps ++ xs))
    × KeepsOver hash (p / 2) (floor / 2) rows (other_peaks p ps) (pairs hash (last_peak p ps ++ xs))

-- a tree stands for p leaves with these peaks, one for each digit of p that is one, and for the leaf digests behind them
unfoldable pub StandsOver : Hash → Levels → ℕ → List (List ℕ) → List (List ℕ) → Type 0
StandsOver hash tree p ps xs =
    (length ps ≡ count_ones p) × (p ≤ tree.floor) × (p + length xs ≡ tree.size) × KeepsOver hash p tree.floor tree.rows ps xs

-- a tree stands for some leaves with some peaks, and for some leaf digests behind them
unfoldable pub IsOverSome : Hash → Levels → Type 0
IsOverSome hash tree = (p : ℕ) × (ps : List (List ℕ)) × (xs : List (List ℕ)) × StandsOver hash tree p ps xs

-- the root over the leaves that the peaks stand for and the digests behind them, where there are any
unfoldable pub root_over : Hash → List (List ℕ) → ℕ → List (List ℕ) → Option (List ℕ)
root_over hash ps p xs = if nat_eq (p + length xs) 0 then None else Some (root_from hash ps p xs)

-- What the rows of a stretch hold: consecutive leaves, with the nodes that depend on them alone.
use Rattle.std.specs.Prelude.{◌≡◌, ℕ, ◌+◌, ◌/◌, ◌%◌, List, [], ◌∷◌, drop}
use Rattle.tree_model.specs.Tree.{Hash}
use Rattle.tree_model.specs.Halves.{pairs}
use Rattle.merkle_batch.specs.Rows.{Row}

-- the nodes of the lowest of some rows, where there is one
unfoldable pub lowest : List Row → List (List ℕ)
lowest [] = []
lowest (row ∷ rows) = row.nodes

-- each row has the nodes over all pairs of the row below, of which the first node stands at a place of its level: where
-- that is odd it is the second of its pair, whose node depends on what stands in front
unfoldable pub HoldsNodes : Hash → ℕ → List Row → Type 0
HoldsNodes hash start [] = Unit
HoldsNodes hash start (row ∷ rows) = (lowest rows ≡ pairs hash (drop (start % 2) row.nodes)) × HoldsNodes hash (start / 2 + start % 2) rows

-- a stretch as contracts see it: the place of its first leaf, and the digests of its leaves
pub record Leaves : Type 0 where
  pub start : ℕ
  pub leaves : List (List ℕ)

-- What the rows of a tree stand for: each row keeps whole nodes of one level, the leaves' digests in the first.
use Rattle.std.specs.Prelude.{◌≡◌, ℕ, ◌+◌, ◌-◌, ◌*◌, ◌/◌, ◌%◌, ◌≤◌, List, [], ◌∷◌, length, drop, Option, Some, None}
use Rattle.tree_model.specs.Tree.{Hash, root}
use Rattle.tree_model.specs.Halves.{pairs}

-- a row as contracts see it: the digests of one level that it keeps, and how many it has room for
pub record Row : Type 0 where
  pub nodes : List (List ℕ)
  pub room : ℕ

-- the first node that the row of a level keeps, where p of that level's nodes stand before the first kept leaf: it begins
-- with a left one, so that each kept node has the other of its pair, and the peaks in front of the floor are kept
abbrev pub first_of : ℕ → ℕ
first_of p = 2 * (p / 2)

-- the rows keep the whole nodes over these digests, from the first that a floor leaves on, level by level
unfoldable pub KeepsNodes : Hash → ℕ → List Row → List (List ℕ) → Type 0
KeepsNodes hash p [] ds = ds ≡ []
KeepsNodes hash p (row ∷ rows) ds = (row.nodes ≡ drop (first_of p) ds) × KeepsNodes hash (p / 2) rows (pairs hash ds)

-- there is room for so many leaves more, and for the nodes above them
unfoldable pub HasRoom : ℕ → List Row → Type 0
HasRoom more [] = more ≡ 0
HasRoom more (row ∷ rows) = (length row.nodes + more ≤ row.room) × HasRoom ((length row.nodes % 2 + more) / 2) rows

-- the rows have exactly the nodes of so many leaves: each level those from the first that a floor leaves on
unfoldable pub HasCounted : ℕ → ℕ → List Row → Type 0
HasCounted p count [] = count ≡ 0
HasCounted p count (row ∷ rows) = (first_of p + length row.nodes ≡ count) × HasCounted (p / 2) (count / 2) rows

-- the rows have at least the nodes of so many leaves, level by level
unfoldable pub HasNodes : ℕ → ℕ → List Row → Type 0
HasNodes p count [] = count ≡ 0
HasNodes p count (row ∷ rows) = (count ≤ first_of p + length row.nodes) × HasNodes (p / 2) (count / 2) rows

-- the root over some digests, where there are any
unfoldable pub root_of : Hash → List (List ℕ) → Option (List ℕ)
root_of hash [] = None
root_of hash (d ∷ ds) = Some (root hash (d ∷ ds))

-- rows that keep the same nodes as before, and have at least their room; there may be more of them, which keep none
unfoldable pub Grown : List Row → List Row → Type 0
Grown [] [] = Unit
Grown [] (row ∷ rows) = (row.nodes ≡ []) × Grown [] rows
Grown (old ∷ olds) [] = ⊥
Grown (old ∷ olds) (row ∷ rows) = (row.nodes ≡ old.nodes) × (old.room ≤ row.room) × Grown olds rows

-- rows that have forgotten what a higher floor leaves out, and nothing else
unfoldable pub Forgot : ℕ → ℕ → List Row → List Row → Type 0
Forgot p to [] [] = Unit
Forgot p to [] (row ∷ rows) = ⊥
Forgot p to (old ∷ olds) [] = ⊥
Forgot p to (old ∷ olds) (row ∷ rows) =
    (row.nodes ≡ drop (first_of to - first_of p) old.nodes) × Forgot (p / 2) (to / 2) olds rows

-- there are no rows, or the first keeps no node
unfoldable pub IsNil : List Row → Type 0
IsNil [] = Unit
IsNil (row ∷ rows) = row.nodes ≡ []

-- a tree as contracts see it: its rows, its size, the first leaf that is kept, and for how many more it has room
pub record Levels : Type 0 where
  pub rows : List Row
  pub size : ℕ
  pub floor : ℕ
  pub spare : ℕ

-- a tree stands for each list of leaf digests that has its size and, from the floor on, its nodes. `lists_of_a_tree` says what
-- such lists have in common, and that nothing else is asked of them
unfoldable pub StandsFor : Hash → Levels → List (List ℕ) → Type 0
StandsFor hash tree ds = (length ds ≡ tree.size) × KeepsNodes hash tree.floor tree.rows ds

use Rattle.std.proofs.Common.{◌≡◌, ℕ, ◌+◌, List, ◌++◌, map, take}
use Rattle.merkle_batch.specs.Over.{StandsOver}
use Rattle.merkle_batch.specs.Rows.{StandsFor}
use Rattle.merkle_batch.proofs.tree.Tree.add_leaves.Given as goal

abbrev pub invariant-loop-leaf : goal.invariant-loop-leaf
invariant-loop-leaf g l =
    ((ds : List (List ℕ)) → StandsFor g.H.TreeHash.of l.fn.self ds → StandsFor g.H.TreeHash.of l.self (ds ++ map (λ d. d.0) (take l.leaf-index l.leaves)))
    × ((p : ℕ) (ps xs : List (List ℕ)) → StandsOver g.H.TreeHash.of l.fn.self p ps xs → StandsOver g.H.TreeHash.of l.self p ps (xs ++ map (λ d. d.0) (take l.leaf-index l.leaves)))
    × (l.self.size ≡ l.fn.self.size + l.leaf-index) × (l.self.floor ≡ l.fn.self.floor) × (l.self.spare + l.leaf-index ≡ l.fn.self.spare)

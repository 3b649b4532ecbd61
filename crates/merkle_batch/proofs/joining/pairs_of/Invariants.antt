use Rattle.std.proofs.Common.{◌≡◌, ◌*◌, ◌≤◌, length, map, take}
use Rattle.tree_model.specs.Halves.{pairs}
use Rattle.merkle_batch.proofs.joining.pairs_of.Given as goal

abbrev pub invariant-loop-k : goal.invariant-loop-k
invariant-loop-k g l =
    (l.above.nodes ≡ pairs g.H.TreeHash.of (map (λ d. d.0) (take (2 * l.k) l.nodes))) × (length l.above.nodes ≡ l.k) × (l.count ≤ l.above.room)

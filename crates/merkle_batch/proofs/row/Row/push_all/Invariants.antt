use Rattle.std.proofs.Common.{◌≡◌, ◌+◌, ◌++◌, length, map, take}
use Rattle.std.specs.Vec.{vec_len, vec_capacity}
use Rattle.merkle_batch.proofs.row.Row.push_all.Given as goal

abbrev pub invariant-loop-node : goal.invariant-loop-node
invariant-loop-node l =
    (map (λ d. d.0) l.self-inside.nodes.items ≡ l.fn.self.nodes ++ map (λ d. d.0) (take l.node-index l.nodes))
    × (vec_len l.self-inside.nodes ≡ length l.fn.self.nodes + l.node-index) × (vec_capacity l.self-inside.nodes ≡ l.fn.self.room)

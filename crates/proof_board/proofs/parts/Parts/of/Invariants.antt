use Rattle.std.proofs.Common.{◌≡◌, ◌≤◌, ◌+◌, ◌++◌, map, vec_items, vec_len}
use Rattle.std.specs.Prelude.{vec_capacity}
use Rattle.std.specs.Vec.Iter.{into_iter_items, into_iter_len}
use Rattle.proof_board.specs.declared.hands.Returned.{Returned}
use Rattle.proof_board.proofs.parts.Parts.of.Given as goal

abbrev pub invariant-loop-prover : goal.invariant-loop-prover
invariant-loop-prover l =
    goal.iterator-loop-prover.can_next l.prover-iterator
    × goal.iterator-loop-prover.is_finite l.prover-iterator
    × (vec_len l.passes + into_iter_len l.prover-iterator ≤ vec_capacity l.passes)
    × (vec_len l.tallies + into_iter_len l.prover-iterator ≤ vec_capacity l.tallies)
    × (l.yielded ++ into_iter_items l.prover-iterator ≡ vec_items l.fn.returned)
    × (vec_items l.passes ≡ map (λ (r : Returned). r.pass) l.yielded)
    × (vec_items l.tallies ≡ map (λ (r : Returned). r.tally) l.yielded)

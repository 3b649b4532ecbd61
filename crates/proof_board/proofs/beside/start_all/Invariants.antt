use Rattle.std.proofs.Common.{◌≡◌, ◌≤◌, ◌+◌, ◌++◌, vec_items, vec_len}
use Rattle.std.specs.Prelude.{All, vec_capacity}
use Rattle.std.specs.Vec.Iter.{into_iter_items, into_iter_len}
use Rattle.proof_board.specs.Words.{IsPassOf}
use Rattle.proof_board.specs.Hands.{Promised, EachGives}
use Rattle.proof_board.proofs.beside.start_all.Given as goal

abbrev pub invariant-loop-pass : goal.invariant-loop-pass
invariant-loop-pass g l =
    (goal.iterator-loop-pass g).can_next l.pass-iterator
    × (goal.iterator-loop-pass g).is_finite l.pass-iterator
    × (vec_len l.hands + into_iter_len l.pass-iterator ≡ vec_len l.fn.passes)
    × (vec_len l.fn.passes ≤ vec_capacity l.hands)
    × (l.yielded ++ into_iter_items l.pass-iterator ≡ vec_items l.fn.passes)
    × EachGives (λ p h. Promised l.board p l.orders.count h) l.yielded (vec_items l.hands)
    × All (IsPassOf l.board) (into_iter_items l.pass-iterator)

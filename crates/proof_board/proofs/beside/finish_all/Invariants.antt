use Rattle.std.proofs.Common.{◌≡◌, ◌≤◌, ◌+◌, ◌++◌, ℕ, List, vec_items, vec_len}
use Rattle.std.specs.Prelude.{vec_capacity}
use Rattle.std.specs.Vec.Iter.{into_iter_items, into_iter_len}
use Rattle.proof_board.specs.declared.board.Board.{Board}
use Rattle.proof_board.specs.declared.pass.ProverPass.{ProverPass}
use Rattle.proof_board.specs.Returning.{Returns}
use Rattle.proof_board.specs.Hands.{Promised, EachGives}
use Rattle.proof_board.proofs.beside.finish_all.Given as goal

abbrev pub invariant-loop-hand : goal.invariant-loop-hand
invariant-loop-hand g l =
    (goal.iterator-loop-hand g).can_next l.hand-iterator
    × (goal.iterator-loop-hand g).is_finite l.hand-iterator
    × (vec_len l.done + into_iter_len l.hand-iterator ≡ vec_len l.fn.hands)
    × (vec_len l.fn.hands ≤ vec_capacity l.done)
    × ((b : Board) (count : ℕ) (passes : List ProverPass) → EachGives (λ p h. Promised b p count h) passes (vec_items l.fn.hands)
    → (front : List ProverPass) × (back : List ProverPass) × (front ++ back ≡ passes) × EachGives (λ p r. Returns b p count r) front (vec_items l.done)
    × EachGives (λ p h. Promised b p count h) back (into_iter_items l.hand-iterator))

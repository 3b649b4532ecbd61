use Rattle.std.proofs.Common.{List, sym, subst, vec_items}
use Rattle.std.specs.Prelude.{All}
use Rattle.proof_board.specs.declared.pass.ProverPass.{ProverPass}
use Rattle.proof_board.specs.Words.{IsPassOf}
use Rattle.proof_board.proofs.Paired.{back_on_board}
use Rattle.board_tests.proofs.provers.provers_run_beside_the_writer.Goals as goal

pub close-requires-clause-passes : goal.close-requires-clause-passes
close-requires-clause-passes g c =
    let board = c.in_ok-board.board in
    subst (λ (l : List ProverPass). All (IsPassOf board) l) (sym c.of-passes.ensures.passes)
    (back_on_board board 1000 (vec_items c.in_ok-board.passes) (vec_items c.prove_beside-back.result.1) c.prove_beside-back.ensures.provers)

use Rattle.std.proofs.Common.{◌≡◌}
use Rattle.proof_board.specs.Words.{shown_by}
use Rattle.board_tests.proofs.provers.publish_many.Given as goal

abbrev pub invariant-loop-leaf : goal.invariant-loop-leaf
invariant-loop-leaf g l = (shown_by l.writer).at.book ≡ (shown_by l.initial.writer).at.book

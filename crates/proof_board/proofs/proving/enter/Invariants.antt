use Rattle.left_right.specs.Sides.{view}
use Rattle.proof_board.proofs.Steps.{IsLater}
use Rattle.proof_board.proofs.proving.enter.Given as goal

abbrev pub invariant-loop : goal.invariant-loop
invariant-loop g l =
    (goal.iterator-loop g).can_next l.iterator' × (goal.iterator-loop g).is_finite l.iterator' × IsLater (view l.fn.reader.place) (view l.reader.place)

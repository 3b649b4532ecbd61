use Rattle.intake_queue.proofs.Steps.{sends, has_room_left}
use Rattle.intake_queue.proofs.intake.Intake.submit.Goals as goal

pub push_as-requires-clause-rule : goal.push_as-requires-clause-rule
push_as-requires-clause-rule g c = (
  sends g.T.Piece.lane_of g.T.Piece.index_of _ _ _ _ c.requires.pass.1 c.requires.lane c.requires.index c.requires.quota,
  has_room_left g.T.Piece.lane_of g.T.Piece.index_of _ _ c.requires.pass.1 c.requires.quota,
)

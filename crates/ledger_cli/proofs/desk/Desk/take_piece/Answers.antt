use Rattle.std.proofs.Common.{sym}
use Rattle.ledger_cli.proofs.PieceLaws.{piece_settled, piece_unsettled, piece_lacks}
use Rattle.ledger_cli.proofs.desk.Desk.take_piece.Goals as goal

pub returns-in-Err-settle-clause-takes : goal.returns-in-Err-settle-clause-takes
returns-in-Err-settle-clause-takes g c = piece_unsettled _ _ _ _ _ _ _ c.in-Err-settle.ensures.err.notary c.in_default.ensures.takes.0 _ c.in-Err-settle.ensures.err

pub returns-then-lacks-clause-takes : goal.returns-then-lacks-clause-takes
returns-then-lacks-clause-takes g c = piece_lacks _ _ _ _ _ _ (piece_settled _ _ _ _ _ _ _ c.in_default-settle.ensures.ok.notary c.in_default.ensures.takes.0 c.in_default-settle.ensures.ok)

pub returns-clause-takes : goal.returns-clause-takes
returns-clause-takes g c = (piece_settled _ _ _ _ _ _ _ c.in_default-settle.ensures.ok.notary c.in_default.ensures.takes.0 c.in_default-settle.ensures.ok, c.in_default-settle.ensures.ok.still)

use Rattle.std.proofs.Common.{sym}
use Rattle.tree_model.proofs.Pieces.{length-cut}
use Rattle.audit_core.proofs.pieces.piece_count.Goals as goal

pub returns-clause-cut : goal.returns-clause-cut
returns-clause-cut c = sym (length-cut c.args.width c.args.flat.now)

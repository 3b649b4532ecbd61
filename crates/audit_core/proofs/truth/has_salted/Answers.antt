use Rattle.audit_core.proofs.DecidingLaws.{mark_places}
use Rattle.audit_core.proofs.truth.has_salted.Goals as goal

pub peg_over-peg-requires : goal.peg_over-peg-requires
peg_over-peg-requires g c = (mark_places c.args.headers.now c.args.entries.now c.args.mark.now c.has_mark.result c.has_mark.ensures c.if-not-has_mark.false).0

pub piece_at-requires-clause-within : goal.piece_at-requires-clause-within
piece_at-requires-clause-within g c = (mark_places c.args.headers.now c.args.entries.now c.args.mark.now c.has_mark.result c.has_mark.ensures c.if-not-has_mark.false).1

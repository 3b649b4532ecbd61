use Rattle.audit_dump.proofs.Skips.{HasSkipped}
use Rattle.audit_dump.proofs.front.skip.Given as goal

abbrev pub invariant-loop-left : goal.invariant-loop-left
invariant-loop-left g l = HasSkipped l.fn.len l.left (g.S.Source.state l.fn.source) (g.S.Source.state l.source) l.fn.window l.window

abbrev pub decreases-loop-left : goal.decreases-loop-left
decreases-loop-left g l = l.left

use Rattle.std.proofs.Common.{◌+◌, ◌-◌, ◌*◌, length}
use Rattle.ledger_io.specs.Lines.{script_limit}
use Rattle.ledger_io.specs.Outside.{outside}
use Rattle.audit_cli.proofs.SessionLaws.{SoFar}
use Rattle.audit_cli.proofs.session.answer_lines.Given as goal

abbrev pub invariant-loop-text : goal.invariant-loop-text
invariant-loop-text g l =
    SoFar g.H.TreeHash.of (outside (g.S.Source.state l.fn.source) (g.K.Sink.state l.fn.sink)) (outside (g.S.Source.state l.source) (g.K.Sink.state l.sink)) l.lines l.heads l.number

-- how much may be read yet, and how much of what was read is left
abbrev pub decreases-loop-text : goal.decreases-loop-text
decreases-loop-text g l = 2 * (script_limit - l.lines.total) + length l.lines.held

use Rattle.std.proofs.Common.{◌≡◌, ◌+◌, ◌-◌, ◌*◌, length, None}
use Rattle.ledger_io.specs.Lines.{script_limit}
use Rattle.ledger_cli.specs.Desks.{at_desk, SameDesk}
use Rattle.ledger_cli.specs.Pieces.{world_at, IsOpen}
use Rattle.ledger_cli.proofs.RunsLaws.{SoFar}
use Rattle.ledger_cli.proofs.session.answer_lines.Given as goal

-- the desk, as the loop's turn begins
abbrev pub invariant-loop-line : goal.invariant-loop-line
invariant-loop-line g l =
    let first = at_desk g.D.Disk.state g.K.Sink.state g.N.Notary.state g.W.Follower.board l.fn.desk in
    let now = at_desk g.D.Disk.state g.K.Sink.state g.N.Notary.state g.W.Follower.board l.desk in
    record {
      ready : IsOpen g.D.Disk.tells now;
      fresh : l.desk.end ≡ None;
      same : SameDesk g.W.Follower.board l.fn.desk l.desk;
      sofar : SoFar (g.V.Verifier.shows l.fn.tools.verifier.now) g.D.Disk.tells (world_at first) (world_at now) first.notary now.notary first.board now.board (g.S.Source.state l.fn.source) (g.S.Source.state l.source) l.lines l.piece.first l.piece.next l.piece.lines.items l.window.lines l.window.bytes;
    }

-- how much may be read yet, and how much of what was read is left
abbrev pub decreases-loop-line : goal.decreases-loop-line
decreases-loop-line g l = 2 * (script_limit - l.lines.total) + length l.lines.held

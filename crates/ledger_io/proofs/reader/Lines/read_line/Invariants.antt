use Rattle.std.proofs.Common.{◌≡◌, ℕ, ◌-◌, List}
use Rattle.ledger_io.specs.Lines.{script_limit}
use Rattle.ledger_io.specs.Steps.{HasRead}
use Rattle.ledger_io.proofs.reader.Lines.read_line.Given as goal

abbrev pub invariant-loop-line : goal.invariant-loop-line
invariant-loop-line g l =
    ((g.S.Source.state l.source).faults ≡ (g.S.Source.state l.fn.source).faults)
    × ((bytes : List ℕ) × HasRead (g.S.Source.state l.fn.source) (g.S.Source.state l.source) l.fn.self l.self bytes)

abbrev pub decreases-loop-line : goal.decreases-loop-line
decreases-loop-line g l = script_limit - l.self.total

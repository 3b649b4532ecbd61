use Rattle.std.proofs.Common.{◌≡◌, ℕ, suc, ◌-◌, List}
use Rattle.std.specs.Prelude.{if◌then◌else◌}
use Rattle.ledger_io.specs.Lines.{script_limit}
use Rattle.ledger_io.specs.Windows.{HasSeen}
use Rattle.ledger_io.proofs.window.Window.fill.Given as goal

abbrev pub invariant-loop-self : goal.invariant-loop-self
invariant-loop-self g l = record {
  faults : (g.S.Source.state l.source).faults ≡ (g.S.Source.state l.fn.source).faults;
  seen : (bytes : List ℕ) × HasSeen (g.S.Source.state l.fn.source) (g.S.Source.state l.source) l.fn.self l.self bytes;
}

abbrev pub decreases-loop-self : goal.decreases-loop-self
decreases-loop-self g l = if l.self.ended then 0 else suc (script_limit - l.self.total)

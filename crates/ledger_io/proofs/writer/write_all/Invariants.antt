use Rattle.std.proofs.Common.{length, ◌-◌, ◌≤◌, take}
use Rattle.std.specs.Io.KnownBytes.{Appends}
use Rattle.ledger_io.specs.Outside.{MeetsNone}
use Rattle.ledger_io.proofs.writer.write_all.Given as goal

abbrev pub invariant-loop-taken : goal.invariant-loop-taken
invariant-loop-taken g l = record {
  within : l.taken ≤ length l.piece;
  appended : Appends (g.K.Sink.state l.fn.sink).held (g.K.Sink.state l.sink).held (take l.taken l.piece);
  none : MeetsNone (g.K.Sink.state l.fn.sink) (g.K.Sink.state l.sink);
}

abbrev pub decreases-loop-taken : goal.decreases-loop-taken
decreases-loop-taken g l = length l.piece - l.taken

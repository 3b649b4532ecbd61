use Rattle.std.proofs.Common.{take}
use Rattle.std.specs.Prelude.{All}
use Rattle.proof_board.specs.History.{IsWide, leaves_of}
use Rattle.proof_board.proofs.stretches.are_all_wide.Given as goal

abbrev pub invariant-loop-stretch : goal.invariant-loop-stretch
invariant-loop-stretch l = All IsWide (leaves_of (take l.stretch-index l.stretches))

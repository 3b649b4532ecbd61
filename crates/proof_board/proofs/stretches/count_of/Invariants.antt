use Rattle.std.proofs.Common.{◌≡◌, length, take}
use Rattle.proof_board.specs.History.{leaves_of}
use Rattle.proof_board.proofs.stretches.count_of.Given as goal

abbrev pub invariant-loop-stretch : goal.invariant-loop-stretch
invariant-loop-stretch l = l.count ≡ length (leaves_of (take l.stretch-index l.stretches))

use Rattle.std.proofs.Common.{take}
use Rattle.std.specs.Prelude.{All}
use Rattle.ledger_bytes.specs.declared.digest.Digest.{Digest}
use Rattle.proof_board.specs.History.{IsWide}
use Rattle.proof_board.proofs.history.are_wide.Given as goal

abbrev pub invariant-loop-digest : goal.invariant-loop-digest
invariant-loop-digest l = All (λ (d : Digest). IsWide d.0) (take l.digest-index l.digests)

use Rattle.std.proofs.Common.{take}
use Rattle.proof_maker.proofs.RowLaws.{AreJoined}
use Rattle.proof_maker.proofs.rows.row_of.Given as goal

abbrev pub invariant-loop-digest : goal.invariant-loop-digest
invariant-loop-digest l = AreJoined (take l.digest-index l.digests) l.row.items

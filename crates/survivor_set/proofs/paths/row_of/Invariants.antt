use Rattle.survivor_set.proofs.Rows.{AreRow}
use Rattle.survivor_set.proofs.paths.row_of.Given as goal

abbrev pub invariant-loop-digest : goal.invariant-loop-digest
invariant-loop-digest l = AreRow l.digests l.digest-index l.row.items

use Rattle.std.proofs.Common.{length}
use Rattle.merkle_batch.proofs.joining.+rows_over.Given as goal

abbrev pub decreases-rows_over : goal.decreases-rows_over
decreases-rows_over g l = length l.row.nodes

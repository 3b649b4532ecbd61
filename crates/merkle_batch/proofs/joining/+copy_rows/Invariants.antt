use Rattle.std.proofs.Common.{length}
use Rattle.merkle_batch.proofs.joining.+copy_rows.Given as goal

abbrev pub decreases-copy_rows : goal.decreases-copy_rows
decreases-copy_rows l = length l.rows.now

use Rattle.std.proofs.Common.{length}
use Rattle.merkle_batch.proofs.joining.+add_rows.Given as goal

-- proposed from what the function passes where it calls itself
abbrev pub decreases-add_rows : goal.decreases-add_rows
decreases-add_rows g l = length l.stretch.now

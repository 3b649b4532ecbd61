use Rattle.tree_model.proofs.Peaks.{peaks_none, peaks_first, length-peaks}
use Rattle.tree_model.proofs.growing.peaks_are_roots.Goals as goal

pub returns-clause-none : goal.returns-clause-none
returns-clause-none c hash = peaks_none hash

pub returns-clause-more : goal.returns-clause-more
returns-clause-more c hash h digests whole few = peaks_first hash h digests whole few

pub returns-clause-count : goal.returns-clause-count
returns-clause-count c hash digests = length-peaks hash digests

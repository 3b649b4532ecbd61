use Rattle.clue_lineage.proofs.Judged.{accepted_true}
use Rattle.clue_lineage.proofs.laws.accepted_lineages_are_true.Goals as goal

pub returns : goal.returns
returns c hash bytes clue head run list makes e size root = accepted_true hash makes bytes clue head run list e size root

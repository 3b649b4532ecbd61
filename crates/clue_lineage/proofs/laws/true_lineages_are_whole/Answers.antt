use Rattle.clue_lineage.proofs.Running.{run_counted, true_is_whole}
use Rattle.clue_lineage.proofs.laws.true_lineages_are_whole.Goals as goal

pub returns-clause-whole : goal.returns-clause-whole
returns-clause-whole c hash bytes clue head run list plain e of rule = true_is_whole hash bytes clue head run list plain e of rule

pub returns-clause-count : goal.returns-clause-count
returns-clause-count c hash bytes clue head run plain e = run_counted hash bytes clue head run plain e

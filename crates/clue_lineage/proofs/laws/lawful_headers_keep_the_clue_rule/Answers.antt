use Rattle.clue_lineage.proofs.Ruling.{keeps_rule}
use Rattle.clue_lineage.proofs.laws.lawful_headers_keep_the_clue_rule.Goals as goal

pub returns : goal.returns
returns c h lawful wide = keeps_rule h lawful wide

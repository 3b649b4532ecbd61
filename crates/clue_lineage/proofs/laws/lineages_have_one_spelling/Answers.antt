use Rattle.clue_lineage.proofs.Spelled.{lineage_of_found, lineage_of_only}
use Rattle.clue_lineage.proofs.laws.lineages_have_one_spelling.Goals as goal

pub returns : goal.returns
returns c bytes l plain = (λ read. lineage_of_found bytes l plain read, λ both. lineage_of_only bytes l both.0 both.1)

use Rattle.survivor_set.proofs.Readable.{kept_is_set}
use Rattle.survivor_set.proofs.laws.kept_sets_keep_the_rules.Goals as goal

pub returns : goal.returns
returns c = λ h p ns s lawful shows some few up none is. kept_is_set h p lawful shows ns s some few up none is

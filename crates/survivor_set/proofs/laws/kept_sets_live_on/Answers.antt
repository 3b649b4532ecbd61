use Rattle.survivor_set.proofs.Lives.{lives_on}
use Rattle.survivor_set.proofs.laws.kept_sets_live_on.Goals as goal

pub returns : goal.returns
returns c = lives_on

use Rattle.survivor_set.proofs.Stays.{stays_of}
use Rattle.survivor_set.proofs.laws.kept_journals_stay.Goals as goal

pub returns : goal.returns
returns c = stays_of

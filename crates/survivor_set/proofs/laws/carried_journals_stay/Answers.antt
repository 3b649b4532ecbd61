use Rattle.survivor_set.proofs.Passing.{carried_stay}
use Rattle.survivor_set.proofs.laws.carried_journals_stay.Goals as goal

pub returns : goal.returns
returns c = λ g k q s begins within are. carried_stay g k q begins within s are

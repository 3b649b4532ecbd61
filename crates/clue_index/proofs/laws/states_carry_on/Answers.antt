use Rattle.clue_index.proofs.CarryLaws.{stands_carried}
use Rattle.clue_index.proofs.laws.states_carry_on.Goals as goal

pub returns : goal.returns
returns c = stands_carried

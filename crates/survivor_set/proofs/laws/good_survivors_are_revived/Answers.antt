use Rattle.survivor_set.proofs.Lives.{gives_proof}
use Rattle.survivor_set.proofs.laws.good_survivors_are_revived.Goals as goal

pub returns : goal.returns
returns c = gives_proof

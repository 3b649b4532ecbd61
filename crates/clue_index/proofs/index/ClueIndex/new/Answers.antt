use Rattle.std.proofs.Common.{refl}
use Rattle.clue_index.proofs.IndexLaws.{stands_empty}
use Rattle.clue_index.proofs.index.ClueIndex.new.Goals as goal

pub returns : goal.returns
returns c = stands_empty _ refl c.new.ensures.empty

use Rattle.honest_dump.proofs.Behind.{items_placed}
use Rattle.honest_dump.proofs.laws.shown_journals_are_placed.Goals as goal

pub returns : goal.returns
returns c scheme h entries front item more run is = items_placed scheme h entries front item more run is

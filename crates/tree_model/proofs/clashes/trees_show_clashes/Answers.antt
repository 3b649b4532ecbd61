use Rattle.tree_model.proofs.TreeClashes.{tree_shows}
use Rattle.tree_model.proofs.clashes.trees_show_clashes.Goals as goal

pub returns : goal.returns
returns c hash tops p told leaves makes len count each e = tree_shows hash makes tops p told leaves len count each e

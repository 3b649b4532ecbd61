use Rattle.tree_model.proofs.PathClashes.{path_clashes}
use Rattle.tree_model.proofs.clashes.paths_show_clashes.Goals as goal

pub returns : goal.returns
returns c hash digest n digests path makes all each other e = path_clashes hash makes digest n digests path all each other e

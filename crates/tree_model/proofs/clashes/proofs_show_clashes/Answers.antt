use Rattle.tree_model.proofs.ProofClashes.{proof_clashes}
use Rattle.tree_model.proofs.clashes.proofs_show_clashes.Goals as goal

pub returns : goal.returns
returns c hash m old digests proof makes all each other e = proof_clashes hash makes old m digests proof all each other e

use Rattle.tree_model.proofs.Halves.{root-halve, path-halve}
use Rattle.tree_model.proofs.Peaks.{peaks-pairs}
use Rattle.tree_model.proofs.ProofHalves.{proof-halve, proof-odd}
use Rattle.tree_model.proofs.growing.halves_give_the_tree.Goals as goal

pub returns-clause-root : goal.returns-clause-root
returns-clause-root c hash digests = root-halve hash digests

pub returns-clause-path : goal.returns-clause-path
returns-clause-path c hash n digests within = path-halve hash n digests within

pub returns-clause-proof_even : goal.returns-clause-proof_even
returns-clause-proof_even c hash m digests some within even = proof-halve hash m digests some within even

pub returns-clause-proof_odd : goal.returns-clause-proof_odd
returns-clause-proof_odd c hash m digests less odd = proof-odd hash m digests less odd

pub returns-clause-peaks : goal.returns-clause-peaks
returns-clause-peaks c hash digests = peaks-pairs hash digests

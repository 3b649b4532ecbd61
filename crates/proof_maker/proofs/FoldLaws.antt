-- A leaf leads along its path to the root over a list, and the root over the first along their proof.
use Rattle.std.proofs.Common.{◌≡◌, ℕ, ◌<◌, ◌≤◌, true, List, [], ◌∷◌, length, map, take, get_or, Some, ◌∙◌}
use Rattle.std.specs.Prelude.{All}
use Rattle.std.proofs.lemmas.List.Elements.{All-nil, All-cons}
use Rattle.sha2.specs.Sha256.{sha256}
use Rattle.sha2.proofs.Facts256.{length-sha256}
use Rattle.tree_model.specs.Extension.{proof, sub, fold_proof_bytes}
use Rattle.tree_model.specs.Path.{path, fold_bytes}
use Rattle.tree_model.specs.Tree as tree
use Rattle.tree_model.proofs.Folds.{path_gives_root, fold_bytes-concat}
use Rattle.tree_model.proofs.ProofFolds.{fold_proof-concat, proof_gives_root}
use Rattle.tree_model.proofs.Widths.{IsWide, path_wide, proof_wide}
use Rattle.proof_maker.specs.Parts.{path_bytes, extension_bytes}

pub leaf_leads : (ds : List (List ℕ)) (n : ℕ) → n < length ds → All IsWide ds → fold_bytes sha256 (get_or ds n []) n (length ds) (path_bytes ds n) ≡ Some (tree.root sha256 ds)
unfolding path
leaf_leads ds n within each =
    fold_bytes-concat sha256 (get_or ds n []) n (length ds) (path sha256 n ds) (path_wide sha256 length-sha256 (length ds) n ds each) ∙ path_gives_root sha256 n ds within

pub extension_leads : (ds : List (List ℕ)) (m : ℕ) → 0 < m → m ≤ length ds → All IsWide ds
    → fold_proof_bytes sha256 m (tree.root sha256 (take m ds)) (length ds) (extension_bytes ds m) ≡ Some (tree.root sha256 ds)
unfolding sub
extension_leads ds m some le each =
    let old = tree.root sha256 (take m ds) in
    fold_proof-concat sha256 m old (length ds) (proof sha256 m ds) (proof_wide sha256 length-sha256 (length ds) m true ds each) ∙ proof_gives_root sha256 m ds some le

-- the digests of leaves are wide
pub leaves_wide : (xs : List (List ℕ)) → All IsWide (map (tree.leaf sha256) xs)
leaves_wide [] = All-nil IsWide
leaves_wide (x ∷ xs) = All-cons IsWide (tree.leaf sha256 x) (map (tree.leaf sha256) xs) (length-sha256 (0 ∷ x)) (leaves_wide xs)

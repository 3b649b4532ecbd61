-- The peaks of a tree: the roots of its whole aligned subtrees, which are all that its later growth needs of it.
use Rattle.std.specs.Prelude.{ℕ, zero, suc, ◌^◌, nat_le, if◌then◌else◌, List, [], ◌∷◌, length, take, drop}
use Rattle.tree_model.specs.Tree.{Hash, root_at}

-- the roots of the whole aligned subtrees over fewer than 2 ^ h leaf digests, for h levels: one for each digit of their
-- number that is one, the greatest first
unfoldable pub peaks_at : Hash → ℕ → List (List ℕ) → List (List ℕ)
peaks_at hash zero ds = []
peaks_at hash (suc h) ds =
    if nat_le (2 ^ h) (length ds) then root_at hash h (take (2 ^ h) ds) ∷ peaks_at hash h (drop (2 ^ h) ds)
    else peaks_at hash h ds

-- the roots of the whole aligned subtrees over a list of leaf digests, the greatest first. `peaks_are_roots` says which they
-- are and how many
unfoldable pub peaks : Hash → List (List ℕ) → List (List ℕ)
peaks hash ds = peaks_at hash (length ds) ds

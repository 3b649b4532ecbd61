-- The tree from the leaves up, one level after the other (RFC 6962, section 2.1).
use Rattle.std.specs.Prelude.{ℕ, ◌+◌, ◌-◌, ◌*◌, ◌%◌, nat_le, if◌then◌else◌, Bool, List, [], ◌∷◌, take, drop, Option, Some, None}
use Rattle.tree_model.specs.Tree.{Hash, node}

-- the nodes over the whole pairs of some digests; an odd last one is left out
unfoldable pub pairs : Hash → List (List ℕ) → List (List ℕ)
pairs hash [] = []
pairs hash (x ∷ []) = []
pairs hash (x ∷ y ∷ rest) = node hash x y ∷ pairs hash rest

-- the digests one level up in the same tree: an odd last digest goes up as it is. `halves_give_the_tree` says that root, paths,
-- proofs and peaks can be read level by level
unfoldable pub halve : Hash → List (List ℕ) → List (List ℕ)
halve hash [] = []
halve hash (x ∷ []) = x ∷ []
halve hash (x ∷ y ∷ rest) = node hash x y ∷ halve hash rest

-- the number of the digest that stands beside another in its pair
abbrev pub sibling : ℕ → ℕ
sibling n = n + 1 - 2 * (n % 2)

-- the digest that stands beside another in its pair, where there is one
abbrev pub beside : ℕ → List (List ℕ) → List (List ℕ)
beside n ds = take 1 (drop (sibling n) ds)

-- what stands at the right edge and is no whole subtree, where there is something
abbrev pub edge : Option (List ℕ) → List (List ℕ)
edge None = []
edge (Some d) = d ∷ []

-- a digest joined with what stands behind it at the right edge
abbrev pub joined_node : Hash → List ℕ → Option (List ℕ) → List ℕ
joined_node hash d None = d
joined_node hash d (Some r) = node hash d r

-- the last of the first m digests, as a proof begins with it: not where it is the only one, and known
unfoldable pub own_part : Bool → ℕ → List (List ℕ) → List (List ℕ)
own_part known m ds = if known then (if nat_le m 1 then [] else take 1 (drop (m - 1) ds)) else take 1 (drop (m - 1) ds)

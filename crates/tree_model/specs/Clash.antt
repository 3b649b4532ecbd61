-- Two different strings with one digest, which a path or a proof shows that gives the root of a list from what isn't
-- the list's: the strings of the first node, from the root down, that the path or proof tells otherwise than the list.
use Rattle.std.specs.Prelude.{◌≡◌, ◌≢◌, ℕ, zero, suc, ◌-◌, ◌^◌, Bool, true, false, nat_lt, nat_le, if◌then◌else◌, List, [], ◌∷◌, ◌++◌, length, take, drop, reverse, Option, Some, None, option_and_then}
use Rattle.std.specs.Str.{bytes_eq}
use Rattle.tree_model.specs.Tree.{Hash, root_at, root}
use Rattle.tree_model.specs.Path.{fold_at}
use Rattle.tree_model.specs.Extension.{ext_at}

-- two different strings of bytes have one digest
pub record IsClash (hash : Hash) (told truth : List ℕ) : Type 0 where
  pub differ : told ≢ truth
  pub one_digest : hash told ≡ hash truth

-- a pair of strings is there, and they are such a clash
abbrev pub Clashes : Hash → Option (List ℕ × List ℕ) → Type 0
Clashes hash found = (pair : List ℕ × List ℕ) × (found ≡ Some pair) × IsClash hash pair.0 pair.1

-- the string that is hashed to the digest of an inner node
abbrev pub node_bytes : List ℕ → List ℕ → List ℕ
node_bytes left right = 1 ∷ left ++ right

-- the string that is hashed for the highest node over a list, which splits behind its first k
abbrev pub highest_node : Hash → ℕ → List (List ℕ) → List ℕ
highest_node hash k ds = node_bytes (root hash (take k ds)) (root hash (drop k ds))

-- the strings of one node, the told one first, where they differ, or what is found below
abbrev pub or_below : List ℕ → List ℕ → Option (List ℕ × List ℕ) → Option (List ℕ × List ℕ)
or_below told truth below = if bytes_eq told truth then below else Some (told, truth)

-- the strings at the first node that a path, from the root down, and the digest of the leaf n tell otherwise than a list, for h
-- levels
unfoldable pub path_clash_at : Hash → ℕ → List ℕ → ℕ → List (List ℕ) → List (List ℕ) → Option (List ℕ × List ℕ)
path_clash_at hash zero digest n ds p = None
path_clash_at hash (suc h) digest n ds [] = None
path_clash_at hash (suc h) digest n ds (side ∷ rest) =
    if nat_le (length ds) (2 ^ h) then path_clash_at hash h digest n ds (side ∷ rest)
    else if nat_lt n (2 ^ h)
    then option_and_then
    (λ left. or_below (node_bytes left side) (node_bytes (root_at hash h (take (2 ^ h) ds)) (root_at hash h (drop (2 ^ h) ds))) (path_clash_at hash h digest n (take (2 ^ h) ds) rest))
    (fold_at hash h digest n (2 ^ h) rest)
    else option_and_then
    (λ right. or_below (node_bytes side right) (node_bytes (root_at hash h (take (2 ^ h) ds)) (root_at hash h (drop (2 ^ h) ds))) (path_clash_at hash h digest (n - 2 ^ h) (drop (2 ^ h) ds) rest))
    (fold_at hash h digest (n - 2 ^ h) (length ds - 2 ^ h) rest)

-- the strings at the first node, from the root down, that a path tells otherwise than a list of leaf digests.
-- `path_clash_is_first` says it case by case, and `paths_show_clashes` when they clash
unfoldable pub path_clash : Hash → List ℕ → ℕ → List (List ℕ) → List (List ℕ) → Option (List ℕ × List ℕ)
path_clash hash digest n ds path = path_clash_at hash (length ds) digest n ds (reverse path)

-- the strings at the first node that a proof, from the root down, and the root of the first m leaves tell otherwise than a
-- list, for h levels
unfoldable pub proof_clash_at : Hash → ℕ → ℕ → Bool → List ℕ → List (List ℕ) → List (List ℕ) → Option (List ℕ × List ℕ)
proof_clash_at hash zero m known old ds p = None
proof_clash_at hash (suc h) m known old ds [] = None
proof_clash_at hash (suc h) m known old ds (side ∷ rest) =
    if nat_le (length ds) (2 ^ h) then proof_clash_at hash h m known old ds (side ∷ rest)
    else if nat_le (length ds) m then None
    else if nat_le m (2 ^ h)
    then option_and_then
    (λ roots. or_below (node_bytes roots.1 side) (node_bytes (root_at hash h (take (2 ^ h) ds)) (root_at hash h (drop (2 ^ h) ds))) (proof_clash_at hash h m known old (take (2 ^ h) ds) rest))
    (ext_at hash h m (2 ^ h) known old rest)
    else option_and_then
    (λ roots. or_below (node_bytes side roots.1) (node_bytes (root_at hash h (take (2 ^ h) ds)) (root_at hash h (drop (2 ^ h) ds))) (proof_clash_at hash h (m - 2 ^ h) false old (drop (2 ^ h) ds) rest))
    (ext_at hash h (m - 2 ^ h) (length ds - 2 ^ h) false old rest)

-- the strings at the first node of the new tree, from the root down, that digests tell otherwise than a list; the old root is
-- one of them, or known
unfoldable pub sub_clash : Hash → ℕ → Bool → List ℕ → List (List ℕ) → List (List ℕ) → Option (List ℕ × List ℕ)
sub_clash hash m known old ds digests = proof_clash_at hash (length ds) m known old ds (reverse digests)

-- the strings at the first node that a proof and the old root tell otherwise than a list. `proof_clash_is_first` says it case
-- by case, and `proofs_show_clashes` when they clash
abbrev pub proof_clash : Hash → ℕ → List ℕ → List (List ℕ) → List (List ℕ) → Option (List ℕ × List ℕ)
proof_clash hash m old ds digests = sub_clash hash m true old ds digests

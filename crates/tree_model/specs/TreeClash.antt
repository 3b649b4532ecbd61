-- Two different strings with one digest, which a whole tree shows that is told otherwise than a list: those of the first
-- node or leaf, from the root down and left before right. The tree is told by the peaks of its first leaves, or of none, and
-- by the leaves behind them.
use Rattle.std.specs.Prelude.{ℕ, zero, suc, ◌+◌, ◌-◌, ◌^◌, nat_eq, nat_le, if◌then◌else◌, List, [], ◌∷◌, length, map, take, drop, get_or, Option, Some, None}
use Rattle.std.specs.Option.{option_or}
use Rattle.tree_model.specs.Tree.{Hash, leaf, root_at}
use Rattle.tree_model.specs.RootFrom.{root_from_at}
use Rattle.tree_model.specs.Clash.{IsClash, node_bytes, or_below}

-- the string that is hashed to the digest of a leaf
abbrev pub leaf_bytes : List ℕ → List ℕ
leaf_bytes x = 0 ∷ x

-- the root of a told tree at h levels: p leaves with these peaks, and the leaves behind them
abbrev pub told_at : Hash → ℕ → List (List ℕ) → ℕ → List (List ℕ) → List ℕ
told_at hash h ps p xs = root_from_at hash h ps p (map (leaf hash) xs)

-- the root of a list of leaves at h levels
abbrev pub true_at : Hash → ℕ → List (List ℕ) → List ℕ
true_at hash h ls = root_at hash h (map (leaf hash) ls)

-- the string of a list's highest node at h + 1 levels
abbrev pub true_node : Hash → ℕ → List (List ℕ) → List ℕ
true_node hash h ls = node_bytes (true_at hash h (take (2 ^ h) ls)) (true_at hash h (drop (2 ^ h) ls))

-- the strings of a leaf, where they differ
abbrev pub leaf_clash : List (List ℕ) → List (List ℕ) → Option (List ℕ × List ℕ)
leaf_clash (x ∷ []) (l ∷ []) = or_below (leaf_bytes x) (leaf_bytes l) None
leaf_clash xs ls = None

-- the strings at the first node or leaf that a told tree has otherwise than a list, for h levels: nothing can be looked at
-- below a peak
unfoldable pub tree_clash_at : Hash → ℕ → List (List ℕ) → ℕ → List (List ℕ) → List (List ℕ) → Option (List ℕ × List ℕ)
tree_clash_at hash zero ps p xs ls = if nat_eq p 0 then leaf_clash xs ls else None
tree_clash_at hash (suc h) ps p xs ls =
    if nat_le (p + length xs) (2 ^ h) then tree_clash_at hash h ps p xs ls
    else if nat_eq p (2 ^ suc h) then None
    else if nat_le (2 ^ h) p
    then or_below (node_bytes (get_or ps 0 []) (told_at hash h (drop 1 ps) (p - 2 ^ h) xs)) (true_node hash h ls)
    (tree_clash_at hash h (drop 1 ps) (p - 2 ^ h) xs (drop (2 ^ h) ls))
    else or_below (node_bytes (told_at hash h ps p (take (2 ^ h - p) xs)) (true_at hash h (drop (2 ^ h - p) xs))) (true_node hash h ls)
    (option_or (tree_clash_at hash h ps p (take (2 ^ h - p) xs) (take (2 ^ h) ls)) (tree_clash_at hash h [] 0 (drop (2 ^ h - p) xs) (drop (2 ^ h) ls)))

-- the strings at the first node or leaf, from the root down and left before right, that a told tree has otherwise than a list
-- of leaves. `trees_show_clashes` says when they clash, and what it means that there are none
unfoldable pub tree_clash : Hash → List (List ℕ) → ℕ → List (List ℕ) → List (List ℕ) → Option (List ℕ × List ℕ)
tree_clash hash ps p xs ls = tree_clash_at hash (p + length xs) ps p xs ls

-- where a pair of strings is found they are a clash, and where none is found something holds
abbrev pub ShowsOr : Hash → Type 0 → Option (List ℕ × List ℕ) → Type 0
ShowsOr hash goal None = goal
ShowsOr hash goal (Some pair) = IsClash hash pair.0 pair.1

-- Two different strings with one digest that two lists of one length show which have one root.
use Rattle.std.specs.Prelude.{ℕ, zero, suc, ◌^◌, nat_le, if◌then◌else◌, List, [], ◌∷◌, length, take, drop, get_or, Option, Some, None}
use Rattle.std.specs.Option.{option_or}
use Rattle.tree_model.specs.Tree.{Hash, mth}
use Rattle.tree_model.specs.Clash.{node_bytes, or_below}

-- the strings of the first node or leaf, from the root down and left before right, at which two lists of leaves differ, for h levels
unfoldable pub lists_clash_at : Hash → ℕ → List (List ℕ) → List (List ℕ) → Option (List ℕ × List ℕ)
lists_clash_at hash zero xs ys = or_below (0 ∷ get_or xs 0 []) (0 ∷ get_or ys 0 []) None
lists_clash_at hash (suc h) xs ys =
    if nat_le (length xs) (2 ^ h) then lists_clash_at hash h xs ys
    else or_below (node_bytes (mth hash (take (2 ^ h) xs)) (mth hash (drop (2 ^ h) xs))) (node_bytes (mth hash (take (2 ^ h) ys)) (mth hash (drop (2 ^ h) ys)))
    (option_or (lists_clash_at hash h (take (2 ^ h) xs) (take (2 ^ h) ys)) (lists_clash_at hash h (drop (2 ^ h) xs) (drop (2 ^ h) ys)))

-- the strings of the first node or leaf, from the root down and left before right, at which two lists of leaves differ
unfoldable pub lists_clash : Hash → List (List ℕ) → List (List ℕ) → Option (List ℕ × List ℕ)
lists_clash hash xs ys = lists_clash_at hash (length xs) xs ys

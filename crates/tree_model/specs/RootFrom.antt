-- The root of a tree of which only the peaks of its first leaves and the leaves behind these are known.
use Rattle.std.specs.Prelude.{ℕ, zero, suc, ◌+◌, ◌-◌, ◌%◌, ◌^◌, nat_eq, nat_le, if◌then◌else◌, List, [], length, take, drop, get_or}
use Rattle.tree_model.specs.Tree.{Hash, node, root_at}

-- the root over p leaves with these peaks and the leaf digests behind them, at most 2 ^ h in all, for h levels
unfoldable pub root_from_at : Hash → ℕ → List (List ℕ) → ℕ → List (List ℕ) → List ℕ
root_from_at hash zero ps p xs = if nat_eq p 0 then root_at hash zero xs else get_or ps 0 []
root_from_at hash (suc h) ps p xs =
    if nat_le (p + length xs) (2 ^ h) then root_from_at hash h ps p xs
    else if nat_eq p (2 ^ suc h) then get_or ps 0 []
    else if nat_le (2 ^ h) p then node hash (get_or ps 0 []) (root_from_at hash h (drop 1 ps) (p - 2 ^ h) xs)
    else node hash (root_from_at hash h ps p (take (2 ^ h - p) xs)) (root_at hash h (drop (2 ^ h - p) xs))

-- the root over p leaves of which only the peaks are known, and the leaf digests behind them. `peaks_give_roots` says case by
-- case what it is, and that over the peaks of a list it is the root of that list and those digests
unfoldable pub root_from : Hash → List (List ℕ) → ℕ → List (List ℕ) → List ℕ
root_from hash ps p xs = root_from_at hash (p + length xs) ps p xs

-- the last of the peaks of p leaves, where p is odd: it is the peak of one leaf
abbrev pub last_peak : ℕ → List (List ℕ) → List (List ℕ)
last_peak p ps = drop (length ps - p % 2) ps

-- the peaks of p leaves without the last of an odd number: they are those of half as many, one level up
abbrev pub other_peaks : ℕ → List (List ℕ) → List (List ℕ)
other_peaks p ps = take (length ps - p % 2) ps

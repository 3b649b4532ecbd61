-- Two different strings with one digest that two values of a chain show which have one end.
use Rattle.std.specs.Prelude.{ℕ, zero, suc, ◌-◌, List, [], ◌∷◌, Option, None}
use Rattle.tree_model.specs.Tree.{Hash}
use Rattle.tree_model.specs.Clash.{or_below}
use Rattle.std.specs.Option.{option_or}
use Rattle.chain_sign.specs.Chain.{step_string}

-- the strings of the last step, of so many from place s on, at which a told value and a true one of chain c differ
unfoldable pub chain_clash : Hash → ℕ → ℕ → ℕ → List ℕ → List ℕ → Option (List ℕ × List ℕ)
chain_clash hash c zero s told truth = None
chain_clash hash c (suc k) s told truth =
    option_or (chain_clash hash c k (suc s) (hash (step_string c s told)) (hash (step_string c s truth)))
    (or_below (step_string c s told) (step_string c s truth) None)

-- the same of the first chain of several, from values at the places that digits say; the first is of chain c
unfoldable pub chains_clash : Hash → ℕ → List ℕ → List (List ℕ) → List (List ℕ) → Option (List ℕ × List ℕ)
chains_clash hash c [] told truth = None
chains_clash hash c (d ∷ ds) [] truth = None
chains_clash hash c (d ∷ ds) (t ∷ told) [] = None
chains_clash hash c (d ∷ ds) (t ∷ told) (v ∷ truth) = option_or (chain_clash hash c (15 - d) d t v) (chains_clash hash (suc c) ds told truth)

-- The parts of a text between separators.
use Rattle.std.specs.Prelude.{ℕ, ◌==◌, List, [], ◌∷◌, Option, Some, None}
use Rattle.std.specs.List.{slice_split}

-- the parts of a text around each separator, one more than there are separators
abbrev pub parts : ℕ → List ℕ → List (List ℕ)
parts separator text = slice_split (λ b. b == separator) text

-- the same of what is left of a text, where a reader stands within it
abbrev pub parts_left : ℕ → Option (List ℕ) → List (List ℕ)
parts_left separator None = []
parts_left separator (Some text) = parts separator text

-- the first of a list of values, where both were read
abbrev pub with_first : {A : Type 0} → Option A → Option (List A) → Option (List A)
with_first None read = None
with_first (Some x) None = None
with_first (Some x) (Some xs) = Some (x ∷ xs)

-- what all parts read as, where each reads as something
abbrev pub all_of : {A : Type 0} → (List ℕ → Option A) → List (List ℕ) → Option (List A)
all_of read [] = Some []
all_of read (text ∷ texts) = with_first (read text) (all_of read texts)

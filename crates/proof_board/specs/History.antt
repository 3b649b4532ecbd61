-- The history of a board, its rule, and what its steps tell.
use Rattle.std.specs.Prelude.{ℕ, ◌≡◌, ◌==◌, true, List, [], ◌∷◌, ◌++◌, length, MatchBool}
use Rattle.std.specs.List.{flat_map}
use Rattle.merkle_batch.specs.Stretches.{Leaves}
use Rattle.logbook.specs.Pages.{Cell, Step, View, Book, Named}

-- leaf digests, in order
abbrev pub Digests : Type 0
Digests = List (List ℕ)

-- the leaf digests of some stretches, one after the other
abbrev pub leaves_of : List Leaves → Digests
leaves_of stretches = flat_map (λ s. s.leaves) stretches

-- a digest has 32 bytes
abbrev pub IsWide : List ℕ → Type 0
IsWide d = length d ≡ 32

-- a beginning of a history: which history it is, and its batches
pub record Mark : Type 0 where
  pub book : Book
  pub log : List Digests

-- the same, of its parts
abbrev pub mark : Book → List Digests → Mark
mark book log = record { book = book; log = log }

-- the leaf digests of some batches, in order
unfoldable pub all_leaves : List Digests → Digests
all_leaves [] = []
all_leaves (batch ∷ rest) = batch ++ all_leaves rest

-- the first word is the length of the history. A book has two words, of which this one leaves the second at 0
pub record IsKept (cells : List Cell) (log : List Digests) : Type 0 where
  pub words : cells ≡ (length log, true) ∷ (0, true) ∷ []

-- the first word of a history
abbrev pub head_of : Book → Named
head_of b = record { tracked = true; key = 0; book = b }

-- the batch was added to all that had been seen; or the history was longer, and was seen
abbrev pub Adds : Step Digests → View Digests ℕ → ℕ → View Digests ℕ → Type 0
Adds s v found w = MatchBool (found == s.old) (w.0 ≡ v.0 ++ s.ask ∷ []) (length w.0 ≡ found)

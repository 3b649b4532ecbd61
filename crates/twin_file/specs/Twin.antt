-- Two files, of which one is open.
use Rattle.std.specs.Prelude.{◌≡◌, ◌⊎◌, ℕ, ◌+◌, ◌-◌, ◌^◌, ◌<◌, ◌≤◌, Bool, true, false, List, min}
use Rattle.block_file.specs.Head.{IsShut, HasHead, IsHeadErr, IsResumeErr, generation_of, number_at}
use Rattle.block_file.specs.declared.failure.FileErr.{FileErr}

-- the first where b is true, and the second otherwise
abbrev pub choice : {A : Type 0} → Bool → A → A → A
choice true x y = x
choice false x y = y

-- the open one of two, which is the first or the second
abbrev pub open_of : {A : Type 0} → Bool → A → A → A
open_of in_a a b = choice in_a a b

-- the one of two that isn't open
abbrev pub other_of : {A : Type 0} → Bool → A → A → A
other_of in_a a b = choice in_a b a

-- the order of the choice: the file of the greater generation is taken, and the first where they are equal, so that the other
-- gives way
abbrev pub Yields : Bool → ℕ → ℕ → Type 0
Yields true other taken = other ≤ taken
Yields false other taken = other < taken

-- a file beside which one of this generation is taken: it is shut, or has a known head and gives way
abbrev pub IsPassed : Bool → ℕ → List ℕ → Type 0
IsPassed in_a taken file = IsShut file ⊎ (HasHead file × Yields in_a (generation_of file) taken)

-- the file that is taken of two: it has a known head, and the other is passed over
pub record IsTaken (in_a : Bool) (a b : List ℕ) : Type 0 where
  pub head : HasHead (open_of in_a a b)
  pub other : IsPassed in_a (generation_of (open_of in_a a b)) (other_of in_a a b)

-- two files open to this one: it is taken of them
pub record OpensTo (in_a : Bool) (file a b : List ℕ) : Type 0 where
  pub taken : IsTaken in_a a b
  pub is : open_of in_a a b ≡ file

-- the generation of a copy: one more, or 2^64 - 1 where that is reached
abbrev pub next_generation : ℕ → ℕ
next_generation generation = min (generation + 1) (2 ^ 64 - 1)

-- why two files don't open: the head of the first, then that of the second, then the base of the file that is taken, which
-- reaches too far
abbrev pub IsReopenErr : List ℕ → List ℕ → FileErr → Type 0
IsReopenErr a b e =
    IsHeadErr a e
    ⊎ (((IsShut a ⊎ HasHead a) × IsHeadErr b e)
    ⊎ ((in_a : Bool) × IsTaken in_a a b × IsResumeErr (open_of in_a a b) (number_at 18 (open_of in_a a b)) e))

-- The lines of bytes. A newline is the byte 10.
use Rattle.std.specs.Prelude.{◌≡◌, ◌≢◌, ℕ, ◌+◌, ◌<◌, ◌≤◌, ◌==◌, if◌then◌else◌, Bool, true, false, List, [], ◌∷◌, ◌++◌, length, take, drop, All}

-- the most bytes that a line has, without its newline
abbrev pub line_limit : ℕ
line_limit = 4194304

-- a script has fewer bytes than this
abbrev pub script_limit : ℕ
script_limit = 1099511627776

-- a byte more at the front of the first of some lines, or as the only line
abbrev pub onto_first : ℕ → List (List ℕ) → List (List ℕ)
onto_first b [] = (b ∷ []) ∷ []
onto_first b (line ∷ lines) = (b ∷ line) ∷ lines

-- the lines of bytes, without their newlines: what stands after the last newline is a line too, where it isn't empty
abbrev pub lines_of : List ℕ → List (List ℕ)
lines_of [] = []
lines_of (b ∷ bytes) = if b == 10 then [] ∷ lines_of bytes else onto_first b (lines_of bytes)

-- lines, each with a newline at its end
abbrev pub text_of_lines : List (List ℕ) → List ℕ
text_of_lines [] = []
text_of_lines (line ∷ lines) = line ++ 10 ∷ text_of_lines lines

-- no newline stands in the bytes, so that they are a line or a part of one
abbrev pub IsUnbroken : List ℕ → Type 0
IsUnbroken bytes = All (λ b. b ≢ 10) bytes

-- the bytes can stand as a line: no newline is in them, and they aren't too many
abbrev pub IsLine : List ℕ → Type 0
IsLine line = IsUnbroken line × (length line ≤ line_limit)

-- the first n bytes are more than a line has, and no newline is in them
pub record IsLong (bytes : List ℕ) (n : ℕ) : Type 0 where
  pub above : line_limit < n
  pub within : n ≤ length bytes
  pub unbroken : IsUnbroken (take n bytes)

-- the bytes begin with a line that is too long
abbrev pub BeginsTooLong : List ℕ → Type 0
BeginsTooLong bytes = (n : ℕ) × IsLong bytes n

-- the first newline of the bytes stands at i
pub record BreaksAt (bytes : List ℕ) (i : ℕ) : Type 0 where
  pub unbroken : IsUnbroken (take i bytes)
  pub within : i < length bytes
  pub newline : drop i bytes ≡ 10 ∷ drop (i + 1) bytes

-- whether a newline stands in the bytes
abbrev pub HoldsLine : List ℕ → Bool → Type 0
HoldsLine bytes true = (i : ℕ) × BreaksAt bytes i
HoldsLine bytes false = IsUnbroken bytes

-- the bytes are these lines, each with its newline, and then a rest
pub record Splits (bytes : List ℕ) (lines : List (List ℕ)) (rest : List ℕ) : Type 0 where
  pub is : bytes ≡ text_of_lines lines ++ rest
  pub each : All IsLine lines

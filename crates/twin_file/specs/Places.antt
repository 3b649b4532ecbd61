-- Where a file ends, and what it has up to there.
use Rattle.std.specs.Prelude.{◌≡◌, ℕ, ◌+◌, ◌≤◌, List, [], ◌∷◌, ◌++◌, length, take, Option, IsSomeAnd}
use Rattle.block_file.specs.File.{whole_file, tail_of}
use Rattle.block_file.specs.declared.file.BlockFile.{BlockFile}
use Rattle.block_file.specs.FileView.{gate_of, HasTail}

-- a copy was begun, and its disk reads as the calls left it
abbrev pub HasCopy : Option ℕ → Option BlockFile → Type 0
HasCopy told copy = IsSomeAnd copy (HasTail told)

-- exactly this front and these blocks were built, and the file ends with its tail gate
pub record IsBuilt (front : List ℕ) (blocks : List (List ℕ)) (bytes : List ℕ) (file : BlockFile) : Type 0 where
  pub seen : bytes ≡ whole_file front blocks
  pub ends : tail_of front blocks ≡ gate_of file

-- a copy was begun, and exactly this front and these blocks of it were built
abbrev pub IsBuiltCopy : List ℕ → List (List ℕ) → List ℕ → Option BlockFile → Type 0
IsBuiltCopy front blocks bytes copy = IsSomeAnd copy (IsBuilt front blocks bytes)

-- to a copy that ended with its tail gate this piece was added: it stands over that gate, and a gate behind it
abbrev pub IsLonger : List ℕ → List ℕ → List ℕ → Option BlockFile → Type 0
IsLonger piece old new copy = IsSomeAnd copy (λ file. length old ≡ gate_of file + 1 → new ≡ take (gate_of file) old ++ piece ++ 0 ∷ [])

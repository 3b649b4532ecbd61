-- What a `BlockFile` shows.
use Rattle.std.specs.Prelude.{◌≡◌, ℕ, ◌+◌, ◌≤◌, List, Option, IsSomeAnd}
use Rattle.block_file.specs.declared.file.BlockFile.{BlockFile}

-- where the gate of the next block stands
abbrev pub gate_of : BlockFile → ℕ
gate_of file = file.at

-- the length that is told reaches behind the file's tail gate
abbrev pub HasTail : Option ℕ → BlockFile → Type 0
HasTail told file = IsSomeAnd told (λ n. gate_of file + 1 ≤ n)

-- how long the base of an open file is
abbrev pub base_len_of : BlockFile → ℕ
base_len_of file = file.base_len

-- the digest that the head of an open file names for its base
abbrev pub base_digest_of : BlockFile → List ℕ
base_digest_of file = file.base_digest.0

-- an open file has the same base as before
pub record KeepsBase (old new : BlockFile) : Type 0 where
  pub len : base_len_of new ≡ base_len_of old
  pub digest : base_digest_of new ≡ base_digest_of old

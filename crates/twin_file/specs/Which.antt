-- What a `Twin` shows.
use Rattle.std.specs.Prelude.{◌≡◌, ℕ, Bool, Option}
use Rattle.block_file.specs.declared.file.BlockFile.{BlockFile}
use Rattle.block_file.specs.FileView.{gate_of, base_len_of, base_digest_of}
use Rattle.twin_file.specs.Picking.{View, view}
use Rattle.twin_file.specs.declared.twin.Twin.{Twin}

-- whether the open file is the first
abbrev pub in_a_of : Twin → Bool
in_a_of twin = twin.in_a

-- the generation of the open file
abbrev pub generation_in : Twin → ℕ
generation_in twin = twin.generation

-- the version of the open file
abbrev pub format_in : Twin → ℕ
format_in twin = twin.version

-- the open file
abbrev pub file_of : Twin → BlockFile
file_of twin = twin.file

-- the copy that was begun
abbrev pub copy_of : Twin → Option BlockFile
copy_of twin = twin.copy

-- what a `Twin` shows of its open file: which it is, its generation, and where its blocks begin behind its base
abbrev pub view_of : Twin → View
view_of twin = view twin.in_a twin.generation twin.version (gate_of twin.file) (base_len_of twin.file) (base_digest_of twin.file)

-- the open file is the same, in the same place
pub record SameOpen (old new : Twin) : Type 0 where
  pub in_a : in_a_of new ≡ in_a_of old
  pub generation : generation_in new ≡ generation_in old
  pub version : format_in new ≡ format_in old
  pub file : file_of new ≡ file_of old

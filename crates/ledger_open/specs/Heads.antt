-- What stands before the blocks of an open file.
use Rattle.std.specs.Prelude.{◌≡◌, ◌≢◌, ℕ, ◌+◌, List, length, get_or, take, drop, IsTrue}
use Rattle.block_file.specs.Head.{digest_of, magic, number_at, generation_of, version_in, is_format}
use Rattle.twin_file.specs.Which.{generation_in, format_in}
use Rattle.twin_file.specs.declared.twin.Twin.{Twin}

-- the version of a file's format, and the generation of the file
pub record Edition : Type 0 where
  pub version : ℕ
  pub number : ℕ

-- the same by its parts
abbrev pub edition_from : ℕ → ℕ → Edition
edition_from version number = record { version = version; number = number }

-- what a file says of its version and its generation
abbrev pub edition_of : List ℕ → Edition
edition_of file = edition_from (version_in file) (generation_of file)

-- the version and the generation of the open file, as a `Twin` has them
abbrev pub edition_in : Twin → Edition
edition_in twin = edition_from (format_in twin) (generation_in twin)

-- the front of an open file: its head, which names this edition and this base, and the base
pub record IsFront (edition : Edition) (base front : List ℕ) : Type 0 where
  pub size : length front ≡ 64 + length base
  pub gate : get_or front 0 0 ≡ 1
  pub magic_is : take 8 (drop 1 front) ≡ magic
  pub version : version_in front ≡ edition.version
  pub format : IsTrue (is_format edition.version)
  pub generation_is : number_at 10 front ≡ edition.number
  pub base_len : number_at 18 front ≡ length base
  -- the digest of no base isn't looked at
  pub digest : length base ≢ 0 → take 32 (drop 26 front) ≡ digest_of base
  pub base_is : drop 64 front ≡ base

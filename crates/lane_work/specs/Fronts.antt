-- What all requests of one member for one clue begin with.
use Rattle.std.specs.Prelude.{ℕ, List, ◌∷◌, ◌++◌}
use Rattle.std.specs.Int.{w32, to_be_bytes}
use Rattle.ledger_bytes.specs.Tags.{byte_of}
use Rattle.ledger_bytes.specs.declared.digest.Digest.{Digest}
use Rattle.ledger_bytes.specs.declared.tag.Tag.TheVariants as tag

-- the first 69 bytes of a request to append: its tag, the ledger's identity, the member and the clue's digest
abbrev pub front_bytes : List ℕ → ℕ → List ℕ → List ℕ
front_bytes id member clue = ((byte_of tag.AppendRequest ∷ id) ++ to_be_bytes w32 member) ++ clue

-- the requests that a front is of: those on this ledger of this member for this clue
pub record FrontOf : Type 0 where
  pub id : Digest
  pub member : ℕ
  pub clue : Digest

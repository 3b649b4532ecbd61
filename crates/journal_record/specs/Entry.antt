-- A journal, and the digests of its parts.
use Rattle.std.specs.Prelude.{ℕ, List, ◌∷◌}
use Rattle.sha2.specs.Sha256.{sha256}
use Rattle.ledger_bytes.specs.Tags.{byte_of}
use Rattle.ledger_bytes.specs.declared.tag.Tag.TheVariants as tag
use Rattle.journal_record.specs.declared.header.Header.{Header}

-- a journal: its header, its content, and the bytes that show who placed it
pub record Entry : Type 0 where
  pub header : Header
  pub content : List ℕ
  pub who : List ℕ

-- the digest of a content, which the header keeps when the content is gone
abbrev pub content_digest_of : List ℕ → List ℕ
content_digest_of content = sha256 (byte_of tag.Content ∷ content)

-- the digest of the bytes that show who placed a journal, which the header keeps
abbrev pub who_digest_of : List ℕ → List ℕ
who_digest_of who = sha256 (byte_of tag.Who ∷ who)

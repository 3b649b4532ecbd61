-- Whether what stands beside a header is what the header names.
use Rattle.std.specs.Prelude.{◌≡◌, IfSome}
use Rattle.journal_record.specs.Entry.{content_digest_of, who_digest_of}
use Rattle.journal_record.specs.Items.{Item}

-- A content that is there, and the who, have the digests that the header names. Where the content was erased only the who can be
-- looked at. That a content has the length which the header names is a rule of every journal of a dump.
pub record IsKeptWhole (item : Item) : Type 0 where
  pub content : IfSome item.body (λ content. item.header.content_digest.0 ≡ content_digest_of content)
  pub who : item.header.who_digest.0 ≡ who_digest_of item.who

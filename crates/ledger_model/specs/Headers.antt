-- Headers of journals that are no records.
use Rattle.std.specs.Prelude.{ℕ, List, []}
use Rattle.ledger_bytes.specs.Digests.{digest, zero_digest}
use Rattle.ledger_bytes.specs.declared.digest.Digest.{Digest}
use Rattle.journal_record.specs.Entry.{content_digest_of, who_digest_of}
use Rattle.journal_record.specs.Rules.{version_of}
use Rattle.journal_record.specs.declared.header.Header.{Header}
use Rattle.journal_record.specs.declared.header.Kind.{Kind}

-- the header of a journal that the operator places, which has no clue and no content, by its kind, its number, the three fields
-- that go by the kind, and its who bytes
abbrev pub plain_header : Kind → ℕ → ℕ → ℕ → Digest → List ℕ → Header
plain_header kind jsn a b link who = record {
  version = version_of kind a 0;
  kind = kind;
  jsn = jsn;
  member = 0;
  clue = zero_digest;
  clue_ord = 0;
  clue_prev = 0;
  a = a;
  b = b;
  link = link;
  content_len = 0;
  content_digest = digest (content_digest_of []);
  who_digest = digest (who_digest_of who);
}

-- The messages that members prove, and the digests of names.
use Rattle.std.specs.Prelude.{ℕ, ◌==◌, if◌then◌else◌, List, [], ◌∷◌, ◌++◌, length}
use Rattle.std.specs.Int.{w32, w64, to_be_bytes}
use Rattle.sha2.specs.Sha256.{sha256}
use Rattle.ledger_bytes.specs.Digests.{zero_digest}
use Rattle.ledger_bytes.specs.Tags.{byte_of}
use Rattle.ledger_bytes.specs.declared.tag.Tag.TheVariants as tag

-- a request's number, where it has one: 0 stands for none
abbrev pub number_bytes : ℕ → List ℕ
number_bytes number = if number == 0 then [] else to_be_bytes w64 number

-- the digest of a request to append: the ledger's identity, the member, the clue's digest, the length and the digest of the
-- content, and the request's number, where it has one
abbrev pub request_digest_of : List ℕ → ℕ → List ℕ → ℕ → List ℕ → ℕ → List ℕ
request_digest_of id member clue content_len content_digest number =
    sha256 (byte_of tag.AppendRequest ∷ (id ++ to_be_bytes w32 member ++ clue ++ to_be_bytes w32 content_len ++ content_digest ++ number_bytes number))

-- the digest of a request to admit a member: the ledger's identity, the new member's number, and its key
abbrev pub member_request_digest_of : List ℕ → ℕ → List ℕ → List ℕ
member_request_digest_of id number key = sha256 (byte_of tag.MemberRequest ∷ (id ++ to_be_bytes w32 number ++ key))

-- the digest of a request to occult a journal: the ledger's identity, the journal's number, and its leaf
abbrev pub occult_request_digest_of : List ℕ → ℕ → List ℕ → List ℕ
occult_request_digest_of id target leaf = sha256 (byte_of tag.OccultRequest ∷ (id ++ to_be_bytes w64 target ++ leaf))

-- the digest of a request to occult all records of a clue: the ledger's identity, the clue's digest, and how many they are
abbrev pub clue_occult_request_digest_of : List ℕ → List ℕ → ℕ → List ℕ
clue_occult_request_digest_of id clue count = sha256 (byte_of tag.ClueOccultRequest ∷ (id ++ clue ++ to_be_bytes w32 count))

-- the digest of a request to purge the journals below a point: the ledger's identity, the point, and the root of those
-- journals
abbrev pub purge_request_digest_of : List ℕ → ℕ → List ℕ → List ℕ
purge_request_digest_of id point root = sha256 (byte_of tag.PurgeRequest ∷ (id ++ to_be_bytes w64 point ++ root))

-- the digest of a clue's name; that of the empty name, which names no clue, is 32 zero bytes
abbrev pub clue_digest_of : List ℕ → List ℕ
clue_digest_of name = if length name == 0 then zero_digest.0 else sha256 (byte_of tag.ClueName ∷ name)

-- the digest of a ledger's name, which its first header keeps
abbrev pub name_digest_of : List ℕ → List ℕ
name_digest_of name = sha256 (byte_of tag.LedgerName ∷ name)

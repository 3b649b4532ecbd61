-- The requests that a key proves, as words, their messages, and what is written for them.
use Rattle.std.specs.Prelude.{ℕ, ◌-◌, ◌^◌, ◌==◌, if◌then◌else◌, List, [], ◌∷◌, ◌++◌, length, codes, Option, Some, None, option_map}
use Rattle.std.specs.List.{list_any}
use Rattle.std.specs.Str.{bytes_eq}
use Rattle.hex.specs.Hex.{encode_lower}
use Rattle.ledger_bytes.specs.declared.digest.Digest.{Digest}
use Rattle.journal_record.specs.Entry.{content_digest_of}
use Rattle.journal_record.specs.Request.{clue_digest_of, clue_occult_request_digest_of, member_request_digest_of, occult_request_digest_of, purge_request_digest_of, request_digest_of}
use Rattle.journal_record.specs.Tags.{tag_proof_of}
use Rattle.ledger_bytes.specs.Digests.{digest}
use Rattle.ledger_bytes.specs.declared.limits.TheConstants.{CONTENT_LIMIT}
use Rattle.script_lines.specs.Spellings.{◌>>=◌, bytes_of, clue_of, count_of, digest_of, number_of, request_number_of}
use Rattle.ledger_cli.specs.declared.signing.Request.{Request}
use Rattle.ledger_cli.specs.declared.signing.Request.TheVariants.{Append, NewMember, Occult, OccultClue, Purge}
use Rattle.ledger_cli.specs.declared.signing.Signing.{Signing}

-- the message that approves a request on the ledger with this id
abbrev pub message_for : List ℕ → Request → List ℕ
message_for id (Append member clue content_len content_digest number) = request_digest_of id member clue.0 content_len content_digest.0 number
message_for id (NewMember number key) = member_request_digest_of id number key.0
message_for id (Occult target leaf) = occult_request_digest_of id target leaf.0
message_for id (OccultClue clue count) = clue_occult_request_digest_of id clue.0 count
message_for id (Purge point root) = purge_request_digest_of id point root.0

-- the message of the request that `sign` was given
abbrev pub message_of : Signing → List ℕ
message_of signing = message_for signing.id.0 signing.request

-- bytes as a line of lower-case hexadecimal digits
abbrev pub hex_line : List ℕ → List ℕ
hex_line bytes = encode_lower bytes ++ 10 ∷ []

-- what is written: a line with the message, and one with the key's tag proof of it
abbrev pub signed_text : Signing → List ℕ
signed_text signing =
    let message = message_of signing in hex_line message ++ hex_line (tag_proof_of signing.key.0 message)

-- a clue's name as a word: no clue as `-`, or 1 to 64 bytes other than space
abbrev pub clue_of_word : List ℕ → Option (List ℕ)
clue_of_word word = if list_any (λ b. b == 32) word then None else clue_of word

-- a request to append a content under a clue's name, as a member, with a number, or 0 where it has none
abbrev pub append_of : ℕ → List ℕ → List ℕ → ℕ → Request
append_of member clue content number =
    Append member (digest (clue_digest_of clue)) (length content) (digest (content_digest_of content)) number

-- the number that the words behind a content give a request: one word, or none, which 0 stands for
abbrev pub number_behind : List (List ℕ) → Option ℕ
number_behind [] = Some 0
number_behind (word ∷ []) = request_number_of word
number_behind words = None

-- the request of the words behind `append`: `MEMBER CLUE CONTENT`, or the same with a number as its last word
unfoldable pub append_from : List (List ℕ) → Option Request
append_from (member_word ∷ clue_word ∷ content_word ∷ words) = do
  number ← number_behind words
  member ← number_of (2 ^ 32 - 1) member_word
  clue ← clue_of_word clue_word
  content ← bytes_of CONTENT_LIMIT content_word
  Some (append_of member clue content number)
append_from words = None

-- a number that is at most `most` and a digest, as two words
abbrev pub numbered_digest : ℕ → List (List ℕ) → Option (ℕ × Digest)
numbered_digest most (number_word ∷ digest_word ∷ []) = do
  number ← number_of most number_word
  hash ← digest_of digest_word
  Some (number, hash)
numbered_digest most words = None

-- the request of the words behind `member`: `NUMBER NEWKEY`
unfoldable pub member_from : List (List ℕ) → Option Request
member_from words = option_map (λ numbered. NewMember numbered.0 numbered.1) (numbered_digest (2 ^ 32 - 1) words)

-- the request of the words behind `occult`: `TARGET LEAF`
unfoldable pub occult_from : List (List ℕ) → Option Request
occult_from words = option_map (λ numbered. Occult numbered.0 numbered.1) (numbered_digest (2 ^ 64 - 1) words)

-- the request of the words behind `occultclue`: `NAME COUNT`
unfoldable pub clue_occult_from : List (List ℕ) → Option Request
clue_occult_from (name_word ∷ count_word ∷ []) = do
  name ← clue_of_word name_word
  count ← count_of count_word
  Some (OccultClue (digest (clue_digest_of name)) count)
clue_occult_from words = None

-- the request of the words behind `purge`: `POINT ROOT`
unfoldable pub purge_from : List (List ℕ) → Option Request
purge_from words = option_map (λ numbered. Purge numbered.0 numbered.1) (numbered_digest (2 ^ 64 - 1) words)

-- a request by its verb and the words behind that
abbrev pub request_of : List ℕ → List (List ℕ) → Option Request
request_of verb words =
    if bytes_eq verb (codes "append") then append_from words
    else if bytes_eq verb (codes "member") then member_from words
    else if bytes_eq verb (codes "occult") then occult_from words
    else if bytes_eq verb (codes "occultclue") then clue_occult_from words
    else if bytes_eq verb (codes "purge") then purge_from words
    else None

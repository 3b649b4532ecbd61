-- The lines of a soak's jobs.
use Rattle.std.specs.Prelude.{ℕ, zero, suc, ◌+◌, ◌-◌, ◌==◌, ◌&&◌, ◌||◌, Bool, false, if◌then◌else◌, List, [], ◌∷◌, ◌++◌, codes, decimal, length, map, replicate, nat_lt, slice_get, Option, Some, None, option_and_then}
use Rattle.hex.specs.Hex.{encode_lower}
use Rattle.ledger_bytes.specs.Digests.{digest, zero_digest}
use Rattle.ledger_bytes.specs.declared.digest.Digest.{Digest}
use Rattle.journal_record.specs.Entry.{Entry, content_digest_of}
use Rattle.journal_record.specs.declared.header.Header.{Header}
use Rattle.journal_record.specs.Request.{clue_digest_of, request_digest_of, member_request_digest_of, occult_request_digest_of, purge_request_digest_of}
use Rattle.journal_record.specs.Tags.{tag_proof_of}
use Rattle.member_book.specs.Erasures.{is_record}
use Rattle.script_lines.specs.Words.{hex_of, hex_or_dash, spaced_words}
use Rattle.ledger_model.specs.Bounds.{lower_journal}
use Rattle.ledger_model.specs.History.{History, journals, id, size, point, root}
use Rattle.ledger_model.specs.Targets.{leaf_at}
use Rattle.ledger_soak.specs.declared.task.Task.{Task}
use Rattle.ledger_soak.specs.declared.task.Task.TheVariants.{Append, Anchor, Occult, Prove, Purge}

-- a line on lane 0 with these words
abbrev pub line_with : List (List ℕ) → List ℕ
line_with words = codes "0" ++ spaced_words words

-- ---- members

-- a member's key: 32 times the byte that is one more than the member's number
abbrev pub key_of : ℕ → Digest
key_of member = digest (replicate 32 (member + 1))

-- a member's proof of a message, by its key
abbrev pub proof_by : ℕ → List ℕ → List ℕ
proof_by member message = tag_proof_of (key_of member).0 message

-- a member's approval of a message, as a line gives it
abbrev pub given_text : ℕ → List ℕ → List ℕ
given_text member message = decimal member ++ codes ":" ++ encode_lower (proof_by member message)

-- the line of a new member, approved by the operator, on the ledger with this id
unfoldable pub member_line : List ℕ → ℕ → List ℕ
member_line id member =
    line_with (codes "member" ∷ decimal member ∷ hex_of (key_of member)
    ∷ hex_or_dash (proof_by 0 (member_request_digest_of id member (key_of member).0)) ∷ [])

-- ---- jobs

-- the name of one of the clues that a soak uses
abbrev pub clue_name : ℕ → List ℕ
clue_name clue = codes "c" ++ decimal clue

-- the line of a record, approved by the member who places it, on the ledger with this id
unfoldable pub record_line : List ℕ → ℕ → ℕ → List ℕ → List ℕ
record_line id member clue content =
    let message = request_digest_of id member (clue_digest_of (clue_name clue)) (length content) (content_digest_of content) 0 in
    line_with (codes "append" ∷ decimal member ∷ clue_name clue ∷ hex_or_dash content ∷ hex_or_dash (proof_by member message) ∷ [])

-- the line that asks for an anchor
abbrev pub anchor_line : List ℕ
anchor_line = line_with (codes "anchor" ∷ [])

-- the line that asks for the proof of journal n
abbrev pub prove_line : ℕ → List ℕ
prove_line n = line_with (codes "prove" ∷ decimal n ∷ [])

-- the leaf digest of a journal, or zeros where it was purged
abbrev pub kept_leaf : History → ℕ → Digest
kept_leaf h n = if nat_lt n (point h) then zero_digest else digest (leaf_at h n)

-- the line of an occult of a journal, approved by members 0 and 1
unfoldable pub occult_line : History → ℕ → List ℕ
occult_line h target =
    let leaf = kept_leaf h target in
    let message = occult_request_digest_of (id h) target leaf.0 in
    line_with (codes "occult" ∷ decimal target ∷ hex_of leaf
    ∷ (given_text 0 message ++ codes "," ++ given_text 1 message) ∷ [])

-- a header, where there is one, is that of a record of this member
abbrev pub is_record_by : ℕ → Option Header → Bool
is_record_by member None = false
is_record_by member (Some header) = is_record header.kind && header.member == member

-- a record of this member is among so many journals from journal n on
unfoldable pub has_record_by : ℕ → List Header → ℕ → ℕ → Bool
has_record_by member headers n zero = false
has_record_by member headers n (suc more) = is_record_by member (slice_get headers n) || has_record_by member headers (n + 1) more

-- a purge to journal p takes a record of this member
abbrev pub is_owner : History → ℕ → ℕ → Bool
is_owner h p member = has_record_by member (map (λ journal. journal.header) (journals h)) (point h) (p - point h)

-- a member's approval of a purge behind a comma, where it is needed
abbrev pub owner_approval : History → ℕ → List ℕ → ℕ → List ℕ
owner_approval h p message member = if is_owner h p member then codes "," ++ given_text member message else []

-- the line of a purge to journal p, with every approval that is needed: the operator's, and that of each of members 2, 3 and 4
-- of whose records it takes one
unfoldable pub purge_line : History → ℕ → List ℕ
purge_line h p =
    let message = purge_request_digest_of (id h) p (root h p) in
    line_with (codes "purge" ∷ decimal p ∷ hex_of (digest (root h p))
    ∷ (given_text 0 message ++ owner_approval h p message 2 ++ owner_approval h p message 3 ++ owner_approval h p message 4) ∷ [])

-- the kept time journal before the last one, where there is one
abbrev pub last_time_but_one : History → Option Entry
last_time_but_one h = option_and_then (λ last. lower_journal h last.header.jsn) (lower_journal h (size h))

-- the line of a purge to a time journal, or of an anchor where there is none
abbrev pub purge_line_to : History → Option Entry → List ℕ
purge_line_to h None = anchor_line
purge_line_to h (Some journal) = purge_line h journal.header.jsn

-- the line of a drawn job, with every approval that it needs
unfoldable pub job_line : Task → History → List ℕ
job_line (Append member clue content) h = record_line (id h) member clue content
job_line Anchor h = anchor_line
job_line (Occult target) h = occult_line h target
job_line (Prove n) h = prove_line n
job_line Purge h = purge_line_to h (last_time_but_one h)

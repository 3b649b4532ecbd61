-- The journals that accepted jobs place, as a dump shows them.
use Rattle.std.specs.Prelude.{ℕ, List, [], ◌∷◌, map, Some}
use Rattle.ledger_bytes.specs.Digests.{digest}
use Rattle.ledger_bytes.specs.declared.digest.Digest.{Digest}
use Rattle.journal_record.specs.Approval.{who_of}
use Rattle.journal_record.specs.Entry.{Entry, content_digest_of, who_digest_of}
use Rattle.journal_record.specs.Items.{Item}
use Rattle.journal_record.specs.Request.{member_request_digest_of, occult_request_digest_of, clue_occult_request_digest_of, purge_request_digest_of}
use Rattle.script_lines.specs.declared.said.SaidApproval.{SaidApproval}
use Rattle.ledger_model.specs.Appends.{append_journal, member_journal, occult_journal, clue_occult_journal, purge_journal, approval_of, clue_of, request_with}
use Rattle.ledger_model.specs.History.{History, size, id}
use Rattle.ledger_model.specs.Scheme.{Scheme}

-- a journal of which nothing was erased, as a dump shows it
abbrev pub shown_whole : Entry → Item
shown_whole journal = record { header = journal.header; body = Some journal.content; who = journal.who }

-- the record that a member's job places
abbrev pub record_placed : Scheme → History → ℕ → Digest → List ℕ → List ℕ → ℕ → Entry
record_placed scheme h member clue content proof number =
    let request = request_with (id h) member clue content number in
    let by = approval_of scheme member request proof in
    append_journal h member clue content (digest (content_digest_of content)) (digest request) by (digest (who_digest_of (who_of (by ∷ [])))) number

-- the journal of a new member that the operator's job places
abbrev pub member_placed : Scheme → History → ℕ → Digest → List ℕ → Entry
member_placed scheme h number key proof = member_journal (size h) number key (approval_of scheme 0 (member_request_digest_of (id h) number key.0) proof)

-- the occult that a job places
abbrev pub occult_placed : Scheme → History → ℕ → Digest → List SaidApproval → Entry
occult_placed scheme h target leaf given =
    occult_journal (size h) target leaf (map (λ by. approval_of scheme by.member (occult_request_digest_of (id h) target leaf.0) by.proof) given)

-- the occult by clue that a job places
abbrev pub clue_occult_placed : Scheme → History → List ℕ → ℕ → List SaidApproval → Entry
clue_occult_placed scheme h name count given =
    let request = clue_occult_request_digest_of (id h) (clue_of name).0 count in
    clue_occult_journal (size h) (clue_of name) count (map (λ by. approval_of scheme by.member request by.proof) given)

-- the purge that a job places
abbrev pub purge_placed : Scheme → History → ℕ → Digest → List SaidApproval → Entry
purge_placed scheme h p told given =
    purge_journal h p (map (λ by. approval_of scheme by.member (purge_request_digest_of (id h) p told.0) by.proof) given)

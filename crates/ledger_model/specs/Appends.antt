-- The journals of members' records, of new members, of occults of either kind and of purges.
use Rattle.std.specs.Prelude.{ℕ, List, [], ◌∷◌, length, map}
use Rattle.std.specs.Option.{option_map}
use Rattle.ledger_bytes.specs.Digests.{digest}
use Rattle.ledger_bytes.specs.declared.digest.Digest.{Digest}
use Rattle.journal_record.specs.Approval.{who_of}
use Rattle.journal_record.specs.Entry.{Entry, content_digest_of, who_digest_of}
use Rattle.journal_record.specs.Rules.{version_of}
use Rattle.journal_record.specs.Request.{request_digest_of, member_request_digest_of, occult_request_digest_of, clue_occult_request_digest_of, purge_request_digest_of, clue_digest_of}
use Rattle.journal_record.specs.declared.approval.Approval.{Approval}
use Rattle.journal_record.specs.declared.header.Header.{Header}
use Rattle.journal_record.specs.declared.header.Kind.TheVariants as kind
use Rattle.script_lines.specs.declared.said.SaidApproval.{SaidApproval}
use Rattle.ledger_model.specs.Bases.{base_of, digest_of_base}
use Rattle.ledger_model.specs.Clues.{next_ordinal, last_journal}
use Rattle.ledger_model.specs.Headers.{plain_header}
use Rattle.ledger_model.specs.History.{History, size}
use Rattle.ledger_model.specs.Scheme.{Scheme}
use Rattle.ledger_model.specs.declared.job.Job.{Job}
use Rattle.ledger_model.specs.declared.job.Job.TheVariants.{Append, NewMember, Occult, OccultClue, Purge}

-- the digest that a member approves for a record with this clue and this content
abbrev pub request_with : List ℕ → ℕ → Digest → List ℕ → ℕ → List ℕ
request_with id member clue content number = request_digest_of id member clue.0 (length content) (content_digest_of content) number

-- the clue of a name; no name is no clue
abbrev pub clue_of : List ℕ → Digest
clue_of name = digest (clue_digest_of name)

-- an approval by this member: the proof of a message, with the key that it shows under a scheme
abbrev pub approval_of : Scheme → ℕ → List ℕ → List ℕ → Approval
approval_of scheme member message proof = record { member = member; key = option_map digest (scheme message proof); proof = proof }

-- the job of a record with a clue on the ledger with this id
unfoldable pub append_with : Scheme → List ℕ → ℕ → Digest → List ℕ → List ℕ → ℕ → Job
append_with scheme id member clue content proof number =
    let request = request_with id member clue content number in
    let by = approval_of scheme member request proof in
    Append member clue content (digest (content_digest_of content)) (digest request) by (digest (who_digest_of (who_of (by ∷ [])))) number

-- the job of a new member on the ledger with this id
unfoldable pub member_job : Scheme → List ℕ → ℕ → Digest → List ℕ → Job
member_job scheme id number key proof = NewMember number key (approval_of scheme 0 (member_request_digest_of id number key.0) proof)

-- the job of an occult on the ledger with this id: each approval is one of its request
unfoldable pub occult_job : Scheme → List ℕ → ℕ → Digest → List SaidApproval → Job
occult_job scheme id target leaf given =
    let request = occult_request_digest_of id target leaf.0 in
    Occult target leaf (map (λ by. approval_of scheme by.member request by.proof) given)

-- the job of an occult of all records of the clue with this name, on the ledger with this id: each approval is one of its request
unfoldable pub clue_occult_job : Scheme → List ℕ → List ℕ → ℕ → List SaidApproval → Job
clue_occult_job scheme id name count given =
    let request = clue_occult_request_digest_of id (clue_of name).0 count in
    OccultClue (clue_of name) count (map (λ by. approval_of scheme by.member request by.proof) given)

-- the job of a purge on the ledger with this id: each approval is one of its request
unfoldable pub purge_job : Scheme → List ℕ → ℕ → Digest → List SaidApproval → Job
purge_job scheme id p told given =
    let request = purge_request_digest_of id p told.0 in
    Purge p told (map (λ by. approval_of scheme by.member request by.proof) given)

-- the header of a record that is journal jsn, with its clue, its number among the clue's journals, the clue's journal before it,
-- the digests of its content, its request and its who bytes, and the request's number, or 0
unfoldable pub append_header : ℕ → ℕ → Digest → ℕ → ℕ → List ℕ → Digest → Digest → Digest → ℕ → Header
append_header jsn member clue ordinal previous content content_digest request who number = record {
  version = version_of kind.Content number (length content);
  kind = kind.Content;
  jsn = jsn;
  member = member;
  clue = clue;
  clue_ord = ordinal;
  clue_prev = previous;
  a = number;
  b = 0;
  link = request;
  content_len = length content;
  content_digest = content_digest;
  who_digest = who;
}

-- a member's record as the next journal of a history: its clue's ordinal and the clue's journal before it are those of the
-- history
abbrev pub append_journal : History → ℕ → Digest → List ℕ → Digest → Digest → Approval → Digest → ℕ → Entry
append_journal h member clue content content_digest request by who number = record {
  header = append_header (size h) member clue (next_ordinal h clue) (last_journal h clue) content content_digest request who number;
  content = content;
  who = who_of (by ∷ []);
}

-- the header of a new member that is journal jsn
unfoldable pub member_header : ℕ → ℕ → Digest → Approval → Header
member_header jsn number key by = plain_header kind.Member jsn number 0 key (who_of (by ∷ []))

-- the journal jsn that admits a new member with this key: it has no content, and the operator's approval is its who
abbrev pub member_journal : ℕ → ℕ → Digest → Approval → Entry
member_journal jsn number key by = record {
  header = member_header jsn number key by;
  content = [];
  who = who_of (by ∷ []);
}

-- the header of an occult that is journal jsn
unfoldable pub occult_header : ℕ → ℕ → Digest → List Approval → Header
occult_header jsn target leaf given = plain_header kind.Occult jsn target 0 leaf (who_of given)

-- the journal jsn that hides the content of another: it names that one's leaf digest, and the approvals are its who
abbrev pub occult_journal : ℕ → ℕ → Digest → List Approval → Entry
occult_journal jsn target leaf given = record {
  header = occult_header jsn target leaf given;
  content = [];
  who = who_of given;
}

-- the header of an occult by clue that is journal jsn
unfoldable pub clue_occult_header : ℕ → Digest → ℕ → List Approval → Header
clue_occult_header jsn clue count given = plain_header kind.ClueOccult jsn count 0 clue (who_of given)

-- the journal jsn that hides the contents of all records of a clue in front of it: it tells how many there are, and the approvals
-- are its who
abbrev pub clue_occult_journal : ℕ → Digest → ℕ → List Approval → Entry
clue_occult_journal jsn clue count given = record {
  header = clue_occult_header jsn clue count given;
  content = [];
  who = who_of given;
}

-- the header of a purge to journal p that is journal jsn, where the base at p has this digest
unfoldable pub purge_header : ℕ → ℕ → Digest → List Approval → Header
purge_header jsn p link given = plain_header kind.Purge jsn p 0 link (who_of given)

-- a purge to journal p as the next journal of a history: it names the digest of the base that it leaves
abbrev pub purge_journal : History → ℕ → List Approval → Entry
purge_journal h p given = record {
  header = purge_header (size h) p (digest (digest_of_base (base_of h p))) given;
  content = [];
  who = who_of given;
}

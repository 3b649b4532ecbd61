-- Whether those placed a journal who had to.
use Rattle.std.specs.Prelude.{◌≡◌, ℕ, ◌^◌, ◌<◌, ◌≤◌, List, [], ◌∷◌, length, All, Option, None, option_map, slice_get, true}
use Rattle.ledger_bytes.specs.Digests.{digest}
use Rattle.journal_record.specs.Approval.{who_of}
use Rattle.journal_record.specs.Entry.{Entry}
use Rattle.journal_record.specs.Items.{Item}
use Rattle.journal_record.specs.Members.{is_key_of}
use Rattle.journal_record.specs.Request.{request_digest_of, member_request_digest_of, occult_request_digest_of, clue_occult_request_digest_of, purge_request_digest_of}
use Rattle.journal_record.specs.declared.approval.Approval.{Approval}
use Rattle.journal_record.specs.declared.header.Header.{Header}
use Rattle.journal_record.specs.declared.header.Kind.{Kind}
use Rattle.journal_record.specs.declared.header.Kind.TheVariants as kind
use Rattle.member_book.specs.Approvals.{approvals_refusal, order_refusal, unknown_refusal, missing_refusal}
use Rattle.pseudo_genesis.specs.declared.base.Base.{Base}
use Rattle.ledger_model.specs.Behind.{first_of}
use Rattle.ledger_model.specs.History.{history}
use Rattle.ledger_model.specs.Needs.{purge_needs}
use Rattle.ledger_model.specs.Scheme.{Scheme}
use Rattle.audit_dump.specs.Known.{keys_behind, root_behind}

-- ---- approvals in a who

-- The length of a proof fits the two bytes in which it stands, so that a who has one reading: otherwise 65,536 bytes of proof would
-- be told as none.
abbrev pub HasShortProof : Approval → Type 0
HasShortProof by = length by.proof < 2 ^ 16

-- an approval of a message: its key is the one that the scheme finds in its proof, where it finds one
pub record IsApprovalOf (scheme : Scheme) (message : List ℕ) (by : Approval) : Type 0 where
  pub short : HasShortProof by
  pub key_is : by.key ≡ option_map digest (scheme message by.proof)

-- the who is one approval of a message, by this member and with this member's key
pub record IsOf (scheme : Scheme) (known : List (List ℕ)) (message : List ℕ) (member : ℕ) (who : List ℕ) : Type 0 where
  pub by : Approval
  pub who_is : who ≡ who_of (by ∷ [])
  pub member_is : by.member ≡ member
  pub shown : IsApprovalOf scheme message by
  pub key_is : is_key_of by.key (slice_get known member) ≡ true

-- The who is approvals of a message in the order of their members, each of a known member and with that member's key, and those
-- that are needed are among them.
-- Example: where 0 and 1 are needed, approvals of 0, 1 and 3 are in order. Those of 0 and 3 aren't, and nor are those of 1 and 0.
pub record AreOf (scheme : Scheme) (known : List (List ℕ)) (message : List ℕ) (needed : List ℕ) (who : List ℕ) : Type 0 where
  pub given : List Approval
  pub who_is : who ≡ who_of given
  pub shown : All (IsApprovalOf scheme message) given
  pub passed : approvals_refusal known given needed ≡ None

-- The same where nobody can know the message, and so nobody which keys the proofs show: order, members and needs alone.
pub record AreInForm (known : List (List ℕ)) (needed : List ℕ) (who : List ℕ) : Type 0 where
  pub given : List Approval
  pub who_is : who ≡ who_of given
  pub short : All HasShortProof given
  pub in_order : order_refusal given ≡ None
  pub are_known : unknown_refusal known given ≡ None
  pub none_missing : missing_refusal given needed ≡ None

-- ---- what is approved

-- the digest that a member approves for a record with this header
abbrev pub record_request : List ℕ → Header → List ℕ
record_request id x = request_digest_of id x.member x.clue.0 x.content_len x.content_digest.0 x.a

-- a record is placed by the member that its header names, and the header links what the member approved
abbrev pub IsPlacedRecord : Scheme → List ℕ → List (List ℕ) → Item → Type 0
IsPlacedRecord scheme id known item =
    IsOf scheme known (record_request id item.header) item.header.member item.who
    × (item.header.link.0 ≡ record_request id item.header)

-- A purge is placed by the operator and by all who own a record that it takes. Behind a base only records of the dump are known to
-- be taken. A purge to a point in front of the base was approved by a root that the dump can't tell: then the keys aren't looked at.
abbrev pub IsPlacedPurge : Scheme → List ℕ → Option Base → List Entry → Item → Type 0
IsPlacedPurge scheme id start before item =
    let known = keys_behind start before in
    let needed = purge_needs (history [] before) item.header.a in
    (first_of start ≤ item.header.a → AreOf scheme known (purge_request_digest_of id item.header.a (root_behind start before item.header.a)) needed item.who)
    × (item.header.a < first_of start → AreInForm known needed item.who)

-- Those placed a journal who had to, by its kind: nobody approves journal 0 and time journals, a member its own record, the operator
-- a new member, operator and regulator an occult of either kind, and a purge the operator and those who own what it takes.
abbrev pub IsPlacedBy : Scheme → List ℕ → Option Base → List Entry → Item → Kind → Type 0
IsPlacedBy scheme id start before item kind.Genesis = item.who ≡ []
IsPlacedBy scheme id start before item kind.Content = IsPlacedRecord scheme id (keys_behind start before) item
IsPlacedBy scheme id start before item kind.Member = IsOf scheme (keys_behind start before) (member_request_digest_of id item.header.a item.header.link.0) 0 item.who
IsPlacedBy scheme id start before item kind.Time = item.who ≡ []
IsPlacedBy scheme id start before item kind.Occult =
    AreOf scheme (keys_behind start before) (occult_request_digest_of id item.header.a item.header.link.0) (0 ∷ 1 ∷ []) item.who
IsPlacedBy scheme id start before item kind.Purge = IsPlacedPurge scheme id start before item
IsPlacedBy scheme id start before item kind.ClueOccult =
    AreOf scheme (keys_behind start before) (clue_occult_request_digest_of id item.header.link.0 item.header.a) (0 ∷ 1 ∷ []) item.who

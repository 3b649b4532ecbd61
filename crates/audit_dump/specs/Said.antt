-- What approvals stand in a who.
use Rattle.std.specs.Prelude.{◌≡◌, ℕ, ◌^◌, ◌<◌, List, [], length, All, None, option_map, slice_get, Result, Ok}
use Rattle.std.specs.Int.{w16, w32}
use Rattle.ledger_bytes.specs.Digests.{digest}
use Rattle.ledger_bytes.specs.Fields.{Unread, left_from, ◌>>=◌, bytes_at, number_at, end_at}
use Rattle.ledger_bytes.specs.declared.failure.Bad.{Bad}
use Rattle.journal_record.specs.Approval.{who_of}
use Rattle.journal_record.specs.declared.approval.Approval.{Approval}
use Rattle.ledger_model.specs.Scheme.{Scheme}
use Rattle.audit_dump.specs.Approvals.{HasShortProof, IsApprovalOf}

-- An approval as it stands in a who: its numbers fit the bytes in which they stand, and a key isn't there.
pub record IsSaid (by : Approval) : Type 0 where
  pub member : by.member < 2 ^ 32
  pub short : HasShortProof by
  pub no_key : by.key ≡ None

-- a who is these approvals, as they stand in it
pub record AreSaid (who : List ℕ) (given : List Approval) : Type 0 where
  pub who_is : who ≡ who_of given
  pub said : All IsSaid given

-- A who is these approvals of a message. A member's number fits the bytes in which it stands: those of all members do.
pub record AreShown (scheme : Scheme) (message who : List ℕ) (given : List Approval) : Type 0 where
  pub who_is : who ≡ who_of given
  pub shown : All (IsApprovalOf scheme message) given
  pub members : All (λ by. by.member < 2 ^ 32) given

-- an approval as it stands in a who, with these parts
abbrev pub said_by : ℕ → List ℕ → Approval
said_by member proof = record { member = member; key = None; proof = proof }

-- the next approval of a who, and what is left behind it
unfoldable pub said_at : Unread → Result (Approval × Unread) Bad
said_at l = do
  member ← number_at w32 l
  len ← number_at w16 member.1
  proof ← bytes_at len.0 len.1
  Ok (said_by member.0 proof.0, proof.1)

-- the approval that is the whole who
unfoldable pub said_of : List ℕ → Result Approval Bad
said_of who = do
  read ← said_at (left_from (length who) who)
  end_at read.0 read.1

-- An approval with the key of its member, where there is such a member. Its proof isn't looked at, and left out.
abbrev pub own_approval : List (List ℕ) → Approval → Approval
own_approval known by = record { member = by.member; key = option_map digest (slice_get known by.member); proof = [] }

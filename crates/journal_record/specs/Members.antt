-- Members: their keys by number, and what their proofs show.
use Rattle.std.specs.Prelude.{ℕ, ◌==◌, Bool, false, if◌then◌else◌, List, [], ◌∷◌, length, map, nat_lt, nat_le, bytes_eq, Option, Some, None}
use Rattle.ledger_bytes.specs.declared.digest.Digest.{Digest}
use Rattle.ledger_bytes.specs.declared.limits.TheConstants.{MEMBER_LIMIT}
use Rattle.ledger_bytes.specs.declared.refusal.Refusal.{Refusal}
use Rattle.ledger_bytes.specs.declared.refusal.Refusal.TheVariants.{MembersFull, MemberNumber}
use Rattle.journal_record.specs.declared.member.Member.{Member}

-- the keys of all members, in the order of their numbers
abbrev pub keys : List Member → List (List ℕ)
keys members = map (λ m. m.key.0) members

-- the operator and the regulator, with these keys
abbrev pub founders : Digest → Digest → List Member
founders operator regulator = record { key = operator; jsn = 0 } ∷ record { key = regulator; jsn = 0 } ∷ []

-- whether there is a member with this number
abbrev pub is_known : List (List ℕ) → ℕ → Bool
is_known known member = nat_lt member (length known)

-- a proof shows a key, and it is this one
abbrev pub is_key_of : Option Digest → Option (List ℕ) → Bool
is_key_of None kept = false
is_key_of (Some shown) None = false
is_key_of (Some shown) (Some kept) = bytes_eq shown.0 kept

-- why a member with this number isn't admitted: there are as many as there may be, or another number is next
abbrev pub number_refusal : List Member → ℕ → Option Refusal
number_refusal members number =
    if nat_le MEMBER_LIMIT (length members) then Some MembersFull
    else (if number == length members then None else Some (MemberNumber (length members)))

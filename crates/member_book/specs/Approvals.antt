-- What a list of approvals is refused for, given the keys of all members in the order of their numbers.
use Rattle.std.specs.Prelude.{ℕ, ◌+◌, ◌==◌, Bool, not, min, List, drop, zip, filter, find, position, nat_le, slice_get, Option, Some, None, option_map, Result, Ok, Err}
use Rattle.std.specs.List.{list_any, reduce}
use Rattle.std.specs.Option.{option_or}
use Rattle.ledger_bytes.specs.declared.refusal.Refusal.{Refusal}
use Rattle.ledger_bytes.specs.declared.refusal.Refusal.TheVariants.{ApprovalOrder, UnknownMember, WrongKey, MissingApproval}
use Rattle.journal_record.specs.Members.{is_known, is_key_of}
use Rattle.journal_record.specs.declared.approval.Approval.{Approval}

-- each approval but the last, with the one behind it
abbrev pub neighbours : List Approval → List (Approval × Approval)
neighbours given = zip given (drop 1 given)

-- the place of the first approval whose member the next one doesn't exceed
abbrev pub first_unordered : List Approval → Option ℕ
first_unordered given = position (λ pair. nat_le pair.1.member pair.0.member) (neighbours given)

-- the order is broken at the first approval whose member isn't greater than the member before it
abbrev pub order_refusal : List Approval → Option Refusal
order_refusal given = option_map (λ before. ApprovalOrder (before + 1)) (first_unordered given)

-- the first approval of a member that isn't known
abbrev pub unknown_refusal : List (List ℕ) → List Approval → Option Refusal
unknown_refusal known given =
    option_map (λ g. UnknownMember g.member) (find (λ g. not (is_known known g.member)) given)

-- an approval's proof shows the key of its member
abbrev pub shows_key : List (List ℕ) → Approval → Bool
shows_key known g = is_key_of g.key (slice_get known g.member)

-- the first approval whose proof doesn't show the member's key
abbrev pub key_refusal : List (List ℕ) → List Approval → Option Refusal
key_refusal known given =
    option_map (λ g. WrongKey g.member) (find (λ g. not (shows_key known g)) given)

-- one of the approvals is this member's
abbrev pub approves : List Approval → ℕ → Bool
approves given member = list_any (λ g. g.member == member) given

-- the least of the needed members whose approval isn't given
abbrev pub least_missing : List Approval → List ℕ → Option ℕ
least_missing given needed = reduce min (filter (λ member. not (approves given member)) needed)

-- the approval of the least of the needed members that is missing
abbrev pub missing_refusal : List Approval → List ℕ → Option Refusal
missing_refusal given needed =
    option_map (λ member. MissingApproval member) (least_missing given needed)

-- why a list of approvals is refused, where it is: their order, members, keys, and who is missing, each judged over
-- the whole list before the next
abbrev pub approvals_refusal : List (List ℕ) → List Approval → List ℕ → Option Refusal
approvals_refusal known given needed =
    option_or (order_refusal given)
    (option_or (unknown_refusal known given)
    (option_or (key_refusal known given) (missing_refusal given needed)))

-- the answer of a judge: a refusal is an error
abbrev pub judgement : Option Refusal → Result Unit Refusal
judgement None = Ok tt
judgement (Some refusal) = Err refusal

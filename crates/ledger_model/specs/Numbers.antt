-- The numbers by which members tell their records apart.
use Rattle.std.specs.Prelude.{ℕ, ◌+◌, ◌==◌, ◌&&◌, Bool, if◌then◌else◌, List, [], ◌∷◌, map, drop, get_or, bytes_eq, Option, Some, None}
use Rattle.std.specs.Option.{option_or}
use Rattle.ledger_bytes.specs.declared.digest.Digest.{Digest}
use Rattle.ledger_bytes.specs.declared.refusal.Refusal.{Refusal}
use Rattle.ledger_bytes.specs.declared.refusal.Refusal.TheVariants.{NumberTaken}
use Rattle.journal_record.specs.Entry.{Entry}
use Rattle.member_book.specs.Erasures.{is_record}
use Rattle.ledger_model.specs.History.{History, journals, point}

-- whether a journal is this member's record with this number
abbrev pub is_numbered : ℕ → ℕ → Entry → Bool
is_numbered member number journal =
    is_record journal.header.kind && (journal.header.member == member && journal.header.a == number)

-- the place of the last of some journals of which something is so, where n journals stand in front of them
abbrev pub place_from : ℕ → (Entry → Bool) → List Entry → Option ℕ
place_from n is [] = None
place_from n is (journal ∷ more) = option_or (place_from (n + 1) is more) (if is journal then Some n else None)

-- the place of a member's record with this number among some journals, of which the first is journal `first`; 0 is no number
abbrev pub numbered_in : ℕ → List Entry → ℕ → ℕ → Option ℕ
numbered_in first journals member number = if number == 0 then None else place_from first (is_numbered member number) journals

-- the last of the kept records of a member that has this number, where there is one: in a lawful history there is one at most
unfoldable pub numbered : History → ℕ → ℕ → Option ℕ
numbered h member number = numbered_in (point h) (drop (point h) (journals h)) member number

-- the digest of the request that journal n answers, where it is a record, and else its link; no bytes where it isn't there
abbrev pub link_at : History → ℕ → List ℕ
link_at h n = get_or (map (λ journal. journal.header.link.0) (journals h)) n []

-- the refusal where another request has this number already
abbrev pub taken_by : History → Digest → Option ℕ → Option Refusal
taken_by h request None = None
taken_by h request (Some n) = if bytes_eq request.0 (link_at h n) then None else Some (NumberTaken n)

-- the record that a request repeats, where it does
abbrev pub repeated_by : History → Digest → Option ℕ → Option ℕ
repeated_by h request None = None
repeated_by h request (Some n) = if bytes_eq request.0 (link_at h n) then Some n else None

-- the refusal of a member's record where the number is that of another request
unfoldable pub number_taken : History → ℕ → ℕ → Digest → Option Refusal
number_taken h member number request = taken_by h request (numbered h member number)

-- the record that is asked for once more: a repeat places nothing, and is told that record's receipt
unfoldable pub repeated : History → ℕ → ℕ → Digest → Option ℕ
repeated h member number request = repeated_by h request (numbered h member number)

-- what is there where nothing is repeated
abbrev pub unless_repeated : {A : Type 0} → Option ℕ → Option A → Option A
unless_repeated None found = found
unless_repeated (Some n) found = None

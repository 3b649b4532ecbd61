-- Which record of a member has which number, and an index that tells it.
use Rattle.std.specs.Prelude.{◌≡◌, ℕ, ◌+◌, ◌<◌, ◌≤◌, ◌==◌, ◌&&◌, not, Bool, true, false, if◌then◌else◌, List, [], ◌∷◌, get_or, nat_le, Option, Some, None}
use Rattle.std.specs.BTreeMap.{is_at}
use Rattle.std.specs.Map.{lookup}
use Rattle.std.specs.Option.{option_or}
use Rattle.std.specs.Ordering.{nat_cmp}
use Rattle.journal_record.specs.declared.header.Header.{Header}
use Rattle.member_book.specs.Erasures.{is_record}

-- whether two pairs of a member and a number are the same
abbrev pub key_eq : ℕ × ℕ → ℕ × ℕ → Bool
key_eq x y = x.0 == y.0 && x.1 == y.1

-- whether a header is that of a record with a number
abbrev pub is_numbered : Header → Bool
is_numbered x = is_record x.kind && not (x.a == 0)

-- whether a header is that of this member's record with this number
abbrev pub is_with : ℕ → ℕ → Header → Bool
is_with member number x = is_record x.kind && (x.member == member && x.a == number)

-- the number of the last of some headers that is such a record, where the first is that of journal `first`
abbrev pub last_with : ℕ → ℕ → ℕ → List Header → Option ℕ
last_with first member number [] = None
last_with first member number (x ∷ xs) = option_or (last_with (first + 1) member number xs) (if is_with member number x then Some first else None)

-- a journal, where it isn't in front of this one
abbrev pub from_on : ℕ → Option ℕ → Option ℕ
from_on p None = None
from_on p (Some n) = if nat_le p n then Some n else None

-- what a number tells, by the pairs of a number and a journal of one member
abbrev pub told_in : ℕ → List (ℕ × ℕ) → Option ℕ
told_in number entries = lookup (is_at (nat_cmp number)) entries

-- no number above this one tells a journal
abbrev pub NoneAbove : ℕ → List (ℕ × ℕ) → Type 0
NoneAbove greatest entries = (number : ℕ) → greatest < number → told_in number entries ≡ None

-- one number of a member tells this, and all others what they told
abbrev pub PutsOne : List (ℕ × ℕ) → List (ℕ × ℕ) → ℕ → Option ℕ → Type 0
PutsOne old new number told = (n : ℕ) → told_in n new ≡ (if number == n then told else told_in n old)

-- what an index tells of a member and a number, by the pairs of each member
abbrev pub told_of : ℕ × ℕ → List (List (ℕ × ℕ)) → Option ℕ
told_of key members = told_in key.1 (get_or members key.0 [])

-- of each member and number, an index tells the last record among these headers; of journals in front of them it may tell more
abbrev pub IndexesNumbers : List (List (ℕ × ℕ)) → ℕ → List Header → Type 0
IndexesNumbers members first xs = (member number : ℕ) → 1 ≤ number → from_on first (told_of (member, number) members) ≡ last_with first member number xs

-- one key tells this, and all others what they told
abbrev pub PutsNumber : List (List (ℕ × ℕ)) → List (List (ℕ × ℕ)) → ℕ × ℕ → Option ℕ → Type 0
PutsNumber old new key told = (k : ℕ × ℕ) → told_of k new ≡ (if key_eq key k then told else told_of k old)

-- the index after a journal with this header, and what its key told before
pub record IsAdded (x : Header) (old : List (List (ℕ × ℕ))) (jsn : ℕ) (before : Option ℕ) (new : List (List (ℕ × ℕ))) : Type 0 where
  pub same : is_numbered x ≡ false → new ≡ old
  pub puts : is_numbered x ≡ true → PutsNumber old new (x.member, x.a) (Some jsn)
  pub before_is : is_numbered x ≡ true → before ≡ told_of (x.member, x.a) old

-- two indexes tell the same
abbrev pub IsSameIndex : List (List (ℕ × ℕ)) → List (List (ℕ × ℕ)) → Type 0
IsSameIndex old new = (k : ℕ × ℕ) → told_of k new ≡ told_of k old

-- the last kept record of a member with this number, by the headers from journal `first` on; 0 is no number
abbrev pub told_number : ℕ → ℕ → ℕ → ℕ → List Header → Option ℕ
told_number first point member number xs = if number == 0 then None else from_on point (last_with first member number xs)

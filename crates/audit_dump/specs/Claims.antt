-- What the time journals of a dump say of the notary's list.
use Rattle.std.specs.Prelude.{◌≡◌, ℕ, ◌<◌, ◌≤◌, List, [], ◌++◌, length, map, filter, All, Option, Some, None, slice_get}
use Rattle.std.specs.List.{Contains}
use Rattle.std.specs.List.Sorted.{IsNonDecreasingBy, IsPermutation}
use Rattle.sha2.specs.Sha256.{sha256}
use Rattle.journal_record.specs.Entry.{Entry}
use Rattle.journal_record.specs.Items.{Item}
use Rattle.journal_record.specs.declared.header.Header.{Header}
use Rattle.member_book.specs.Erasures.{is_time}
use Rattle.pseudo_genesis.specs.declared.base.Base.{Base}
use Rattle.time_peg.specs.Entries.{entry_of, peg_string}
use Rattle.audit_dump.specs.Known.{journals_of, root_behind}
use Rattle.audit_dump.specs.declared.claims.Claim.{Claim}
use Rattle.audit_dump.specs.declared.claims.Meeting.{Meeting}

-- ---- claims

-- What the header of a time journal claims of the notary's list: that the entry with its index is the one with its time, the peg over
-- all journals in front of it, of which this is the root, and its salt. The journal's number is kept with it.
abbrev pub claim_by : List ℕ → List ℕ → Header → Claim
claim_by id root header = record { index = header.a; number = header.jsn; entry = entry_of header.b (sha256 (peg_string id header.jsn root)) header.link.0 }

-- the same, where the root is told by a base and the journals behind it
abbrev pub claim_of : List ℕ → Option Base → List Entry → Item → Claim
claim_of id start journals item = claim_by id (root_behind start journals item.header.jsn) item.header

-- what the time journals among some journals claim, in order
-- Example: of a genesis, a record and two time journals there are two claims.
abbrev pub claims_of : List ℕ → Option Base → List Item → List Claim
claims_of id start items = map (claim_of id start (journals_of items)) (filter (λ item. is_time item.header.kind) items)

-- ---- entries

-- the entry that a claim names is there, and it is the one that is claimed
abbrev pub IsMet : List (List ℕ) → Claim → Type 0
IsMet es claim = slice_get es claim.index ≡ Some claim.entry

-- a number is the least of the claims that entries don't meet
pub record IsLeastNumber (claims : List Claim) (es : List (List ℕ)) (number : ℕ) : Type 0 where
  pub claim : Claim
  pub among : Contains claims claim
  pub number_is : claim.number ≡ number
  pub fails : IsMet es claim → ⊥
  pub others : All (λ other. other.number < number → IsMet es other) claims

-- the least number of a claim that entries don't meet, and none where they meet all; the order of the claims doesn't matter
-- Example: the claims 5, 9 and 7 name the entries 0, 1 and 2, of which the first alone is as it is claimed. The number is 7.
abbrev pub IsLeastUnmet : List Claim → List (List ℕ) → Option ℕ → Type 0
IsLeastUnmet claims es None = All (IsMet es) claims
IsLeastUnmet claims es (Some number) = IsLeastNumber claims es number

-- ---- while entries are read

-- Claims, in another order, are parted in two: those that were looked at, all of which name one of these entries, with the least
-- number of them that isn't met; and those that were not, by rising index, none of which names one of the first n entries.
pub record ArePartedAt (n : ℕ) (claims : List Claim) (es : List (List ℕ)) (meeting : Meeting) : Type 0 where
  pub looked : List Claim
  pub moved : IsPermutation claims (looked ++ meeting.rest.now)
  pub below : All (λ claim. claim.index < length es) looked
  pub least : IsLeastUnmet looked es meeting.least
  pub behind : All (λ claim. n ≤ claim.index) meeting.rest.now
  pub sorted : IsNonDecreasingBy (λ claim. claim.index) meeting.rest.now

-- claims were held against these entries: each that names one of them was looked at
abbrev pub HaveMet : List Claim → List (List ℕ) → Meeting → Type 0
HaveMet claims es meeting = ArePartedAt (length es) claims es meeting

-- claims are held against these entries, the first ones of the list
abbrev pub MeetFirst : List (List ℕ) → Meeting → Meeting → Type 0
MeetFirst es old new = (claims : List Claim) → HaveMet claims [] old → HaveMet claims es new

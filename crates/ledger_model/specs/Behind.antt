-- What may be next behind a base, where nobody can look at the journals in front of it.
use Rattle.std.specs.Prelude.{◌≡◌, ◌≢◌, ℕ, ◌+◌, ◌-◌, ◌<◌, ◌≤◌, ◌&&◌, ◌==◌, Bool, true, false, not, nat_le, if◌then◌else◌, List, [], ◌∷◌, ◌++◌, length, map, filter, drop, slice_get, Option, Some, None, ⊤}
use Rattle.std.specs.List.{list_any}
use Rattle.ledger_bytes.specs.declared.digest.Digest.{Digest}
use Rattle.clue_index.specs.Added.{Added, trail_of, different_clues}
use Rattle.clue_index.specs.Trail.{count_of, last_of}
use Rattle.journal_record.specs.Entry.{Entry}
use Rattle.journal_record.specs.Rules.{IsHeader, is_no_clue}
use Rattle.journal_record.specs.declared.header.Header.{Header}
use Rattle.journal_record.specs.declared.header.Kind.{Kind}
use Rattle.journal_record.specs.declared.header.Kind.TheVariants as kind
use Rattle.ledger_model.specs.Bases.{clue_mark_of, clues_added}
use Rattle.ledger_model.specs.Clues.{has_clue, is_of_clue}
use Rattle.ledger_model.specs.History.{history, is_purge, greatest_point}
use Rattle.ledger_model.specs.Limits.{real_limits}
use Rattle.ledger_model.specs.Members.{members, admitted_members}
use Rattle.ledger_model.specs.Numbers.{numbered_in}
use Rattle.ledger_model.specs.Targets.{names, hides, is_hidden_by, kind_at, leaf_at}
use Rattle.pseudo_genesis.specs.declared.base.Base.{Base}

-- the number of the first journal that is known: the base's point, or journal 0
abbrev pub first_of : Option Base → ℕ
first_of None = 0
first_of (Some base) = base.point

-- how many members there are, by the base and the journals behind it
abbrev pub count_behind : Option Base → List Entry → ℕ
count_behind None journals = length (members (history [] journals))
count_behind (Some base) journals = length base.keys + length (admitted_members journals)

-- what an index of clues was given, by the base and the journals behind it
abbrev pub clues_behind : Option Base → List Entry → Added
clues_behind None journals = clues_added 0 journals
clues_behind (Some base) journals = record { states = base.clues; marks = map clue_mark_of (filter has_clue journals); floor = base.point }

-- the next journal's number
abbrev pub next_number : Option Base → List Entry → ℕ
next_number start journals = first_of start + length journals

-- whether a header is that of the purge to this point
abbrev pub is_purge_to : ℕ → Header → Bool
is_purge_to p x = is_purge x.kind && (x.a == p)

-- whether the purge to the base's very point is among the journals behind it; without a base nothing stands in front
abbrev pub has_own_purge : Option Base → List Entry → Bool
has_own_purge None journals = true
has_own_purge (Some base) journals = list_any (λ j. is_purge_to base.point j.header) journals

-- the ordinal of a clue's next journal, by what an index of clues was given
abbrev pub ordinal_in : Added → Digest → ℕ
ordinal_in a clue = if is_no_clue clue then 0 else count_of (trail_of a clue.0) + 1

-- the number of the clue's journal before its next one, or 0, by what an index of clues was given
abbrev pub previous_in : Added → Digest → ℕ
previous_in a clue = if is_no_clue clue then 0 else last_of (trail_of a clue.0)

-- there is room for a clue: it isn't new, or there are fewer than so many
abbrev pub HasRoomFor : ℕ → Added → Digest → Type 0
HasRoomFor most a clue = is_no_clue clue ≡ false → count_of (trail_of a clue.0) ≡ 0 → length (different_clues a) < most

-- the last record of a member with this number among some journals from the point on, where the first of them is journal `first`
abbrev pub numbered_from : ℕ → ℕ → List Entry → ℕ → ℕ → Option ℕ
numbered_from first point journals member number =
    numbered_in (first + (point - first)) (drop (point - first) journals) member number

-- a member's record that may be next: the member is known, the clue's numbers are the next ones, there is room for the clue, and
-- none of the member's records from the point on has its number
pub record IsRecordBehind (start : Option Base) (journals : List Entry) (x : Header) : Type 0 where
  pub member : x.member < count_behind start journals
  pub clue_ord : x.clue_ord ≡ ordinal_in (clues_behind start journals) x.clue
  pub clue_prev : x.clue_prev ≡ previous_in (clues_behind start journals) x.clue
  pub room : HasRoomFor real_limits.clues (clues_behind start journals) x.clue
  pub fresh : numbered_from (first_of start) (greatest_point journals) journals x.member x.a ≡ None

-- An occult that may be next: none of the journals hides its target, as far as they tell. A target that is there is a record from the point on, and
-- the link is its leaf digest. Of one in front of the base nothing more can be asked, until the purge to the base's own point
-- is there: from then on it is known to be gone. A purge to a later point alone doesn't tell that.
-- Example: behind a base at journal 2 stand the time journals 2 and 3 and a purge to 3. An occult of journal 1 may be next;
-- behind a purge to 2 it may not.
pub record IsOccultBehind (start : Option Base) (journals : List Entry) (x : Header) : Type 0 where
  pub named : x.a < first_of start → list_any (names x.a) journals ≡ false
  pub shown : first_of start ≤ x.a → is_hidden_by journals (slice_get journals (x.a - first_of start)) ≡ false
  pub front : x.a < first_of start → has_own_purge start journals ≡ false
  pub kept : first_of start ≤ x.a → greatest_point journals ≤ x.a
  pub target_is : first_of start ≤ x.a → kind_at (history [] journals) (x.a - first_of start) ≡ kind.Content
  pub leaf_is : first_of start ≤ x.a → x.link.0 ≡ leaf_at (history [] journals) (x.a - first_of start)

-- a purge that may be next: its point lies behind that of the journals, and where the journal there is known it is a time
-- journal
pub record IsPurgeBehind (start : Option Base) (journals : List Entry) (x : Header) : Type 0 where
  pub above : greatest_point journals < x.a
  pub target_is : first_of start ≤ x.a → kind_at (history [] journals) (x.a - first_of start) ≡ kind.Time

-- the records of a clue among some journals, from the point that they tell on, that none of them hides
abbrev pub shown_behind : List Entry → Digest → List Entry
shown_behind journals clue =
    filter (λ e. is_of_clue clue e && (nat_le (greatest_point journals) e.header.jsn && not (list_any (hides e) journals))) journals

-- An occult by clue that may be next: it tells how many records its clue has, of which the base has counted those in front of it.
-- That one of them is kept and shown can be seen once the purge to the base's own point is there: from then on each that is kept
-- is among the journals.
pub record IsClueOccultBehind (start : Option Base) (journals : List Entry) (x : Header) : Type 0 where
  pub count : x.a ≡ count_of (trail_of (clues_behind start journals) x.link.0)
  pub shown : has_own_purge start journals ≡ true → shown_behind journals x.link ≢ []

-- what the next journal must be by its kind
abbrev pub IsOwnBehind : Option Base → List Entry → Header → Kind → Type 0
IsOwnBehind start journals x kind.Genesis = ⊤
IsOwnBehind start journals x kind.Content = IsRecordBehind start journals x
IsOwnBehind start journals x kind.Member = x.a ≡ count_behind start journals
IsOwnBehind start journals x kind.Time = ⊤
IsOwnBehind start journals x kind.Occult = IsOccultBehind start journals x
IsOwnBehind start journals x kind.Purge = IsPurgeBehind start journals x
IsOwnBehind start journals x kind.ClueOccult = IsClueOccultBehind start journals x

-- the first journal behind a base is the time journal at its point
abbrev pub BeginsWell : Option Base → List Entry → Header → Type 0
BeginsWell None journals x = ⊤
BeginsWell (Some base) [] x = x.kind ≡ kind.Time
BeginsWell (Some base) (journal ∷ more) x = ⊤

-- a header that may be the next one behind these journals, as far as they and the base in front of them tell
pub record IsNextBehind (start : Option Base) (journals : List Entry) (x : Header) : Type 0 where
  pub layout : IsHeader x
  pub jsn : x.jsn ≡ next_number start journals
  pub below : x.jsn < real_limits.size
  pub begins : BeginsWell start journals x
  pub own : IsOwnBehind start journals x x.kind

-- journals behind these, of which each may be the next one
abbrev pub AreBehind : Option Base → List Entry → List Entry → Type 0
AreBehind start before [] = ⊤
AreBehind start before (journal ∷ more) = IsNextBehind start before journal.header × AreBehind start (before ++ journal ∷ []) more

-- The journals of a dump, one after the other, in front of a window on what is read.
use Rattle.std.specs.Prelude.{◌≡◌, ℕ, ◌+◌, ◌-◌, ◌≤◌, true, List, [], ◌++◌, length, take, Result, Ok, Err}
use Rattle.ledger_bytes.specs.Fields.{Unread, left_from}
use Rattle.ledger_bytes.specs.declared.failure.Bad.{Bad}
use Rattle.ledger_bytes.specs.declared.failure.Bad.TheVariants as bad
use Rattle.ledger_io.specs.Windows.{Seen}
use Rattle.journal_record.specs.Items.{Item, IsItem, item_at, item_text}
use Rattle.audit_dump.specs.Breaks.{place_behind}
use Rattle.audit_dump.specs.declared.walking.Break.{Break}

-- ---- places in the input

-- Where the first byte that a window holds stands in the input.
-- Example: where 100 bytes were read and the last 30 are held, it is 70.
abbrev pub place_of : Seen → ℕ
place_of w = w.total - length w.held

-- What is still to be read of an input that ends with these bytes, where they stand at a place.
-- Example: where 30 bytes stand at 70, the whole input has 100.
abbrev pub unread_from : ℕ → List ℕ → Unread
unread_from place bytes = left_from (place + length bytes) bytes

-- these bytes may follow those that a window holds: any, but none once the source told its end
abbrev pub MayFollow : Seen → List ℕ → Type 0
MayFollow w further = w.ended ≡ true → further ≡ []

-- ---- a break

-- A break, where the whole input is so long: that it ends too early is told by its length.
-- Example: `Short 10` in an input of 500 bytes is `Short 500`, and `BadFixedField 10` stays.
abbrev pub in_whole : ℕ → Bad → Bad
in_whole whole (bad.Short at) = bad.Short whole
in_whole whole (bad.Trailing at) = bad.Trailing at
in_whole whole (bad.BadKind found) = bad.BadKind found
in_whole whole (bad.BadFixedField at) = bad.BadFixedField at
in_whole whole (bad.NewerFormat found) = bad.NewerFormat found
in_whole whole bad.TooLong = bad.TooLong

-- where a field stands that breaks its rule, counted from the first byte of what is read; 0 for other breaks
abbrev pub field_place : Bad → ℕ
field_place (bad.BadFixedField at) = at
field_place other = 0

-- where the first byte stands that is left over; 0 for other breaks
abbrev pub place_left : Bad → ℕ
place_left (bad.Trailing at) = at
place_left other = 0

-- an input that ends with these bytes, at this place of it, breaks so in the journal with which they begin
abbrev pub IsBreakAt : ℕ → List ℕ → Break → Type 0
IsBreakAt start bytes broken = (item_at (unread_from start bytes) ≡ Err broken.bad) × (broken.place ≡ place_behind start broken.bad)

-- ---- the next journal

-- bytes begin with a journal of so many bytes
abbrev pub HasItem : List ℕ → ℕ → Type 0
HasItem bytes n = (n ≤ length bytes) × ((x : Item) × IsItem x × (take n bytes ≡ item_text x))

-- the last bytes of an input, at this place of it, begin with a journal of so many bytes, or with a break
abbrev pub BeginsWith : ℕ → List ℕ → Result ℕ Break → Type 0
BeginsWith start bytes (Ok n) = HasItem bytes n
BeginsWith start bytes (Err broken) = IsBreakAt start bytes broken

-- what a window holds begins with a break, whatever follows
abbrev pub BreaksNow : Seen → Break → Type 0
BreaksNow w broken = (further : List ℕ) → MayFollow w further → IsBreakAt (place_of w) (w.held ++ further) broken

-- The next journal: the window holds its bytes, so many, or it breaks.
-- Example: the first 100 bytes of a journal are held, and stand at byte 400. Once the source has ended, that is the break `Short 500`.
abbrev pub IsNextItem : Seen → Result ℕ Break → Type 0
IsNextItem w (Ok n) = HasItem w.held n
IsNextItem w (Err broken) = BreaksNow w broken

-- Reading a set of survivors from left to right, with the first break that is met.
use Rattle.std.specs.Prelude.{ℕ, zero, suc, ◌+◌, ◌-◌, ◌*◌, ◌&&◌, nat_le, Bool, if◌then◌else◌, List, [], ◌∷◌, length, drop, Option, Some, None, Result, Ok, Err, bytes_eq}
use Rattle.std.specs.Int.{w8, w64}
use Rattle.ledger_bytes.specs.declared.failure.Bad.{Bad}
use Rattle.ledger_bytes.specs.declared.failure.Bad.TheVariants.{Short, Trailing, BadKind, BadFixedField, NewerFormat, TooLong}
use Rattle.ledger_bytes.specs.Fields.{Unread, left_from, ◌>>=◌, number_at, digest_at, bytes_at, check, end_at}
use Rattle.journal_record.specs.Items.{item_at}
use Rattle.journal_record.specs.Records.{number_8}
use Rattle.survivor_set.specs.Sets.{Saved, SavedSet, magic, is_low}
use Rattle.survivor_set.specs.declared.reading.Front.{Front}

-- what is to be read of these bytes from a place on
abbrev pub from_place : ℕ → List ℕ → Unread
from_place at bytes = left_from (length bytes) (drop at bytes)

-- the fields in front of the survivors, each judged as it is met
unfoldable pub front_at : Unread → Result (Front × Unread) Bad
front_at l = do
  first ← bytes_at 8 l
  _ ← check (bytes_eq first.0 magic) 0
  id ← digest_at first.1
  point ← number_at w64 id.1
  root ← digest_at point.1
  count ← number_at w8 root.1
  _ ← check (nat_le 1 count.0 && nat_le count.0 64) 80
  Ok (record { id = id.0; point = point.0; root = root.0; count = count.0 }, count.1)

-- ---- survivors

-- The next journal's number, which stands behind its version and its kind, is there, and isn't above the last one's.
-- Example: behind journal 7 it is so of bytes that begin 1 1 0 0 0 0 0 0 0 7, and isn't of their first nine, nor behind journal 6.
abbrev pub shows_low : Option ℕ → List ℕ → Bool
shows_low last bytes = nat_le 10 (length bytes) && is_low last (number_8 2 bytes)

-- How a journal that begins at a place of the set breaks, where its number is out of order or isn't: its version and its kind come
-- in front of its number, and all else behind it. Its fields' places count from the set's first byte.
abbrev pub break_at : ℕ → Bool → Bad → Bad
break_at at low (NewerFormat found) = NewerFormat found
break_at at low (BadKind found) = BadKind found
break_at at low (BadFixedField place) = BadFixedField (at + (if low then 2 else place))
break_at at low (Short whole) = if low then BadFixedField (at + 2) else Short whole
break_at at low (Trailing place) = Trailing place
break_at at low TooLong = TooLong

-- the journal that begins at a place of the set, where its number is in order, or its break
abbrev pub in_order : {A : Type 0} → ℕ → Bool → Result A Bad → Result A Bad
in_order at low (Ok x) = if low then Err (BadFixedField (at + 2)) else Ok x
in_order at low (Err bad) = Err (break_at at low bad)

-- the survivor that begins at a place, where its number is in order: its journal, and its path behind the number of its digests
unfoldable pub saved_at : ℕ → Bool → Unread → Result (Saved × Unread) Bad
saved_at at low l = do
  item ← in_order at low (item_at l)
  count ← number_at w8 item.1
  path ← bytes_at (count.0 * 32) count.1
  Ok (record { item = item.0; path = path.0 }, path.1)

-- the next survivor, behind a journal with the last number
abbrev pub survivor_at : Option ℕ → Unread → Result (Saved × Unread) Bad
survivor_at last l = saved_at (l.whole - length l.rest) (shows_low last l.rest) l

-- so many survivors, behind a journal with the last number
abbrev pub survivors_at : ℕ → Option ℕ → Unread → Result (List Saved × Unread) Bad
survivors_at zero last l = Ok ([], l)
survivors_at (suc count) last l = do
  x ← survivor_at last l
  xs ← survivors_at count (Some x.0.item.header.jsn) x.1
  Ok (x.0 ∷ xs.0, xs.1)

-- the set with these fields in front, and these survivors
abbrev pub set_with : Front → List Saved → SavedSet
set_with front xs = record { id = front.id; point = front.point; root = front.root; survivors = xs }

-- the fields of a set, from left to right
unfoldable pub set_at : Unread → Result (SavedSet × Unread) Bad
set_at l = do
  front ← front_at l
  xs ← survivors_at front.0.count None front.1
  Ok (set_with front.0 xs.0, xs.1)

-- the set that all the bytes spell, or their first break
unfoldable pub set_of : List ℕ → Result SavedSet Bad
set_of bytes = do
  read ← set_at (left_from (length bytes) bytes)
  end_at read.0 read.1

-- the survivors of a set that was read
abbrev pub survivors_of : Result SavedSet Bad → List Saved
survivors_of (Ok s) = s.survivors
survivors_of (Err bad) = []

-- the survivors of the set that bytes spell
abbrev pub survivors_in : List ℕ → List Saved
survivors_in bytes = survivors_of (set_of bytes)

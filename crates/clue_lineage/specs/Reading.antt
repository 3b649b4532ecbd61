-- Reading a lineage from left to right, with the first break that is met.
use Rattle.std.specs.Prelude.{◌≡◌, ℕ, zero, suc, ◌+◌, Bool, ◌&&◌, ◌==◌, nat_le, List, [], ◌∷◌, length, Result, Ok, Err, All, Option, Some, None}
use Rattle.std.specs.Int.{w8, w16, w64}
use Rattle.ledger_bytes.specs.declared.digest.Digest.{Digest}
use Rattle.ledger_bytes.specs.declared.failure.Bad.{Bad}
use Rattle.ledger_bytes.specs.declared.failure.Bad.TheVariants.{Short, Trailing, BadKind, BadFixedField, NewerFormat, TooLong}
use Rattle.ledger_bytes.specs.Fields.{Unread, left_from, ◌>>=◌, number_at, digest_at, check, end_at}
use Rattle.journal_record.specs.Reading.{header_at}
use Rattle.proof_codec.specs.Reading.{digests_at, header_break}
use Rattle.clue_lineage.specs.Lineages.{LineageItem, Lineage, IsItem, items_text}

-- the next journal, which stands at a place: a header that breaks is told by that place, and by the input's length where it is
-- cut off
unfoldable pub item_at : ℕ → Unread → Result (LineageItem × Unread) Bad
item_at at l = do
  header ← header_break at (header_at l)
  path ← digests_at header.1
  Ok (record { header = header.0; path = path.0 }, path.1)

-- the place behind a journal
abbrev pub behind : ℕ → LineageItem → ℕ
behind at item = at + 175 + length item.path

-- the next n journals, of which the first stands at a place
abbrev pub items_at : ℕ → ℕ → Unread → Result (List LineageItem × Unread) Bad
items_at zero at l = Ok ([], l)
items_at (suc n) at l = do
  item ← item_at at l
  more ← items_at n (behind at item.0) item.1
  Ok (item.0 ∷ more.0, more.1)

-- whether a lineage may have so many journals
abbrev pub count_ok : ℕ → Bool
count_ok count = nat_le 1 count && nat_le count 1024

-- the fields in front of the journals: the ledger's size, the clue, and how many journals there are
unfoldable pub front_at : Unread → Result ((ℕ × Digest × ℕ) × Unread) Bad
front_at l = do
  version ← number_at w8 l
  _ ← check (version.0 == 1) 0
  size ← number_at w64 version.1
  clue ← digest_at size.1
  count ← number_at w16 clue.1
  _ ← check (count_ok count.0) 41
  Ok ((size.0, clue.0, count.0), count.1)

-- the fields of a lineage, from left to right
unfoldable pub lineage_at : Unread → Result (Lineage × Unread) Bad
lineage_at l = do
  front ← front_at l
  items ← items_at front.0.2 43 front.1
  Ok (record { size = front.0.0; clue = front.0.1; items = items.0 }, items.1)

-- the lineage that the bytes spell, all of them, or their first break
unfoldable pub lineage_of : List ℕ → Result Lineage Bad
lineage_of bytes = do
  read ← lineage_at (left_from (length bytes) bytes)
  end_at read.0 read.1

-- the place at which bytes that spell no lineage break
abbrev pub break_of : Bad → ℕ
break_of (Short at) = at
break_of (Trailing at) = at
break_of (BadFixedField at) = at
-- nothing in a lineage breaks so
break_of (BadKind found) = 0
break_of (NewerFormat found) = 0
break_of TooLong = 0

-- ---- journals that were read and are gone over again

-- bytes spell so many journals
pub record HasItems (n : ℕ) (bytes : List ℕ) : Type 0 where
  pub items : List LineageItem
  pub count : length items ≡ n
  pub fit : All IsItem items
  pub text : bytes ≡ items_text items

-- the journals that were read, and none where nothing was
abbrev pub read_items : Result (List LineageItem × Unread) Bad → List LineageItem
read_items (Ok read) = read.0
read_items (Err bad) = []

-- the journals that the bytes spell, where they spell so many
unfoldable pub items_in : ℕ → List ℕ → List LineageItem
items_in n bytes = read_items (items_at n 0 (left_from (length bytes) bytes))

-- a call on journals gives the first and leaves the others, or there are none
abbrev pub TakesFirst : List LineageItem → List LineageItem → Option LineageItem → Type 0
TakesFirst before after (Some item) = before ≡ item ∷ after
TakesFirst before after None = before ≡ []

-- a call on a reader passed over so many journals that were read, or met their first break
abbrev pub Passes : {A : Type 0} → Result A Bad → Unread → Result (List LineageItem × Unread) Bad → Type 0
Passes (Ok done) after read = (items : List LineageItem) × (read ≡ Ok (items, after))
Passes (Err bad) after read = read ≡ Err bad

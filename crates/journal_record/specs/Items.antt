-- A journal as it stands in a dump: its header, its content or that it was erased, and the bytes that show who placed it.
use Rattle.std.specs.Prelude.{◌≡◌, ℕ, ◌+◌, ◌≤◌, ◌==◌, ◌&&◌, ◌||◌, nat_le, Bool, true, false, if◌then◌else◌, List, [], ◌∷◌, ◌++◌, length, Option, Some, None, Result, Ok, Err, ⊤}
use Rattle.std.specs.Borrow.{Bor}
use Rattle.journal_record.specs.declared.record.Body.{Body}
use Rattle.journal_record.specs.declared.record.Body.TheVariants as body
use Rattle.std.specs.Int.{w8, w32, to_be_bytes}
use Rattle.ledger_bytes.specs.declared.failure.Bad.{Bad}
use Rattle.ledger_bytes.specs.declared.limits.TheConstants.{CONTENT_LIMIT}
use Rattle.ledger_bytes.specs.Fields.{Unread, left_from, ◌>>=◌, bytes_at, number_at, check, end_at}
use Rattle.journal_record.specs.declared.approval.TheConstants.{WHO_LIMIT}
use Rattle.journal_record.specs.declared.header.Header.{Header}
use Rattle.journal_record.specs.declared.header.Kind.{Kind}
use Rattle.journal_record.specs.declared.header.Kind.TheVariants as kind
use Rattle.journal_record.specs.Header.{spelling, HasWidths}
use Rattle.journal_record.specs.Reading.{header_at}
use Rattle.journal_record.specs.Rules.{IsHeader}

-- a journal of a dump; its body is its content, and None where that was erased
pub record Item : Type 0 where
  pub header : Header
  pub body : Option (List ℕ)
  pub who : List ℕ

-- ---- its bytes

-- A content behind its state: 0 where it is there, 1 where it was erased.
-- Example: the content 7 9 is 0 7 9, an empty one is 0, and an erased one is 1.
abbrev pub body_text : Option (List ℕ) → List ℕ
body_text (Some content) = 0 ∷ content
body_text None = 1 ∷ []

-- A who behind its length.
-- Example: the who 7 9 is 0 0 0 2 7 9.
abbrev pub who_text : List ℕ → List ℕ
who_text who = to_be_bytes w32 (length who) ++ who

-- The bytes of a journal in a dump: its header, its content and its who.
-- Example: the header H names a content of 2 bytes. With the content 7 9 and an empty who the bytes are H 0 7 9 0 0 0 0.
-- Where the content was erased they are H 1 0 0 0 0, and H still names 2 bytes.
unfoldable pub item_text : Item → List ℕ
item_text x = spelling x.header ++ body_text x.body ++ who_text x.who

-- ---- its rules

-- whether the content of a journal of this kind may be erased
abbrev pub may_be_erased : Kind → Bool
may_be_erased kind.Content = true
may_be_erased other = false

-- a content that is there has the length that the header names, and the kind allows that one was erased
abbrev pub FitsHeader : Header → Option (List ℕ) → Type 0
FitsHeader h (Some content) = length content ≡ h.content_len
FitsHeader h None = may_be_erased h.kind ≡ true

-- a journal that can stand in a dump: its header keeps its rules, its content fits the header, and its who isn't too long
pub record IsItem (x : Item) : Type 0 where
  pub rules : IsHeader x.header
  pub widths : HasWidths x.header
  pub body : FitsHeader x.header x.body
  pub who : length x.who ≤ WHO_LIMIT

-- ---- reading it

-- what the state in front of a content may be
abbrev pub state_ok : Header → ℕ → Bool
state_ok h state = state == 0 || (state == 1 && may_be_erased h.kind)

-- what stands behind a state: the content, or nothing of it
abbrev pub content_at : Header → ℕ → Unread → Result (Option (List ℕ) × Unread) Bad
content_at h state l =
    if state == 0 then (do
      content ← bytes_at h.content_len l
      Ok (Some content.0, content.1))
    else Ok (None, l)

-- the content behind its state
unfoldable pub body_at : Header → Unread → Result (Option (List ℕ) × Unread) Bad
body_at h l = do
  state ← number_at w8 l
  _ ← check (state_ok h state.0) 174
  content_at h state.0 state.1

-- The place of the length of the who, counted from the journal's first byte.
-- Example: behind a content of 2 bytes it is 177, and where the content was erased 175.
abbrev pub who_place : Header → Option (List ℕ) → ℕ
who_place h (Some content) = 175 + h.content_len
who_place h None = 175

-- the who behind its length, which stands at a place
unfoldable pub who_at : ℕ → Unread → Result (List ℕ × Unread) Bad
who_at at l = do
  len ← number_at w32 l
  _ ← check (nat_le len.0 WHO_LIMIT) at
  bytes_at len.0 len.1

-- the next journal of a dump, with the first break that is met; places count from the journal's first byte
unfoldable pub item_at : Unread → Result (Item × Unread) Bad
item_at l = do
  header ← header_at l
  body ← body_at header.0 header.1
  who ← who_at (who_place header.0 body.0) body.1
  Ok (record { header = header.0; body = body.0; who = who.0 }, who.1)

-- the journal that all the bytes spell, or their first break
unfoldable pub item_of : List ℕ → Result Item Bad
item_of bytes = do
  read ← item_at (left_from (length bytes) bytes)
  end_at read.0 read.1

-- ---- what the program's values are seen as

-- a content as it is seen
abbrev pub body_seen : Body → Option (List ℕ)
body_seen (body.Whole content) = Some content.now
body_seen body.Erased = None

-- a content that was read, as it is seen
abbrev pub body_result : Result Body Bad → Result (Option (List ℕ)) Bad
body_result (Ok b) = Ok (body_seen b)
body_result (Err bad) = Err bad

-- lent bytes that were read, as they are seen
abbrev pub who_result : Result (Bor (List ℕ)) Bad → Result (List ℕ) Bad
who_result (Ok s) = Ok s.now
who_result (Err bad) = Err bad

-- ---- reading from the front of what is to come

-- The same answer where the whole input is so long and more bytes stand behind those that are left.
-- Example: from 5 6 a reading of one byte answers 5 and leaves 6. With 7 8 as the bytes more it answers 5 and leaves 6 7 8.
abbrev pub with_more : {A : Type 0} → ℕ → List ℕ → Result (A × Unread) Bad → Result (A × Unread) Bad
with_more whole more (Ok x) = Ok (x.0, left_from whole (x.1.rest ++ more))
with_more whole more (Err bad) = Err bad

-- a reading that failed, or took no more than so many bytes
abbrev pub TookFew : {A : Type 0} → ℕ → Unread → Result (A × Unread) Bad → Type 0
TookFew most l (Ok x) = length l.rest ≤ length x.1.rest + most
TookFew most l (Err bad) = ⊤

-- A reading looks at its next bytes alone, at most so many: where as many are there, what stands behind them and how long
-- the whole input is make no difference.
pub record IsLocal {A : Type 0} (most : ℕ) (read : Unread → Result (A × Unread) Bad) : Type 0 where
  pub few : (l : Unread) → TookFew most l (read l)
  pub same : (whole longer : ℕ) (rest more : List ℕ) → most ≤ length rest
      → read (left_from longer (rest ++ more)) ≡ with_more longer more (read (left_from whole rest))

-- the most bytes that a journal of a dump has: its header, the state and the longest content, and the longest who behind
-- its length
abbrev pub most_bytes : ℕ
most_bytes = 174 + (1 + CONTENT_LIMIT) + (4 + WHO_LIMIT)

-- The records of a block's body as they are read, by the numbers in them.
use Rattle.std.specs.Prelude.{◌≡◌, ℕ, zero, suc, ◌+◌, ◌==◌, ◌<◌, ◌≤◌, ◌||◌, not, ◌&&◌, Bool, nat_lt, if◌then◌else◌, ⊤, List, [], ◌∷◌, ◌++◌, length, take, drop, Err}
use Rattle.std.specs.Int.{from_be_bytes, w32, w64}
use Rattle.ledger_bytes.specs.declared.failure.Bad.{Bad}
use Rattle.journal_record.specs.declared.approval.TheConstants.{WHO_LIMIT}
use Rattle.journal_record.specs.Blocks.{body_of}
use Rattle.journal_record.specs.Entry.{Entry}
use Rattle.journal_record.specs.Header.{HasWidths}
use Rattle.journal_record.specs.Reading.{header_of}
use Rattle.journal_record.specs.Rules.{IsHeader}

-- the number of four bytes at a place
abbrev pub number_4 : ℕ → List ℕ → ℕ
number_4 at bytes = from_be_bytes w32 (take 4 (drop at bytes))

-- the number of eight bytes at a place
abbrev pub number_8 : ℕ → List ℕ → ℕ
number_8 at bytes = from_be_bytes w64 (take 8 (drop at bytes))

-- what the next record takes by its own numbers: its header, four bytes, content and approvals
abbrev pub next_len : List ℕ → ℕ
next_len body = if nat_lt (length body) 178 then 178 else 178 + number_4 106 body + number_4 174 body

-- the next record doesn't end in the body, or its approvals are too long
abbrev pub breaks : List ℕ → Bool
breaks body = nat_lt (length body) (next_len body) || nat_lt WHO_LIMIT (number_4 174 body)

-- the sum of so many records: it ends with the first that breaks
abbrev pub sum_of : ℕ → List ℕ → ℕ
sum_of zero body = 0
sum_of (suc count) body = if breaks body then next_len body else next_len body + sum_of count (drop (next_len body) body)

-- so many records, none of which breaks, fill the body
abbrev pub fills : ℕ → List ℕ → Bool
fills zero body = length body == 0
fills (suc count) body = not (breaks body) && fills count (drop (next_len body) body)

-- a journal that can be read from a block, whichever its number
pub record IsReadable (e : Entry) : Type 0 where
  pub rules : IsHeader e.header
  pub widths : HasWidths e.header
  pub content : length e.content ≡ e.header.content_len
  pub who : length e.who ≤ WHO_LIMIT

-- journals of which each can be read from a block
abbrev pub AreReadable : List Entry → Type 0
AreReadable [] = ⊤
AreReadable (e ∷ es) = IsReadable e × AreReadable es

-- the bytes of a block's body are those of these journals, which can be read and are so many
pub record IsBody (count : ℕ) (body : List ℕ) (es : List Entry) : Type 0 where
  pub number : length es ≡ count
  pub readable : AreReadable es
  pub is : body ≡ body_of es

-- the first header of a body that doesn't decode is that of the n-th journal
pub record BreaksAt (count : ℕ) (body : List ℕ) (n : ℕ) : Type 0 where
  pub es : List Entry
  pub readable : AreReadable es
  pub rest : List ℕ
  pub is : body ≡ body_of es ++ rest
  pub number : length es ≡ n
  pub fewer : n < count
  pub bad : Bad
  pub undecoded : header_of (take 174 rest) ≡ Err bad

-- The rule of clues over a list of headers, and the records of a clue between two ordinals.
use Rattle.std.specs.Prelude.{◌≡◌, ℕ, ◌+◌, ◌<◌, nat_le, Bool, false, ◌&&◌, List, [], length, map, take, get_or, filter, Result, Ok, Err}
use Rattle.std.specs.List.{AllByRecursion}
use Rattle.ledger_bytes.specs.declared.digest.Digest.{Digest}
use Rattle.ledger_bytes.specs.declared.failure.Bad.{Bad}
use Rattle.journal_record.specs.Entry.{Entry}
use Rattle.journal_record.specs.Header as headers
use Rattle.journal_record.specs.Reading.{header_of}
use Rattle.journal_record.specs.Rules.{is_no_clue}
use Rattle.journal_record.specs.declared.header.Header.{Header}
use Rattle.journal_record.specs.declared.header.Kind.TheVariants.{Content}
use Rattle.ledger_model.specs.Clues.{last_of}
use Rattle.clue_lineage.specs.Lineages.{LineageItem, Lineage}
use Rattle.clue_lineage.specs.Accepting.{is_record_of}

-- whether what bytes are read as is a record's header with a clue
abbrev pub reads_record : Digest → Result Header Bad → Bool
reads_record clue (Ok x) = is_record_of clue x
reads_record clue (Err bad) = false

-- whether bytes are the header of a record with a clue
abbrev pub is_of : Digest → List ℕ → Bool
is_of clue bytes = reads_record clue (header_of bytes)

-- the ordinal of what bytes are read as, and 0 where they are no header
abbrev pub read_ordinal : Result Header Bad → ℕ
read_ordinal (Ok x) = x.clue_ord
read_ordinal (Err bad) = 0

-- the ordinal that a header's bytes tell
abbrev pub ordinal_of : List ℕ → ℕ
ordinal_of bytes = read_ordinal (header_of bytes)

-- the number of what bytes are read as, and 0 where they are no header
abbrev pub read_number : Result Header Bad → ℕ
read_number (Ok x) = x.jsn
read_number (Err bad) = 0

-- the number that a header's bytes tell
abbrev pub number_of : List ℕ → ℕ
number_of bytes = read_number (header_of bytes)

-- those of some headers that are records with a clue, in order
abbrev pub records_in : Digest → List (List ℕ) → List (List ℕ)
records_in clue list = filter (is_of clue) list

-- a header is that of a clue's next record behind these: its ordinal is one more than how many they are, and it names the number
-- of the last of them, 0 where there are none
pub record IsNextIn (before : List (List ℕ)) (x : Header) : Type 0 where
  pub ordinal : x.clue_ord ≡ length before + 1
  pub previous : x.clue_prev ≡ last_of (map number_of before)

-- Each record with a clue in a list of headers is the clue's next behind those that stand in front of it.
-- Example: of journals 11, 12 and 13 the first and the last have a clue, and no other has it. The rule holds where 11 has
-- ordinal 1 and names 0, and 13 has ordinal 2 and names 11.
abbrev pub KeepsClueRule : List (List ℕ) → Type 0
KeepsClueRule list =
    (n : ℕ) (x : Header) → n < length list → header_of (get_or list n []) ≡ Ok x → x.kind ≡ Content → is_no_clue x.clue ≡ false
    → IsNextIn (records_in x.clue (take n list)) x

-- whether bytes are the header of a record with a clue whose ordinal is within these two
abbrev pub is_between : Digest → ℕ → ℕ → List ℕ → Bool
is_between clue first last bytes = is_of clue bytes && (nat_le first (ordinal_of bytes) && nat_le (ordinal_of bytes) last)

-- all records with a clue in a list of headers whose ordinals are within these two, in order
abbrev pub records_between : Digest → ℕ → ℕ → List (List ℕ) → List (List ℕ)
records_between clue first last list = filter (is_between clue first last) list

-- the headers of some journals
abbrev pub headers_of : List LineageItem → List (List ℕ)
headers_of items = map (λ item. headers.spelling item.header) items

-- the headers of what was read as a lineage
abbrev pub headers_read : Result Lineage Bad → List (List ℕ)
headers_read (Ok l) = headers_of l.items
headers_read (Err bad) = []

-- the numbers of each header fit their fields, and each digest has 32 bytes, as in a header of the program
abbrev pub AreWide : List Entry → Type 0
AreWide journals = AllByRecursion (λ e. headers.HasWidths e.header) journals

-- A lineage: journals of one clue with their paths, and the bytes that spell it.
use Rattle.std.specs.Prelude.{◌≡◌, ℕ, ◌<◌, ◌≤◌, ◌^◌, List, ◌∷◌, ◌++◌, length, All}
use Rattle.std.specs.Int.{w16, w64, to_be_bytes}
use Rattle.std.specs.List.{flat_map}
use Rattle.ledger_bytes.specs.declared.digest.Digest.{Digest}
use Rattle.journal_record.specs.declared.header.Header.{Header}
use Rattle.journal_record.specs.Header as headers
use Rattle.journal_record.specs.Rules.{IsHeader}
use Rattle.proof_codec.specs.Proofs.{with_count, IsDigests}

-- a journal of a lineage: its header, and its path, whose digests stand one after the other
pub record LineageItem : Type 0 where
  pub header : Header
  pub path : List ℕ

-- a lineage: the size of the ledger under whose root the paths lead, the clue, and its journals
pub record Lineage : Type 0 where
  pub size : ℕ
  pub clue : Digest
  pub items : List LineageItem

-- the bytes of a journal: its header, and its path behind the number of its digests
unfoldable pub item_text : LineageItem → List ℕ
item_text item = headers.spelling item.header ++ with_count item.path

-- the bytes of some journals, one after the other
abbrev pub items_text : List LineageItem → List ℕ
items_text items = flat_map item_text items

-- the bytes in front of the journals: version, size, clue, and how many journals there are
unfoldable pub front_text : ℕ → Digest → ℕ → List ℕ
front_text size clue count = 1 ∷ (to_be_bytes w64 size ++ (clue.0 ++ to_be_bytes w16 count))

-- The bytes of a lineage.
-- Example: a lineage of one journal with a path of two digests has 43 bytes, 174 of the header, 1 and 64: 282 in all.
unfoldable pub spelling : Lineage → List ℕ
spelling l = front_text l.size l.clue (length l.items) ++ items_text l.items

-- a journal keeps the rules of a header, and its path is at most 255 whole digests
pub record IsItem (item : LineageItem) : Type 0 where
  pub rules : IsHeader item.header
  pub widths : headers.HasWidths item.header
  pub path : IsDigests item.path

-- a lineage has 1 to 1,024 journals, and its parts fit their fields
pub record IsLineage (l : Lineage) : Type 0 where
  pub size : l.size < 2 ^ 64
  pub clue : length l.clue.0 ≡ 32
  pub some : 1 ≤ length l.items
  pub most : length l.items ≤ 1024
  pub items : All IsItem l.items

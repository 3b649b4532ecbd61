-- A dump: what a ledger shows of itself, and of its notary's list, to who audits it whole.
use Rattle.std.specs.Prelude.{◌≡◌, ℕ, ◌^◌, ◌<◌, List, [], ◌∷◌, ◌++◌, length, map, All, Option, Some, None, IfSome}
use Rattle.std.specs.Int.{w64, to_be_bytes}
use Rattle.std.specs.List.{flat_map, concat}
use Rattle.ledger_bytes.specs.declared.digest.Digest.{Digest}
use Rattle.journal_record.specs.Header.{spelling}
use Rattle.journal_record.specs.Items.{Item, IsItem, item_text}
use Rattle.merkle_tree.specs.declared.head.Head.{Head}
pub use Rattle.ledger_model.specs.Behind.{first_of}
use Rattle.pseudo_genesis.specs.Bases.{IsBase, HasWidths, IsWide, base_spelling}
use Rattle.pseudo_genesis.specs.declared.base.Base.{Base}
use Rattle.tree_model.specs.Tree.{Hash, leaf}
use Rattle.tree_model.specs.RootFrom.{root_from}

-- What a dump holds.
-- Example: the dump of a ledger with three journals, of which none was given up, has no base and three items, and its head has
-- the size 3. Once a purge to journal 2 is the fourth, the dump has the base at 2, the items 2 and 3, and the size 4.
pub record Dump : Type 0 where
  -- the ledger's id
  pub id : Digest
  -- what stands for the journals in front of the first one that is there, where some were given up
  pub base : Option Base
  -- the journals that are there, in order
  pub items : List Item
  -- the ledger's size and root
  pub head : Head
  -- all entries of the notary, and the root over them
  pub entries : List (List ℕ)
  pub notary_root : Digest

-- ---- rules

-- an entry of a notary has 72 bytes
abbrev pub IsNotaryEntry : List ℕ → Type 0
IsNotaryEntry entry = length entry ≡ 72

-- a dump that can be written and read: its parts keep their rules, its numbers fit their fields, and its digests have 32 bytes
pub record IsDump (dump : Dump) : Type 0 where
  pub id : IsWide dump.id
  pub base : IfSome dump.base (λ base. IsBase base × HasWidths base)
  pub items : All IsItem dump.items
  pub item_count : length dump.items < 2 ^ 64
  pub size : dump.head.size < 2 ^ 64
  pub root : IsWide dump.head.root
  pub entries : All IsNotaryEntry dump.entries
  pub entry_count : length dump.entries < 2 ^ 64
  pub notary_root : IsWide dump.notary_root

-- ---- bytes

-- `LDGDUMP1`, with which each dump begins
abbrev pub magic : List ℕ
magic = 76 ∷ 68 ∷ 71 ∷ 68 ∷ 85 ∷ 77 ∷ 80 ∷ 49 ∷ []

-- a number in 8 bytes
abbrev pub number_text : ℕ → List ℕ
number_text n = to_be_bytes w64 n

-- the bytes of a base, and none where there is none
abbrev pub base_text : Option Base → List ℕ
base_text None = []
base_text (Some base) = base_spelling base

-- The bytes of a dump: its parts one after the other. Behind the id stands the length of the base, in front of the journals and of
-- the entries their number.
unfoldable pub dump_text : Dump → List ℕ
dump_text dump =
    magic
    ++ (dump.id.0
    ++ (number_text (length (base_text dump.base)) ++ (base_text dump.base
    ++ (number_text (length dump.items) ++ (flat_map item_text dump.items
    ++ (number_text dump.head.size ++ (dump.head.root.0
    ++ (number_text (length dump.entries) ++ (concat dump.entries
    ++ dump.notary_root.0)))))))))

-- ---- the tree that it tells

-- the peaks over the journals in front of it
abbrev pub peaks_of : Option Base → List (List ℕ)
peaks_of None = []
peaks_of (Some base) = map (λ peak. peak.0) base.peaks

-- the leaves of the journals that are there: their spelled headers
abbrev pub leaves_of : Dump → List (List ℕ)
leaves_of dump = map (λ item. spelling item.header) dump.items

-- the root over all journals, those that are there and those that the base stands for
abbrev pub root_of : Hash → Dump → List ℕ
root_of hash dump = root_from hash (peaks_of dump.base) (first_of dump.base) (map (leaf hash) (leaves_of dump))

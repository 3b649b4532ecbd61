-- Sets of survivors: what they hold, their rules, and their bytes.
use Rattle.std.specs.Prelude.{◌≡◌, ℕ, ◌*◌, ◌/◌, ◌%◌, ◌<◌, ◌≤◌, ◌^◌, nat_le, Bool, false, List, [], ◌∷◌, ◌++◌, length, Option, Some, None, ⊤}
use Rattle.std.specs.List.{flat_map}
use Rattle.std.specs.Int.{w64, to_be_bytes}
use Rattle.ledger_bytes.specs.declared.digest.Digest.{Digest}
use Rattle.journal_record.specs.Items.{Item, IsItem, item_text}

-- a journal that was kept, and the digests of its path under the root over the journals in front of the set's point, one after
-- the other
pub record Saved : Type 0 where
  pub item : Item
  pub path : List ℕ

-- the journals that were kept of the ledger with this id, and the root over its journals in front of a point
pub record SavedSet : Type 0 where
  pub id : Digest
  pub point : ℕ
  pub root : Digest
  pub survivors : List Saved

-- ---- its bytes

-- the bytes with which each set begins: ASCII LDGSURV1
abbrev pub magic : List ℕ
magic = 76 ∷ 68 ∷ 71 ∷ 83 ∷ 85 ∷ 82 ∷ 86 ∷ 49 ∷ []

-- A survivor's bytes: its journal as a dump has it, and its path behind the number of its digests.
-- Example: the journal J with a path of the digests D and E is J 2 D E, and with an empty path J 0.
unfoldable pub saved_text : Saved → List ℕ
saved_text x = item_text x.item ++ (length x.path / 32 ∷ x.path)

-- the bytes of some survivors, one after the other
abbrev pub survivors_text : List Saved → List ℕ
survivors_text xs = flat_map saved_text xs

-- the fields in front of the survivors, of which there are so many
unfoldable pub front_text : Digest → ℕ → Digest → ℕ → List ℕ
front_text id point root count = magic ++ (id.0 ++ (to_be_bytes w64 point ++ (root.0 ++ (count ∷ []))))

-- a set's bytes
unfoldable pub set_text : SavedSet → List ℕ
set_text s = front_text s.id s.point s.root (length s.survivors) ++ survivors_text s.survivors

-- ---- its rules

-- a journal's number isn't above the last one's, where there is a last one
abbrev pub is_low : Option ℕ → ℕ → Bool
is_low None n = false
is_low (Some last) n = nat_le n last

-- a survivor that can stand in a set: its journal keeps the rules of a dump's, and its path has whole digests, at most 255
pub record IsSaved (x : Saved) : Type 0 where
  pub item : IsItem x.item
  pub whole : length x.path % 32 ≡ 0
  pub few : length x.path ≤ 32 * 255

-- survivors in ascending order behind a journal with the last number, each of which can stand in a set
abbrev pub AreSaved : Option ℕ → List Saved → Type 0
AreSaved last [] = ⊤
AreSaved last (x ∷ xs) = IsSaved x × (is_low last x.item.header.jsn ≡ false) × AreSaved (Some x.item.header.jsn) xs

-- a set that keeps every rule: it has 1 to 64 survivors in ascending order, and its fields have their widths
pub record IsSet (s : SavedSet) : Type 0 where
  pub id : length s.id.0 ≡ 32
  pub point : s.point < 2 ^ 64
  pub root : length s.root.0 ≡ 32
  pub some : 1 ≤ length s.survivors
  pub few : length s.survivors ≤ 64
  pub are : AreSaved None s.survivors

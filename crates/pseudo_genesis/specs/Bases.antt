-- A base's rules and its one spelling.
use Rattle.std.specs.Prelude.{◌≡◌, ℕ, ◌<◌, ◌^◌, ◌==◌, ◌&&◌, Bool, List, [], ◌∷◌, ◌++◌, length, All, IsTrue, nat_lt, nat_le, count_ones, ⊤}
use Rattle.std.specs.Cmp.Lexicographic.{slice_cmp}
use Rattle.std.specs.Int.{w16, w32, w64, to_be_bytes}
use Rattle.std.specs.List.{flat_map}
use Rattle.std.specs.Ordering.{nat_cmp, is_lt}
use Rattle.ledger_bytes.specs.Digests.{zero_digest}
use Rattle.ledger_bytes.specs.declared.digest.Digest.{Digest}
use Rattle.ledger_bytes.specs.declared.limits.TheConstants.{MEMBER_LIMIT}
use Rattle.clue_index.specs.declared.state.ClueState.{ClueState}
use Rattle.pseudo_genesis.specs.declared.base.Base.{Base}
use Rattle.pseudo_genesis.specs.declared.base.TheConstants.{POINT_LIMIT, CLUE_LIMIT}

-- ---- rules

-- a base of this layout has version 1
abbrev pub version_ok : ℕ → Bool
version_ok version = version == 1

-- what the point may be: at least journal 0 is given up, and behind the point there is room for a journal
abbrev pub point_ok : ℕ → Bool
point_ok point = nat_le 1 point && nat_le point POINT_LIMIT

-- how many blocks may be given up: at least one, and each had a journal
abbrev pub blocks_ok : ℕ → ℕ → Bool
blocks_ok point blocks = nat_le 1 blocks && nat_le blocks point

-- how many members there may be: the operator and the regulator are there, and no more than 256
abbrev pub members_ok : ℕ → Bool
members_ok count = nat_le 2 count && nat_le count MEMBER_LIMIT

-- no more clues than a ledger may have
abbrev pub clues_ok : ℕ → Bool
clues_ok count = nat_le count CLUE_LIMIT

-- a clue stands behind another by its bytes
abbrev pub is_behind : Digest → Digest → Bool
is_behind before clue = is_lt (slice_cmp nat_cmp before.0 clue.0)

-- a count or a number of journals of a clue is at least 1, since journal 0 has none, and below the point
abbrev pub is_inside : ℕ → ℕ → Bool
is_inside point n = nat_le 1 n && nat_lt n point

-- the state of a clue that stands behind another, with numbers below the point
pub record IsState (point : ℕ) (before : Digest) (s : ClueState) : Type 0 where
  pub clue : IsTrue (is_behind before s.clue)
  pub count : IsTrue (is_inside point s.count)
  pub last : IsTrue (is_inside point s.last)

-- clues that ascend by their bytes from another on, none twice
abbrev pub AreStates : ℕ → Digest → List ClueState → Type 0
AreStates point before [] = ⊤
AreStates point before (s ∷ states) = IsState point before s × AreStates point s.clue states

-- a base that keeps every rule; clues stand behind 32 zero bytes, so that none is zero
pub record IsBase (b : Base) : Type 0 where
  pub point : IsTrue (point_ok b.point)
  pub blocks : IsTrue (blocks_ok b.point b.blocks)
  pub peaks : length b.peaks ≡ count_ones b.point
  pub members : IsTrue (members_ok (length b.keys))
  pub clue_count : IsTrue (clues_ok (length b.clues))
  pub clues : AreStates b.point zero_digest b.clues

-- ---- bytes

-- the bytes of digests, one after the other
abbrev pub digests_text : List Digest → List ℕ
digests_text digests = flat_map (λ d. d.0) digests

-- the bytes of a clue's state: clue, count and last number
abbrev pub state_text : ClueState → List ℕ
state_text s = s.clue.0 ++ (to_be_bytes w32 s.count ++ to_be_bytes w64 s.last)

-- the bytes of clues' states, one after the other
abbrev pub states_text : List ClueState → List ℕ
states_text states = flat_map state_text states

-- the bytes in front of the lists: version, id, point and how many blocks
unfoldable pub front_text : Digest → ℕ → ℕ → List ℕ
front_text id point blocks = 1 ∷ (id.0 ++ (to_be_bytes w64 point ++ to_be_bytes w64 blocks))

-- the bytes of the members' keys, behind their count
unfoldable pub keys_text : List Digest → List ℕ
keys_text keys = to_be_bytes w16 (length keys) ++ digests_text keys

-- the bytes of the clues' states, behind their count
unfoldable pub clues_text : List ClueState → List ℕ
clues_text states = to_be_bytes w32 (length states) ++ states_text states

-- the bytes of a base: its fields one after the other
unfoldable pub base_spelling : Base → List ℕ
base_spelling b = front_text b.id b.point b.blocks ++ (digests_text b.peaks ++ (keys_text b.keys ++ clues_text b.clues))

-- ---- what a base has by its type

-- a digest has 32 bytes
abbrev pub IsWide : Digest → Type 0
IsWide d = length d.0 ≡ 32

-- the numbers of a clue's state fit their fields, and its clue has 32 bytes
pub record HasStateWidths (s : ClueState) : Type 0 where
  pub clue : IsWide s.clue
  pub count : s.count < 2 ^ 32
  pub last : s.last < 2 ^ 64

-- the numbers of a base fit their fields, and its digests have 32 bytes
pub record HasWidths (b : Base) : Type 0 where
  pub id : IsWide b.id
  pub point : b.point < 2 ^ 64
  pub blocks : b.blocks < 2 ^ 64
  pub peaks : All IsWide b.peaks
  pub keys : All IsWide b.keys
  pub clues : All HasStateWidths b.clues

-- how many keys and clues a base has fits the fields for that
pub record HasCounts (b : Base) : Type 0 where
  pub keys : length b.keys < 2 ^ 16
  pub clues : length b.clues < 2 ^ 32

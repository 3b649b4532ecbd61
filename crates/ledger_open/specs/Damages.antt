-- When a file is read no further, and which damage that is.
use Rattle.std.specs.Prelude.{◌≡◌, ◌≢◌, ◌⊎◌, ℕ, ◌+◌, ◌<◌, List, [], ◌∷◌, ◌++◌, length, take, drop, get_or, Option, Some, None}
use Rattle.block_file.specs.Blocks.{AreBlock, IsOpenBlock, IsBlockErr}
use Rattle.block_file.specs.File.{IsShutAt, open_blocks, tail_of}
use Rattle.block_file.specs.Head.{IsBaseErr}
use Rattle.block_file.specs.declared.failure.Damage.{Damage}
use Rattle.block_file.specs.declared.failure.Damage.TheVariants.{Magic, BaseForm, Base, Length, Entry as Entries, Root, Content}
use Rattle.block_file.specs.declared.failure.FileErr.TheVariants.{Damaged}
use Rattle.journal_record.specs.Blocks.{leaves_of, AreBlocks, written_blocks}
use Rattle.journal_record.specs.Entry.{Entry, content_digest_of}
use Rattle.ledger_model.specs.Behind.{next_number, IsNextBehind, AreBehind}
use Rattle.ledger_model.specs.History.{journals_of}
use Rattle.ledger_model.specs.Lawful.{AllGather}
use Rattle.pseudo_genesis.specs.declared.base.Base.{Base as BaseRecord}
use Rattle.ledger_open.specs.Heads.{Edition, IsFront}
use Rattle.ledger_open.specs.Standing.{Floor, ground, floor_from}
use Rattle.ledger_open.specs.Starts.{AreLegal, HasBase, HasDigest, HasOwnPurge, IsStart, IsBadForm, base_in, blocks_before}

-- a file begins with a head and these blocks, from this floor on, and the next gate is at this place
pub record Begun (floor : Floor) (file : List ℕ) (blocks : List (List Entry)) (at : ℕ) : Type 0 where
  pub edition : Edition
  pub front : List ℕ
  pub head : IsFront edition floor.base front
  pub lawful : AreBlocks floor.first blocks
  pub rest : List ℕ
  pub is : file ≡ (front ++ open_blocks (written_blocks floor.root [] blocks)) ++ rest
  pub place : tail_of front (written_blocks floor.root [] blocks) ≡ at

-- A file was read to the gate at this place: it begins with this base, or with none, and these blocks behind it, which may
-- stand there; or there are no blocks yet.
pub record IsReadTo (file : List ℕ) (start : Option BaseRecord) (blocks : List (List Entry)) (at : ℕ) : Type 0 where
  pub begins : IsStart file start
  pub begun : Begun (floor_from start) file blocks at
  pub legal : blocks ≢ [] → AreLegal start blocks

-- behind the blocks that were read of a file a block of these journals stands at this place, and names this root
pub record IsNextHere (file : List ℕ) (start : Option BaseRecord) (blocks : List (List Entry)) (at : ℕ) (root : List ℕ) (es : List Entry) : Type 0 where
  pub read : IsReadTo file start blocks at
  pub are : AreBlock (next_number start (journals_of blocks)) es
  pub stands : IsOpenBlock at root es file

-- these journals can stand in one block: each that isn't alone there is of a kind that gathers
abbrev pub CanShare : List Entry → Type 0
CanShare es = length es ≢ 1 → AllGather es

-- Behind these journals the first of a block's that can't follow has this number: its header isn't the next one, or it can't
-- stand in one block with those before it.
-- Example: behind journals 0 to 2 a block has a record, journal 3, and a time journal, journal 4. Both are the next ones,
-- but a time journal is a block of its own: the number is 4. Where the record names a wrong ordinal of its clue, it is 3.
pub record IsNotNext (start : Option BaseRecord) (before es : List Entry) (jsn : ℕ) : Type 0 where
  pub index : ℕ
  pub inside : index < length es
  pub number : jsn ≡ next_number start before + index
  pub next : AreBehind start before (take index es)
  pub share : CanShare (take index es)
  pub why : ((e : Entry) → IsNextBehind start (before ++ take index es) (get_or es index e).header → ⊥)
      ⊎ (CanShare (take (index + 1) es) → ⊥)

-- the journals of a block may follow, and they have another root than the block names
pub record IsOtherRoot (start : Option BaseRecord) (blocks : List (List Entry)) (es : List Entry) (kept found : List ℕ) : Type 0 where
  pub next : AreBehind start (journals_of blocks) es
  pub share : CanShare es
  pub found_is : found ≡ (floor_from start).root (leaves_of (journals_of blocks) ++ leaves_of es)
  pub other : found ≢ kept

-- The first journal of a file without a base may be one, its block's root is right, and its content has another digest
-- than its header names.
pub record IsOtherContent (es : List Entry) (root kept found : List ℕ) : Type 0 where
  pub first : Entry
  pub alone : es ≡ first ∷ []
  pub root_is : root ≡ (ground).root (leaves_of es)
  pub kept_is : kept ≡ first.header.content_digest.0
  pub found_is : found ≡ content_digest_of first.content
  pub other : found ≢ kept

-- a file was read to the gate at this place, and the block behind it has this damage by its own bytes
pub record IsBlockDamage (file : List ℕ) (start : Option BaseRecord) (blocks : List (List Entry)) (at : ℕ) (damage : Damage) : Type 0 where
  pub read : IsReadTo file start blocks at
  pub why : IsBlockErr at file (next_number start (journals_of blocks)) (Damaged damage)

-- what has to be there is missing in these blocks: journal 0, or behind a base the purge to its point
abbrev pub EndsEarly : Option BaseRecord → List (List Entry) → Type 0
EndsEarly None blocks = blocks ≡ []
EndsEarly (Some base) blocks = HasOwnPurge (Some base) (journals_of blocks) → ⊥

-- A file was read to a shut gate at this place, and what has to be in its blocks is missing.
-- Example: a file behind a base at journal 10 has journals 10 to 14, and none of them is the purge to 10: it is cut short,
-- and its damage is `Entry 15`. A file without a base whose first gate is shut has the damage `Entry 0`.
pub record IsCutShort (file : List ℕ) (start : Option BaseRecord) (blocks : List (List Entry)) (at : ℕ) : Type 0 where
  pub read : IsReadTo file start blocks at
  pub shut : IsShutAt at file
  pub early : EndsEarly start blocks

-- What is wrong with an open file behind its head, in this order: 1. The digest of the base (`Base`). 2. Its form
-- (`BaseForm`). Then of each block, one after the other: 3. Its length (`Length`) and then its headers (`Entry`), by its own
-- bytes. 4. Its journals, from the first on, by those in front of them (`Entry`). 5. Its root (`Root`). 6. In the first
-- block of a file without a base the content of journal 0 (`Content`). 7. Where the blocks end, that something is missing
-- (`Entry`, with the number of the next journal).
-- Example: a file without a base has blocks [0] and [1 2], and a third block [3] names root R, while the root over the four
-- journals is S. Where nothing in front of that root is wrong the damage is `Root 2 R S`. Behind a base that stands for 7
-- blocks it is that of block 9.
abbrev pub IsDamage : List ℕ → Damage → Type 0
IsDamage file Magic = ⊥
IsDamage file (BaseForm place) = HasDigest file × IsBadForm (base_in file) place
IsDamage file (Base kept found) = IsBaseErr (base_in file) (take 32 (drop 26 file)) (Damaged (Base kept found)) × HasBase file
IsDamage file (Length place kept found) =
    (start : Option BaseRecord) × (blocks : List (List Entry)) × (at : ℕ) × IsBlockDamage file start blocks at (Length place kept found)
IsDamage file (Entries jsn) =
    ((start : Option BaseRecord) × (blocks : List (List Entry)) × (at : ℕ) × (jsn ≡ next_number start (journals_of blocks))
    × IsCutShort file start blocks at)
    ⊎ (((start : Option BaseRecord) × (blocks : List (List Entry)) × (at : ℕ) × IsBlockDamage file start blocks at (Entries jsn))
    ⊎ ((start : Option BaseRecord) × (blocks : List (List Entry)) × (at : ℕ) × (root : List ℕ) × (es : List Entry)
    × IsNextHere file start blocks at root es × IsNotNext start (journals_of blocks) es jsn))
IsDamage file (Root block kept found) =
    (start : Option BaseRecord) × (blocks : List (List Entry)) × (at : ℕ) × (es : List Entry)
    × (block ≡ blocks_before start + length blocks)
    × IsNextHere file start blocks at kept.0 es × IsOtherRoot start blocks es kept.0 found.0
IsDamage file (Content jsn kept found) =
    (root : List ℕ) × (es : List Entry) × (jsn ≡ 0) × IsNextHere file None [] 64 root es
    × IsOtherContent es root kept.0 found.0

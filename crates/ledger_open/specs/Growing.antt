-- A file with a block more, and the file of a new ledger.
use Rattle.std.specs.Prelude.{◌≡◌, ℕ, false, List, [], ◌∷◌, ◌++◌}
use Rattle.std.specs.List.{list_any}
use Rattle.block_file.specs.File.{IsFileOf, whole_file}
use Rattle.block_file.specs.Head.{front_of}
use Rattle.journal_record.specs.Blocks as record_
use Rattle.journal_record.specs.Blocks.{block_bytes, leaves_of, written_blocks}
use Rattle.journal_record.specs.Entry.{Entry}
use Rattle.ledger_model.specs.Genesis.{new_ledger}
use Rattle.ledger_model.specs.History.{History, history, journals, journals_of, size, point}
use Rattle.ledger_model.specs.Lawful.{AreNext, IsBlock}
use Rattle.ledger_model.specs.Targets.{hides}
use Rattle.ledger_model.specs.declared.genesis.Genesis.{Genesis}
use Rattle.ledger_open.specs.Heads.{Edition}
use Rattle.ledger_open.specs.Standing.{Floor, ground, StandsFor, IsErased, IsClean, HasBlocks}

-- a history with one block more, and none open
abbrev pub with_block : List Entry → History → History
with_block block h = history (h.closed ++ block ∷ []) []

-- A file has one block more behind the blocks that another one had, under the root over all journals up to its end.
-- Example: a file begins with journal 0 and has the blocks [0] and [1 2]. With [3] more a file has the same front, the
-- blocks [0], [1 2] and [3], each behind an open gate, and a shut gate; the last block names the root over journals 0 to 3.
-- In a file behind a base at journal 10 the block [10] names the root over the base's peaks and journal 10.
abbrev pub HasBlockMore : {floor : Floor} {edition : Edition} {blocks : List (List Entry)} {image : List ℕ} → HasBlocks floor edition blocks image → List Entry → List ℕ → Type 0
HasBlockMore {floor = floor} {blocks = blocks} x block new =
    IsFileOf x.front (written_blocks floor.root [] blocks ++ block_bytes (floor.root (leaves_of (journals_of blocks) ++ leaves_of block)) block ∷ []) new

-- a block that may be the next one of this history
pub record IsNextBlock (h : History) (block : List Entry) : Type 0 where
  pub entries : record_.IsBlock (size h) block
  pub shape : IsBlock block
  pub next : AreNext (journals h) block

-- what stands for a history without anything undone stands, with a block more that may be its next one, for the history with
-- that block (`a_block_more_is_one_more`)
abbrev pub Grows : Type 0
Grows =
    (image new : List ℕ) (h : History) (block : List Entry) (erased : IsErased image h) → IsNextBlock h block
    → HasBlockMore erased.keeps.file block new → StandsFor new (with_block block h)

-- where a block that was added hides no content and moves no point, what is hidden is gone from the file as before
-- (`a_block_more_is_one_more`)
abbrev pub GrowsErased : Type 0
GrowsErased =
    (image new : List ℕ) (h : History) (block : List Entry) → IsErased image h → IsNextBlock h block
    → ((target : Entry) → list_any (hides target) block ≡ false) → point (with_block block h) ≡ point h
    → StandsFor new (with_block block h) → IsErased new (with_block block h)

-- the file of a new ledger: a head of generation 1 without a base, block 0 and a tail gate
abbrev pub new_file : Genesis → List ℕ
new_file genesis = whole_file (front_of 1 1 []) (written_blocks (ground).root [] (new_ledger genesis).closed)

-- the file of a new ledger is clean for its history (`a_new_file_is_clean`)
abbrev pub IsNewClean : Genesis → Type 0
IsNewClean genesis = IsClean (new_file genesis) (new_ledger genesis)

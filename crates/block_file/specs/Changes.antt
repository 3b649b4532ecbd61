-- What a commit does to a file, a piece that is added to one, and the clearing of a range; and what is told of the block at a place.
use Rattle.std.specs.Prelude.{◌≡◌, ◌⊎◌, ℕ, ◌+◌, List, [], ◌∷◌, ◌++◌, length, take, replicate, Bool, IsTrue, Option, Result}
use Rattle.ledger_disk.specs.Disk.{State, MayLeave}
use Rattle.ledger_disk.specs.Guards.{Outside}
use Rattle.journal_record.specs.Blocks.{block_bytes}
use Rattle.journal_record.specs.Entry.{Entry}
use Rattle.block_file.specs.Blocks.{AreBlock, GivesBlock, GivesEnd}
use Rattle.block_file.specs.File.{IsFileOf, HasGroup, IsSettled, IsShutAt, open_blocks, tail_of, whole_file, with_content}
use Rattle.block_file.specs.FileView.{gate_of}
use Rattle.block_file.specs.declared.block.BlockAt.{BlockAt}
use Rattle.block_file.specs.declared.failure.FileErr.{FileErr}
use Rattle.block_file.specs.declared.file.BlockFile.{BlockFile}

-- The blocks of this group were added behind the tail gate, in their order, and each image has all of them. The file's head
-- stays.
pub record AddsGroup (tells : Bool) (file file_new : BlockFile) (group : List (List ℕ)) (old new : State) : Type 0 where
  pub has : IsTrue tells → (front : List ℕ) (blocks : List (List ℕ)) → IsFileOf front blocks old.seen → tail_of front blocks ≡ gate_of file
      → HasGroup front blocks group new
  pub images : IsTrue tells → (front : List ℕ) (blocks : List (List ℕ)) → IsFileOf front blocks old.seen → tail_of front blocks ≡ gate_of file
      → (image : List ℕ) → MayLeave new image → IsFileOf front (blocks ++ group) image
  pub gate : IsTrue tells → IsShutAt (gate_of file_new) new.seen
  pub head : IsTrue tells → take 64 new.seen ≡ take 64 old.seen
  -- a file that ended with its tail gate ends with its new one
  pub ends : IsTrue tells → length old.seen ≡ gate_of file + 1 → length new.seen ≡ gate_of file_new + 1

-- This block was added behind the tail gate, and each image has it. The file's head stays.
abbrev pub AddsBlock : Bool → BlockFile → BlockFile → List ℕ → State → State → Type 0
AddsBlock tells file file_new block old new = AddsGroup tells file file_new (block ∷ []) old new

-- where a piece is blocks, each with its gate, they were added behind those of a file that is built
abbrev pub AddsBlocks : ℕ → List ℕ → List ℕ → List ℕ → Type 0
AddsBlocks at piece old new =
    (front : List ℕ) (blocks more : List (List ℕ)) → old ≡ whole_file front blocks → tail_of front blocks ≡ at → piece ≡ open_blocks more
    → new ≡ whole_file front (blocks ++ more)

-- whatever bytes a piece is, it stands over the tail gate of a file that ended with it, and a gate behind it
abbrev pub AddsBytes : ℕ → List ℕ → List ℕ → List ℕ → Type 0
AddsBytes at piece old new = length old ≡ at + 1 → new ≡ take at old ++ piece ++ 0 ∷ []

-- the block that stands at this place is told, where its first journal has this number
abbrev pub GivesThere : ℕ → List ℕ → ℕ → Result (Option BlockAt) FileErr → Type 0
GivesThere at bytes first told =
    (front : List ℕ) (before after : List (List ℕ)) (root : List ℕ) (es : List Entry)
    → IsFileOf front (before ++ block_bytes root es ∷ after) bytes → tail_of front before ≡ at → length root ≡ 32 → AreBlock first es
    → GivesBlock at root es told

-- no block is told at this place, where the blocks end there
abbrev pub GivesNone : ℕ → List ℕ → Result (Option BlockAt) FileErr → Type 0
GivesNone at bytes told = (front : List ℕ) (blocks : List (List ℕ)) → IsFileOf front blocks bytes → tail_of front blocks ≡ at → GivesEnd told

-- where nothing was pending, an image has all blocks of the group, in their order, or none of them
abbrev pub MayAddGroup : ℕ → List (List ℕ) → State → State → Type 0
MayAddGroup at group old new =
    IsSettled old → (front : List ℕ) (blocks : List (List ℕ)) → IsFileOf front blocks old.seen → tail_of front blocks ≡ at
    → (image : List ℕ) → MayLeave new image → IsFileOf front blocks image ⊎ IsFileOf front (blocks ++ group) image

-- where nothing was pending, an image has the block whole or not at all
abbrev pub MayAddBlock : ℕ → List ℕ → State → State → Type 0
MayAddBlock at block old new = MayAddGroup at (block ∷ []) old new

-- where this range is a content in a block, that content is zeros, and all else stands
abbrev pub ZerosContent : ℕ → ℕ → State → State → Type 0
ZerosContent at len old new =
    (front : List ℕ) (before after : List (List ℕ)) (head rest content : List ℕ)
    → IsFileOf front (with_content before after head rest content) old.seen → tail_of front before + 1 + length head ≡ at → length content ≡ len
    → IsFileOf front (with_content before after head rest (replicate len 0)) new.seen

-- This range alone changed: all else reads as before, and a crash leaves what it might have left before, but for bytes of
-- this range.
-- Example: a crash leaves of 5 5 5, of which nothing is pending, just that. Behind a change of its last byte it may leave 5 5 7,
-- and not 7 5 5.
pub record ChangesWithin (at len : ℕ) (old new : State) : Type 0 where
  pub seen : Outside at len old.seen new.seen
  pub images : (image : List ℕ) → MayLeave new image → (other : List ℕ) × MayLeave old other × Outside at len other image

-- all but this range reads as before, and is so in each image where nothing was pending
pub record KeepsOutside (at len : ℕ) (old new : State) : Type 0 where
  pub seen : Outside at len old.seen new.seen
  pub images : IsSettled old → (image : List ℕ) → MayLeave new image → Outside at len old.seen image
  -- where the range is a content in a block, a crash leaves the same blocks, but for that content
  pub kept : IsSettled old → (front : List ℕ) (before after : List (List ℕ)) (head rest content : List ℕ)
      → IsFileOf front (with_content before after head rest content) old.seen → tail_of front before + 1 + length head ≡ at → length content ≡ len
      → (image : List ℕ) → MayLeave new image → (other : List ℕ) × (length other ≡ len) × IsFileOf front (with_content before after head rest other) image

-- A file of blocks, each behind a gate.
use Rattle.std.specs.Prelude.{◌≡◌, ◌≢◌, ◌⊎◌, ℕ, ◌+◌, ◌≤◌, List, [], ◌∷◌, ◌++◌, length, get_or, take, drop, replicate, ⊤}
use Rattle.std.specs.List.{flat_map}
use Rattle.journal_record.specs.Records.{number_8}
use Rattle.ledger_disk.specs.Disk.{State, settled_state}
use Rattle.ledger_disk.specs.Guards.{Guards}

-- the bytes of some blocks, each behind an open gate
abbrev pub open_blocks : List (List ℕ) → List ℕ
open_blocks blocks = flat_map (λ block. 1 ∷ block) blocks

-- The file is this front and these blocks, and then a gate that is shut. What is behind it doesn't count.
-- Example, with a front of two bytes: 9 9 01 5 6 7 01 8 00 is the file of the front 9 9 and the blocks 5 6 7 and 8. It stays
-- so with any bytes behind it, and with another last gate than 00, as long as that isn't 01.
pub record IsFileOf (front : List ℕ) (blocks : List (List ℕ)) (file : List ℕ) : Type 0 where
  pub gate : ℕ
  pub rest : List ℕ
  pub is : file ≡ front ++ open_blocks blocks ++ gate ∷ rest
  pub shut : gate ≢ 1

-- some blocks, one of which has this content between what stands in front of it and behind it
abbrev pub with_content : List (List ℕ) → List (List ℕ) → List ℕ → List ℕ → List ℕ → List (List ℕ)
with_content before after head rest content = before ++ (head ++ content ++ rest) ∷ after

-- a block names its own length: 44 bytes, and the body whose length stands in eight of them
pub record IsWhole (block : List ℕ) : Type 0 where
  pub long : 44 ≤ length block
  pub size : length block ≡ 44 + number_8 4 block

-- each of some blocks names its own length
abbrev pub AreWhole : List (List ℕ) → Type 0
AreWhole [] = ⊤
AreWhole (block ∷ blocks) = IsWhole block × AreWhole blocks

-- a file stands behind one front for one list of blocks at most, where each names its own length
abbrev pub IsOneParse : Type 0
IsOneParse =
    (front : List ℕ) (blocks others : List (List ℕ)) (file : List ℕ) → AreWhole blocks → AreWhole others
    → IsFileOf front blocks file → IsFileOf front others file → blocks ≡ others

-- where the tail gate of a file with this front and these blocks stands
abbrev pub tail_of : List ℕ → List (List ℕ) → ℕ
tail_of front blocks = length (front ++ open_blocks blocks)

-- a gate stands at this place and is shut
abbrev pub IsShutAt : ℕ → List ℕ → Type 0
IsShutAt at file = (at + 1 ≤ length file) × (get_or file at 0 ≢ 1)

-- the file of this front and these blocks that ends with its tail gate
abbrev pub whole_file : List ℕ → List (List ℕ) → List ℕ
whole_file front blocks = front ++ open_blocks blocks ++ 0 ∷ []

-- the first byte of a disk's file is 00 for good, so that each image is shut
abbrev pub IsVeiled : State → Type 0
IsVeiled s = Guards s (0 ∷ [])

-- what may be left of a file that was cut to nothing and begun anew: a front of it, or one byte at most
abbrev pub IsScrapOf : List ℕ → List ℕ → Type 0
IsScrapOf file image = (image ≡ take (length image) file) ⊎ (length image ≤ 1)

-- zeros stand in this range of a file
abbrev pub IsZeros : ℕ → ℕ → List ℕ → Type 0
IsZeros at n file = take n (drop at file) ≡ replicate n 0

-- nothing is pending on a disk: what a read gives stands for good
abbrev pub IsSettled : State → Type 0
IsSettled s = s ≡ settled_state s.seen

-- A file once the bytes of a block or of a group, and a new tail gate, were written behind the gate at this place, which is shut
-- still: the first step of a commit.
-- Example: in 9 9 00 the gate stands at 2. With the block 5 6 the file is 9 9 00 5 6 00. Of a longer one, 9 9 00 7 7 7 7 7,
-- the last two bytes stay: 9 9 00 5 6 00 7 7. The second step makes the byte at 2 a 01, and the block counts.
abbrev pub staged_file : ℕ → List ℕ → List ℕ → List ℕ
staged_file at bytes file = take (at + 1) file ++ bytes ++ 0 ∷ drop (at + 2 + length bytes) file

-- The bytes of a group of blocks, which are committed together: the first block stands there without its gate, and each further
-- one behind an open gate. So one gate in front opens all of them.
-- Example: the group of the blocks 5 6 7, 8 and 9 9 has the bytes 5 6 7 01 8 01 9 9. That of one block has the bytes of the block.
abbrev pub group_bytes : List (List ℕ) → List ℕ
group_bytes [] = []
group_bytes (block ∷ more) = block ++ open_blocks more

-- these bytes are those of a group of one or more blocks
pub record IsGroupOf (group : List (List ℕ)) (bytes : List ℕ) : Type 0 where
  pub some : 1 ≤ length group
  pub is : bytes ≡ group_bytes group

-- All blocks of a group were added to a file, in their order, and nothing is pending, so they are there in each image.
-- Example: the file of the front 9 9 and the block 5 was 9 9 01 5 00. With the group of the blocks 6 7 and 8 it is
-- 9 9 01 5 01 6 7 01 8 00, for good.
pub record HasGroup (front : List ℕ) (blocks group : List (List ℕ)) (s : State) : Type 0 where
  pub nothing_pending : IsSettled s
  pub stands : IsFileOf front (blocks ++ group) s.seen

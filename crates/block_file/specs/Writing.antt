-- The bytes of a block, and of the blocks that ended before it, as they are gathered.
use Rattle.std.specs.Prelude.{ℕ, List, ◌∷◌, ◌++◌, [], length}
use Rattle.std.specs.Int.{w32, w64, to_be_bytes}
use Rattle.std.specs.List.{flat_map}

-- a block without its gate: the bytes in front of its records, and the records; and what stands before it in its group
pub record BlockBytes : Type 0 where
  -- the blocks that ended before it, each with the open gate of the next one behind it
  pub before : List ℕ
  pub head : List ℕ
  pub body : List ℕ

-- The bytes of some blocks, each with the open gate of the next one behind it.
-- Example: of the blocks 5 6 7 and 8 they are 5 6 7 01 8 01. With a block 9 9 behind them they are those of a group of three.
abbrev pub ended_blocks : List (List ℕ) → List ℕ
ended_blocks blocks = flat_map (λ block. block ++ 1 ∷ []) blocks

-- the bytes in front of a block's records: how many they are, how many bytes they have, and the root
abbrev pub block_head : ℕ → ℕ → List ℕ → List ℕ
block_head count len root = to_be_bytes w32 count ++ (to_be_bytes w64 len ++ root)

-- a record by the bytes of its header, its content and its who
abbrev pub record_with : List ℕ → List ℕ → List ℕ → List ℕ
record_with header content who = header ++ (to_be_bytes w32 (length who) ++ (content ++ who))

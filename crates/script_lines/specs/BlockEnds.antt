-- The end of a block, as its receipts tell it.
use Rattle.std.specs.Prelude.{◌≡◌, ◌⊎◌, ℕ, List, [], ◌∷◌, decimal}
use Rattle.ledger_bytes.specs.declared.digest.Digest.{Digest}
use Rattle.script_lines.specs.Words.{hex_of, spaced_words}

-- the end of a block: the block's number, and the size and the root of the tree up to there
pub record BlockEnd : Type 0 where
  pub block : ℕ
  pub size : ℕ
  pub root : Digest

-- the same by its parts
abbrev pub block_end : ℕ → ℕ → Digest → BlockEnd
block_end block size root = record { block = block; size = size; root = root }

-- the words by which each receipt of a block tells its end
abbrev pub end_words : BlockEnd → List (List ℕ)
end_words end = decimal end.block ∷ decimal end.size ∷ hex_of end.root ∷ []

-- a text has the words of a block's end, or nothing so far
abbrev pub IsSpelled : BlockEnd → List ℕ → Type 0
IsSpelled end text = (text ≡ []) ⊎ (text ≡ spaced_words (end_words end))

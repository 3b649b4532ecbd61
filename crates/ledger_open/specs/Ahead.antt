-- Blocks that are read one behind the other before the first of them is taken.
use Rattle.std.specs.Prelude.{◌≡◌, ◌≢◌, ℕ, ◌+◌, ◌^◌, ◌<◌, ◌≤◌, Bool, IsTrue, All, List, [], ◌∷◌, ◌++◌, map, length, get_or, Ok, Some, Result, Err, ⊤}
use Rattle.block_file.specs.Blocks.{AreBlock, IsRead, IsNextBlock, IsBlockErr}
use Rattle.block_file.specs.declared.block.BlockAt.{BlockAt}
use Rattle.block_file.specs.declared.block.RecordAt.{RecordAt}
use Rattle.block_file.specs.declared.failure.Damage.{Damage}
use Rattle.block_file.specs.declared.failure.FileErr.{FileErr}
use Rattle.block_file.specs.declared.failure.FileErr.TheVariants.{Damaged}
use Rattle.journal_record.specs.Entry.{Entry}
use Rattle.ledger_model.specs.Behind.{next_number}
use Rattle.ledger_book.specs.Books.{Kept}
use Rattle.ledger_book.specs.Steps.{IsLeafOf}
use Rattle.ledger_bytes.specs.declared.digest.Digest.{Digest}
use Rattle.ledger_model.specs.History.{journals_of}
use Rattle.ledger_open.specs.Damages.{IsDamage}
use Rattle.ledger_open.specs.Opening.{Known, known_from, HasRead, as_open}
use Rattle.ledger_open.specs.declared.ahead.Ahead.{Ahead}
use Rattle.ledger_open.specs.declared.ahead.Hashed.{Hashed}
use Rattle.ledger_open.specs.declared.ahead.Stop.{Stop}
use Rattle.ledger_open.specs.declared.ahead.Stop.TheVariants as stops
use Rattle.ledger_open.specs.declared.failure.OpenErr.{OpenErr}
use Rattle.block_file.specs.declared.place.PlaceAt.{PlaceAt}

-- these are the leaf digests of these records, each at its own place
pub record AreLeaves (rs : List RecordAt) (leaves : List Digest) : Type 0 where
  pub size : length leaves ≡ length rs
  pub each : (i : ℕ) (r : RecordAt) (d : Digest) → i < length rs → IsLeafOf (get_or rs i r).header (get_or leaves i d)

-- a block was read behind the gate at this place, and its first journal has this number; where the disk tells its
-- bytes, it stands there
pub record BlockWasRead (tells : Bool) (file : List ℕ) (at first : ℕ) (block : BlockAt) : Type 0 where
  pub read : (es : List Entry) × AreBlock first es × IsRead at es block
  pub stands : IsTrue tells → IsNextBlock at file first (Ok (Some block))

-- blocks were read one behind the other, from this place and this number on
abbrev pub WereRead : Bool → List ℕ → ℕ → ℕ → List BlockAt → Type 0
WereRead tells file at first [] = ⊤
WereRead tells file at first (b ∷ bs) =
    BlockWasRead tells file at first b × WereRead tells file (at + 1 + b.len) (first + length b.records) bs

-- where the gate behind some blocks stands, whose first gate stands at this place
abbrev pub place_behind : ℕ → List BlockAt → ℕ
place_behind at [] = at
place_behind at (b ∷ bs) = place_behind (at + 1 + b.len) bs

-- the number of the first journal behind some blocks, whose first journal has this number
abbrev pub number_behind : ℕ → List BlockAt → ℕ
number_behind first [] = first
number_behind first (b ∷ bs) = number_behind (first + length b.records) bs

-- how many journals some blocks have that were read
abbrev pub journals_in : List BlockAt → ℕ
journals_in [] = 0
journals_in (b ∷ bs) = length b.records + journals_in bs

-- why no block more was read behind this place, where the next journal has this number: as many as are read ahead were,
-- numbers have come to their end, the gate is shut, or the block there is damaged
abbrev pub IsStop : Bool → List ℕ → ℕ → ℕ → Stop → Type 0
IsStop tells file at first stops.Full = first < 2 ^ 32
IsStop tells file at first stops.TooLong = 2 ^ 32 ≤ first
IsStop tells file at first stops.Shut = IsTrue tells → get_or file at 0 ≢ 1
IsStop tells file at first (stops.Damaged damage) = IsTrue tells → IsBlockErr at file first (Damaged damage)

-- blocks that were read, without their leaf digests
abbrev pub blocks_in : List Hashed → List BlockAt
blocks_in hs = map (λ h. h.block) hs

-- what of a file was read and taken, the blocks that were read behind it, and why no more were
pub record IsAhead (tells : Bool) (file : List ℕ) (k : Known) (blocks : List BlockAt) (stop : Stop) : Type 0 where
  pub read : HasRead tells file k
  pub ahead : WereRead tells file k.gate (next_number read.start (journals_of read.blocks)) blocks
  pub ends : IsStop tells file (place_behind k.gate blocks) (number_behind (next_number read.start (journals_of read.blocks)) blocks) stop

-- these blocks were read of some file, right behind those that a book has
abbrev pub HasAhead : Kept → List PlaceAt → List BlockAt → Type 0
HasAhead book places blocks =
    (tells : Bool) × (file : List ℕ) × (at : ℕ) × (rest : List BlockAt) × (stop : Stop)
    × IsAhead tells file (known_from book places at) (blocks ++ rest) stop

-- these blocks were taken: of whatever file they were read, what was read behind them is what is ahead of the new book
pub record TakesAll (old : Kept) (old_places : List PlaceAt) (new : Kept) (new_places : List PlaceAt) (blocks : List BlockAt) : Type 0 where
  pub goes : (tells : Bool) (file : List ℕ) (at : ℕ) (rest : List BlockAt) (stop : Stop)
      → IsAhead tells file (known_from old old_places at) (blocks ++ rest) stop
      → IsAhead tells file (known_from new new_places (place_behind at blocks)) rest stop

-- Each file of which these blocks were read behind those that a book has, and that tells its bytes, has this damage.
-- Example: a book has block 0, and block 1 was read behind it and names root R, while the root over the journals up to its
-- end is S. Then block 1 is bad ahead with the damage `Root 1 R S`: each file that begins with these two blocks has it,
-- whatever stands behind them.
pub record IsBadAhead (book : Kept) (places : List PlaceAt) (blocks : List BlockAt) (damage : Damage) : Type 0 where
  pub bad : (tells : Bool) (file : List ℕ) (at : ℕ) (rest : List BlockAt) (stop : Stop)
      → IsAhead tells file (known_from book places at) (blocks ++ rest) stop → IsTrue tells → IsDamage file damage

-- blocks with their leaf digests were read behind those that a book has, and why no more were; the next gate stands at this
-- place
pub record AreNextBlocks (tells : Bool) (file : List ℕ) (book : Kept) (places : List PlaceAt) (ahead : Ahead) (place : ℕ) : Type 0 where
  pub at : ℕ
  pub place_is : place ≡ place_behind at (blocks_in ahead.blocks.items)
  pub are : IsAhead tells file (known_from book places at) (blocks_in ahead.blocks.items) ahead.stop
  pub count_is : ahead.count ≡ journals_in (blocks_in ahead.blocks.items)
  pub leaves : All (λ h. AreLeaves h.block.records h.leaves.items) ahead.blocks.items

-- a damage is kept for later, and every other error of a file is answered at once
abbrev pub IsStopOf : FileErr → Result Stop OpenErr → Type 0
IsStopOf e (Ok stop) = (damage : _) × (e ≡ Damaged damage) × (stop ≡ stops.Damaged damage)
IsStopOf e (Err told) = (told ≡ as_open e) × ((damage : _) → e ≢ Damaged damage)

-- A block that is read, and why none is.
use Rattle.std.specs.Prelude.{◌≡◌, ◌≢◌, ◌⊎◌, ℕ, ◌+◌, ◌-◌, ◌<◌, ◌≤◌, false, true, List, [], ◌∷◌, ◌++◌, length, get_or, take, drop, Option, Some, None, Result, Ok, Err, ⊤}
use Rattle.ledger_bytes.specs.declared.limits.TheConstants.{BLOCK_LIMIT}
use Rattle.journal_record.specs.Blocks.{record_bytes, body_of, block_bytes}
use Rattle.journal_record.specs.Entry.{Entry}
use Rattle.journal_record.specs.Records.{number_4, number_8, sum_of, fills, AreReadable, IsBody, BreaksAt}
use Rattle.std.specs.Int.{to_be_bytes, w32, w64}
use Rattle.block_file.specs.declared.block.BlockAt.{BlockAt}
use Rattle.block_file.specs.declared.block.BlockHead.{BlockHead}
use Rattle.block_file.specs.declared.block.RecordAt.{RecordAt}
use Rattle.block_file.specs.declared.failure.Damage.{Damage}
use Rattle.block_file.specs.declared.failure.Damage.TheVariants.{Magic, BaseForm, Base, Length, Entry as Entries, Root, Content}
use Rattle.block_file.specs.declared.failure.FileErr.{FileErr}
use Rattle.block_file.specs.declared.failure.FileErr.TheVariants.{DiskFault, Damaged, NewerFormat, NoMemory}

-- ---- what a block is

-- the first of some journals has this number, where there is one
abbrev pub BeginsAt : ℕ → List Entry → Type 0
BeginsAt first [] = ⊤
BeginsAt first (e ∷ es) = e.header.jsn ≡ first

-- these journals can be read from one block, and the first has this number
pub record AreBlock (first : ℕ) (es : List Entry) : Type 0 where
  pub some : 1 ≤ length es
  pub most : length es ≤ BLOCK_LIMIT
  pub readable : AreReadable es
  pub begins : BeginsAt first es

-- An open block of these journals under this root stands at this place, and a byte behind it.
pub record IsOpenBlock (at : ℕ) (root : List ℕ) (es : List Entry) (file : List ℕ) : Type 0 where
  pub digest : length root ≡ 32
  pub gate : ℕ
  pub rest : List ℕ
  pub is : drop at file ≡ 1 ∷ (block_bytes root es ++ gate ∷ rest)

-- where a journal stands whose record begins at this place
abbrev pub record_at : ℕ → Entry → RecordAt
record_at at e =
    record {
      header = e.header;
      content_at = at + 178;
      who_at = at + 178 + e.header.content_len;
      who_len = length e.who;
    }

-- where journals stand whose records begin at this place
abbrev pub records_from : ℕ → List Entry → List RecordAt
records_from at [] = []
records_from at (e ∷ es) = record_at at e ∷ records_from (at + length (record_bytes e)) es

-- what is told of a block that was read is that of these journals behind the gate at this place: its length, and where its
-- records stand
pub record IsRead (at : ℕ) (es : List Entry) (block : BlockAt) : Type 0 where
  pub at_is : block.at ≡ at
  pub len : block.len ≡ 44 + length (body_of es)
  pub records : block.records ≡ records_from (at + 45) es

-- the first of some records that were read has this number, where there is one
abbrev pub FirstIs : ℕ → List RecordAt → Type 0
FirstIs first [] = ⊤
FirstIs first (r ∷ rs) = r.header.jsn ≡ first

-- ---- what is looked at, in its order

-- how many bytes stand between the gate at this place and the last byte of the file, which is where a tail gate has to be
abbrev pub room_at : ℕ → List ℕ → ℕ
room_at at file = length file - (at + 2)

-- a block's head: the 44 bytes behind its gate
abbrev pub block_head_at : ℕ → List ℕ → List ℕ
block_head_at at file = take 44 (drop (at + 1) file)

-- how many journals a block's head counts
unfoldable pub count_in : List ℕ → ℕ
count_in head = number_4 0 head

-- how long the body is that a block's head names
unfoldable pub body_len_in : List ℕ → ℕ
body_len_in head = number_8 4 head

-- a block's body behind the gate at this place: as many bytes as its head names
abbrev pub body_at : ℕ → List ℕ → List ℕ
body_at at file = take (body_len_in (block_head_at at file)) (drop (at + 45) file)

-- the damage that fewer bytes stand behind the gate than a block's head has: 44 were to be there
pub record IsHeadCut (at : ℕ) (file : List ℕ) (place kept found : ℕ) : Type 0 where
  pub room : room_at at file < 44
  pub place_is : place ≡ at + 1
  pub kept_is : kept ≡ 44
  pub found_is : found ≡ room_at at file

-- the damage that a block's head counts no journal, or more than a block may have
pub record IsMiscounted (at : ℕ) (file : List ℕ) (place kept found : ℕ) : Type 0 where
  pub room : 44 ≤ room_at at file
  pub wrong : (count_in (block_head_at at file) ≡ 0) ⊎ (BLOCK_LIMIT < count_in (block_head_at at file))
  pub place_is : place ≡ at + 1
  pub kept_is : kept ≡ count_in (block_head_at at file)
  pub found_is : found ≡ BLOCK_LIMIT

-- behind the gate stands a head with a right count
pub record HasHeadAt (at : ℕ) (file : List ℕ) : Type 0 where
  pub room : 44 ≤ room_at at file
  pub some : 1 ≤ count_in (block_head_at at file)
  pub most : count_in (block_head_at at file) ≤ BLOCK_LIMIT

-- the damage that the body which a block's head names reaches past the file's end less one byte
pub record IsBodyCut (at : ℕ) (file : List ℕ) (place kept found : ℕ) : Type 0 where
  pub head : HasHeadAt at file
  pub far : room_at at file - 44 < body_len_in (block_head_at at file)
  pub place_is : place ≡ at + 5
  pub kept_is : kept ≡ body_len_in (block_head_at at file)
  pub found_is : found ≡ room_at at file - 44

-- behind the gate stand a head with a right count and the body that it names
pub record HasBodyAt (at : ℕ) (file : List ℕ) : Type 0 where
  pub head : HasHeadAt at file
  pub within : body_len_in (block_head_at at file) ≤ room_at at file - 44

-- The damage that as many records as a head counts don't fill its body: the length of the body, and the sum of the records.
-- Example: the head counts one record and names a body of 200 bytes. The record's content has 10 bytes and its who 5, so it
-- ends behind 193: the damage is `Length`, kept 200, found 193.
pub record IsUnfilled (at count : ℕ) (body : List ℕ) (place kept found : ℕ) : Type 0 where
  pub unfilled : fills count body ≡ false
  pub place_is : place ≡ at + 5
  pub kept_is : kept ≡ length body
  pub found_is : found ≡ sum_of count body

-- every header of a body decodes, and the first journal has another number than was asked for
pub record IsOtherFirst (count : ℕ) (body : List ℕ) (first : ℕ) : Type 0 where
  pub es : List Entry
  pub body_is : IsBody count body es
  pub other : BeginsAt first es → ⊥

-- The damage of a body that records fill, in this order: 1. The first header that doesn't decode is told by the number that
-- its place calls for. 2. Where all decode, the first journal's number is another: told is the number that was asked for.
-- Example: a block of three records was to begin with journal 7. Where the second header has kind 9 the number is 8. Where
-- all three decode and the first says that it is journal 9, the number is 7.
pub record IsNoEntry (count : ℕ) (body : List ℕ) (first jsn : ℕ) : Type 0 where
  pub filled : fills count body ≡ true
  pub why : ((n : ℕ) × (jsn ≡ first + n) × BreaksAt count body n) ⊎ ((jsn ≡ first) × IsOtherFirst count body first)

-- why the body of a block isn't read: the records don't fill it, a header is no entry, or memory is wanting
abbrev pub IsBodyErr : ℕ → ℕ → List ℕ → ℕ → FileErr → Type 0
IsBodyErr at count body first DiskFault = ⊥
IsBodyErr at count body first NoMemory = Unit {0}
IsBodyErr at count body first (NewerFormat found) = ⊥
IsBodyErr at count body first (Damaged Magic) = ⊥
IsBodyErr at count body first (Damaged (BaseForm place)) = ⊥
IsBodyErr at count body first (Damaged (Base kept found)) = ⊥
IsBodyErr at count body first (Damaged (Length place kept found)) = IsUnfilled at count body place kept found
IsBodyErr at count body first (Damaged (Entries jsn)) = IsNoEntry count body first jsn
IsBodyErr at count body first (Damaged (Root block kept found)) = ⊥
IsBodyErr at count body first (Damaged (Content jsn kept found)) = ⊥

-- what is told of a block's head is what stands behind an open gate at this place, and the body that it names stands there
-- too
pub record IsHeadRead (at : ℕ) (file : List ℕ) (head : BlockHead) : Type 0 where
  pub gate : get_or file at 0 ≡ 1
  pub body : HasBodyAt at file
  pub count : head.count ≡ count_in (block_head_at at file)
  pub body_len : head.body_len ≡ body_len_in (block_head_at at file)
  pub bytes : block_head_at at file ≡ to_be_bytes w32 head.count ++ (to_be_bytes w64 head.body_len ++ head.root.0)

-- the damage of a block's head behind the gate at this place, by the first of these: it is cut off, it counts wrong, its
-- body is cut off
abbrev pub IsHeadDamage : ℕ → List ℕ → Damage → Type 0
IsHeadDamage at file (Length place kept found) =
    IsHeadCut at file place kept found ⊎ (IsMiscounted at file place kept found ⊎ IsBodyCut at file place kept found)
IsHeadDamage at file Magic = ⊥
IsHeadDamage at file (BaseForm place) = ⊥
IsHeadDamage at file (Base kept found) = ⊥
IsHeadDamage at file (Entries jsn) = ⊥
IsHeadDamage at file (Root block kept found) = ⊥
IsHeadDamage at file (Content jsn kept found) = ⊥

-- why no head of a block is read at this place: a fault of the disk, or behind an open gate a damage
abbrev pub IsBlockHeadErr : ℕ → List ℕ → FileErr → Type 0
IsBlockHeadErr at file DiskFault = Unit {0}
IsBlockHeadErr at file NoMemory = ⊥
IsBlockHeadErr at file (NewerFormat found) = ⊥
IsBlockHeadErr at file (Damaged damage) = (get_or file at 0 ≡ 1) × IsHeadDamage at file damage

-- Why no block is read at this place, whose first journal is to have this number. Behind an open gate the first of these
-- comes: 1. The room for the head. 2. The count. 3. The room for the body. 4. The records' lengths. 5. The headers, from the
-- first on. 6. The first number. A fault of the disk and want of memory may come at any time.
-- Example: a file of 300 bytes has an open gate at 64, so 234 bytes stand between that and the last one. Where the count is
-- 0 the damage is `Length` at 65, kept 0, found 64. Where the count is 2 and the body's length 250, it is `Length` at 69,
-- kept 250, found 190. In a file of 100 bytes it is `Length` at 65, kept 44, found 34, whatever the count is.
abbrev pub IsBlockErr : ℕ → List ℕ → ℕ → FileErr → Type 0
IsBlockErr at file first DiskFault = Unit {0}
IsBlockErr at file first NoMemory = Unit {0}
IsBlockErr at file first (NewerFormat found) = ⊥
IsBlockErr at file first (Damaged damage) =
    (get_or file at 0 ≡ 1)
    × (IsHeadDamage at file damage
    ⊎ (HasBodyAt at file × IsBodyErr at (count_in (block_head_at at file)) (body_at at file) first (Damaged damage)))

-- what is told of the block at this place, whose first journal is to have this number: none where the gate is shut, a block,
-- or why it isn't read
abbrev pub IsNextBlock : ℕ → List ℕ → ℕ → Result (Option BlockAt) FileErr → Type 0
IsNextBlock at file first (Ok None) = get_or file at 0 ≢ 1
IsNextBlock at file first (Ok (Some block)) =
    (es : List Entry) × AreBlock first es × IsRead at es block × IsOpenBlock at block.root.0 es file
IsNextBlock at file first (Err e) = IsBlockErr at file first e

-- an error whose cause isn't in the file: a fault of the disk, or want of memory
abbrev pub IsOutside : FileErr → Type 0
IsOutside DiskFault = Unit {0}
IsOutside NoMemory = Unit {0}
IsOutside (Damaged damage) = ⊥
IsOutside (NewerFormat found) = ⊥

-- what is told where a block of these journals under this root stands at this place: it is read
abbrev pub GivesBlock : ℕ → List ℕ → List Entry → Result (Option BlockAt) FileErr → Type 0
GivesBlock at root es (Ok None) = ⊥
GivesBlock at root es (Ok (Some block)) = (block.root.0 ≡ root) × IsRead at es block
GivesBlock at root es (Err e) = IsOutside e

-- what is told where the blocks end: there is none
abbrev pub GivesEnd : Result (Option BlockAt) FileErr → Type 0
GivesEnd (Ok None) = Unit {0}
GivesEnd (Ok (Some block)) = ⊥
GivesEnd (Err e) = IsOutside e

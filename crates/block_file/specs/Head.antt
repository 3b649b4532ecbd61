-- The head of a file, and when a file is open.
use Rattle.std.specs.Prelude.{◌≡◌, ◌≢◌, ◌⊎◌, ◌||◌, ◌==◌, Bool, false, IsTrue, ℕ, ◌-◌, ◌<◌, ◌≤◌, List, [], ◌∷◌, ◌++◌, length, get_or, take, drop, replicate, Option, Some, None, Result, Ok, Err, MatchResult}
use Rattle.std.specs.Int.{from_be_bytes, to_be_bytes, w64}
use Rattle.sha2.specs.Sha256.{sha256}
use Rattle.ledger_bytes.specs.Tags.{byte_of}
use Rattle.ledger_bytes.specs.declared.tag.Tag.TheVariants as tag
use Rattle.ledger_bytes.specs.Causes.{count_after}
use Rattle.ledger_disk.specs.Disk.{OneMore}
use Rattle.block_file.specs.declared.head.FileHead.{FileHead}
use Rattle.block_file.specs.declared.failure.Damage.TheVariants.{Magic, BaseForm, Base, Length, Entry, Root, Content}
use Rattle.block_file.specs.declared.failure.FileErr.{FileErr}
use Rattle.block_file.specs.declared.failure.FileErr.TheVariants.{DiskFault, Damaged, NewerFormat, NoMemory}

-- a disk's count of failures goes with an error of a file: one more where that is a fault, and the same at every other one
abbrev pub CountsAt : FileErr → ℕ → ℕ → Type 0
CountsAt DiskFault old new = new ≡ count_after old
CountsAt (Damaged damage) old new = new ≡ old
CountsAt (NewerFormat found) old new = new ≡ old
CountsAt NoMemory old new = new ≡ old

-- a disk's count of failures goes with an answer: one more exactly where a fault is answered
abbrev pub Counts : {T : Type 0} → Result T FileErr → ℕ → ℕ → Type 0
Counts result old new = MatchResult result (λ _. new ≡ old) (λ e. CountsAt e old new)

-- the counts of two disks go with an answer of which every error is a fault: one of them is one more exactly at an error
abbrev pub CountsOneFault : {T E : Type 0} → Result T E → ℕ → ℕ → ℕ → ℕ → Type 0
CountsOneFault result x1 x2 y1 y2 = MatchResult result (λ _. (x2 ≡ x1) × (y2 ≡ y1)) (λ _. OneMore x1 x2 y1 y2)

-- the counts of two disks go with an error of a file: one of them is one more where that is a fault, and both stay at every
-- other one
abbrev pub CountsTwoAt : FileErr → ℕ → ℕ → ℕ → ℕ → Type 0
CountsTwoAt DiskFault x1 x2 y1 y2 = OneMore x1 x2 y1 y2
CountsTwoAt (Damaged damage) x1 x2 y1 y2 = (x2 ≡ x1) × (y2 ≡ y1)
CountsTwoAt (NewerFormat found) x1 x2 y1 y2 = (x2 ≡ x1) × (y2 ≡ y1)
CountsTwoAt NoMemory x1 x2 y1 y2 = (x2 ≡ x1) × (y2 ≡ y1)

-- the counts of two disks go with an answer: one of them is one more exactly where a fault is answered
abbrev pub CountsTwo : {T : Type 0} → Result T FileErr → ℕ → ℕ → ℕ → ℕ → Type 0
CountsTwo result x1 x2 y1 y2 = MatchResult result (λ _. (x2 ≡ x1) × (y2 ≡ y1)) (λ e. CountsTwoAt e x1 x2 y1 y2)

-- a fault is the only error that comes, and a disk's count of failures is one more exactly then
abbrev pub CountsAlone : {T : Type 0} → Result T FileErr → ℕ → ℕ → Type 0
CountsAlone result old new = MatchResult result (λ _. new ≡ old) (λ e. (e ≡ DiskFault) × (new ≡ count_after old))

-- a fault is the only error that comes, and the count of one of two disks is one more exactly then
abbrev pub CountsTwoAlone : {T : Type 0} → Result T FileErr → ℕ → ℕ → ℕ → ℕ → Type 0
CountsTwoAlone result x1 x2 y1 y2 = MatchResult result (λ _. (x2 ≡ x1) × (y2 ≡ y1)) (λ e. (e ≡ DiskFault) × OneMore x1 x2 y1 y2)

-- the eight bytes by which a ledger's file is known: ASCII `LEDGERDB`
abbrev pub magic : List ℕ
magic = 76 ∷ 69 ∷ 68 ∷ 71 ∷ 69 ∷ 82 ∷ 68 ∷ 66 ∷ []

-- the number of eight bytes, the greatest first, at this place of a file
abbrev pub number_at : ℕ → List ℕ → ℕ
number_at at file = from_be_bytes w64 (take 8 (drop at file))

-- the digest of a base, as the head of its file names it
abbrev pub digest_of : List ℕ → List ℕ
digest_of base = sha256 (byte_of tag.Base ∷ base)

-- whether files of this version are known: new ones have the second, and both have one layout
abbrev pub is_format : ℕ → Bool
is_format version = version == 1 || version == 2

-- the gate and the head of a new file, of this generation and with this base
abbrev pub head_of : ℕ → ℕ → List ℕ → List ℕ
head_of gate generation base = (gate ∷ magic) ++ (2 ∷ []) ++ to_be_bytes w64 generation ++ to_be_bytes w64 (length base) ++ digest_of base ++ replicate 6 0

-- all that stands before the blocks of a file: its gate, its head and its base
abbrev pub front_of : ℕ → ℕ → List ℕ → List ℕ
front_of gate generation base = head_of gate generation base ++ base

-- a file is too short for a head and a gate, or its gate isn't 01
abbrev pub IsShut : List ℕ → Type 0
IsShut file = (length file < 65) ⊎ (get_or file 0 0 ≢ 1)

-- a file is long enough for a head and a gate, and its gate is 01
pub record IsOpen (file : List ℕ) : Type 0 where
  pub long : 65 ≤ length file
  pub gate : get_or file 0 0 ≡ 1

-- the version that a file's head names
abbrev pub version_in : List ℕ → ℕ
version_in file = get_or file 9 0

-- the generation that a file's head names: of two open files the greater one is taken
abbrev pub generation_of : List ℕ → ℕ
generation_of file = number_at 10 file

-- a file is open, with the magic and the version that are known
pub record HasHead (file : List ℕ) : Type 0 where
  pub is_open : IsOpen file
  pub magic_is : take 8 (drop 1 file) ≡ magic
  pub version : IsTrue (is_format (version_in file))

-- what is told of a file's head is what stands there: version and generation, and length and digest of the base
pub record Names (file : List ℕ) (head : FileHead) : Type 0 where
  pub has : HasHead file
  pub version : head.version ≡ version_in file
  pub generation : head.generation ≡ generation_of file
  pub base_len : head.base_len ≡ number_at 18 file
  pub base_digest : head.base_digest.0 ≡ take 32 (drop 26 file)

-- what is wrong with the head of an open file: its magic first, and then its version
abbrev pub IsHeadErr : List ℕ → FileErr → Type 0
IsHeadErr file DiskFault = Unit {0}
IsHeadErr file NoMemory = ⊥
IsHeadErr file (NewerFormat found) = IsOpen file × (take 8 (drop 1 file) ≡ magic) × (found ≡ version_in file) × (is_format found ≡ false)
IsHeadErr file (Damaged Magic) = IsOpen file × (take 8 (drop 1 file) ≢ magic)
IsHeadErr file (Damaged (BaseForm at)) = ⊥
IsHeadErr file (Damaged (Base kept found)) = ⊥
IsHeadErr file (Damaged (Length at kept found)) = ⊥
IsHeadErr file (Damaged (Entry jsn)) = ⊥
IsHeadErr file (Damaged (Root block kept found)) = ⊥
IsHeadErr file (Damaged (Content jsn kept found)) = ⊥

-- what is told of a file's head: none where the file is shut, the head, or what is wrong with it
abbrev pub IsHead : List ℕ → Result (Option FileHead) FileErr → Type 0
IsHead file (Ok None) = IsShut file
IsHead file (Ok (Some head)) = Names file head
IsHead file (Err e) = IsHeadErr file e

-- why a file with a known head isn't taken up: the base that it names reaches past the end less one byte
abbrev pub IsResumeErr : List ℕ → ℕ → FileErr → Type 0
IsResumeErr file base_len DiskFault = Unit {0}
IsResumeErr file base_len NoMemory = ⊥
IsResumeErr file base_len (NewerFormat found) = ⊥
IsResumeErr file base_len (Damaged Magic) = ⊥
IsResumeErr file base_len (Damaged (BaseForm at)) = ⊥
IsResumeErr file base_len (Damaged (Base kept found)) = ⊥
IsResumeErr file base_len (Damaged (Length at kept found)) = (at ≡ 18) × (kept ≡ base_len) × (found ≡ length file - 65) × (found < kept)
IsResumeErr file base_len (Damaged (Entry jsn)) = ⊥
IsResumeErr file base_len (Damaged (Root block kept found)) = ⊥
IsResumeErr file base_len (Damaged (Content jsn kept found)) = ⊥

-- why the base of a file isn't taken: it hasn't the digest that the head names
abbrev pub IsBaseErr : List ℕ → List ℕ → FileErr → Type 0
IsBaseErr base digest DiskFault = Unit {0}
IsBaseErr base digest NoMemory = Unit {0}
IsBaseErr base digest (NewerFormat found) = ⊥
IsBaseErr base digest (Damaged Magic) = ⊥
IsBaseErr base digest (Damaged (BaseForm at)) = ⊥
IsBaseErr base digest (Damaged (Base kept found)) = (1 ≤ length base) × (kept.0 ≡ digest) × (found.0 ≡ digest_of base) × (found.0 ≢ kept.0)
IsBaseErr base digest (Damaged (Length at kept found)) = ⊥
IsBaseErr base digest (Damaged (Entry jsn)) = ⊥
IsBaseErr base digest (Damaged (Root block kept found)) = ⊥
IsBaseErr base digest (Damaged (Content jsn kept found)) = ⊥

-- Where a file begins, with a base or with journal 0, and which blocks may stand behind it.
use Rattle.std.specs.Prelude.{◌≡◌, ◌≢◌, ℕ, ◌-◌, ◌≤◌, true, All, List, [], length, take, drop, Option, Some, None, Err, ⊤}
use Rattle.block_file.specs.Head.{HasHead, digest_of, number_at}
use Rattle.journal_record.specs.Entry.{Entry}
use Rattle.ledger_model.specs.Behind.{AreBehind, has_own_purge}
use Rattle.ledger_bytes.specs.declared.failure.Bad.{Bad}
use Rattle.ledger_bytes.specs.declared.failure.Bad.TheVariants as bad
use Rattle.ledger_model.specs.Bases as model
use Rattle.ledger_model.specs.History.{History, journals_of}
use Rattle.ledger_model.specs.Lawful.{IsBlock, IsFounded}
use Rattle.pseudo_genesis.specs.Bases.{IsBase, HasWidths, base_spelling}
use Rattle.pseudo_genesis.specs.Reading.{base_of}
use Rattle.pseudo_genesis.specs.declared.base.Base.{Base}

-- a base that keeps its rules, where there is one
abbrev pub IsDecoded : Option Base → Type 0
IsDecoded None = ⊤
IsDecoded (Some b) = IsBase b × HasWidths b

-- the base is that of this history at the base's point; where there is no base nothing is asked
abbrev pub IsBaseOf : Option Base → History → Type 0
IsBaseOf None h = ⊤
IsBaseOf (Some b) h = model.base_of h b.point ≡ b

-- how many blocks stand in front of those that are read: as many as the base says, or none
abbrev pub blocks_before : Option Base → ℕ
blocks_before None = 0
blocks_before (Some b) = b.blocks

-- where no base stands before them, the first of these journals is journal 0, and its content has its digest
abbrev pub AreFounded : Option Base → List Entry → Type 0
AreFounded None journals = IsFounded journals
AreFounded (Some b) journals = ⊤

-- blocks that may stand behind this base, or be a whole ledger's
pub record AreLegal (start : Option Base) (blocks : List (List Entry)) : Type 0 where
  pub next : AreBehind start [] (journals_of blocks)
  pub blocks_are : All IsBlock blocks
  pub founded : AreFounded start (journals_of blocks)

-- behind a base stands the purge to its very point; without a base nothing has to
abbrev pub HasOwnPurge : Option Base → List Entry → Type 0
HasOwnPurge start journals = has_own_purge start journals ≡ true

-- ---- in a file

-- the base of an open file, by the length that its head names
abbrev pub base_in : List ℕ → List ℕ
base_in file = take (number_at 18 file) (drop 64 file)

-- the base that an open file's head names is there, and a byte behind it
abbrev pub HasBase : List ℕ → Type 0
HasBase file = number_at 18 file ≤ length file - 65

-- the file has a base, whose digest is the one that its head names
pub record HasDigest (file : List ℕ) : Type 0 where
  pub some : number_at 18 file ≢ 0
  pub there : HasBase file
  pub digest : take 32 (drop 26 file) ≡ digest_of (base_in file)

-- a file with a head that is known, which begins with this base, or names none
abbrev pub IsStart : List ℕ → Option Base → Type 0
IsStart file None = HasHead file × (number_at 18 file ≡ 0)
IsStart file (Some b) = HasHead file × HasDigest file × IsDecoded (Some b) × (base_in file ≡ base_spelling b)

-- where the bytes of a base break, as it is told; at 0 where they are of a newer version
abbrev pub IsFormErr : Bad → ℕ → Type 0
IsFormErr (bad.Short at) place = place ≡ at
IsFormErr (bad.Trailing at) place = place ≡ at
IsFormErr (bad.BadKind found) place = ⊥
IsFormErr (bad.BadFixedField at) place = place ≡ at
IsFormErr (bad.NewerFormat found) place = place ≡ 0
IsFormErr bad.TooLong place = ⊥

-- the bytes of a base don't decode, and break at this place
abbrev pub IsBadForm : List ℕ → ℕ → Type 0
IsBadForm bytes place = (e : Bad) × (base_of bytes ≡ Err e) × IsFormErr e place

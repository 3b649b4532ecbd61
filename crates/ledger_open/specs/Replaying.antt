-- The journals of a block, taken into a book one after the other.
use Rattle.std.specs.Prelude.{◌≡◌, ℕ, ◌+◌, ◌<◌, ◌≤◌, false, All, List, [], ◌∷◌, ◌++◌, map, length, take, get_or, nat_lt, Option}
use Rattle.block_file.specs.declared.block.RecordAt.{RecordAt}
use Rattle.block_file.specs.declared.failure.Damage.{Damage}
use Rattle.block_file.specs.declared.failure.Damage.TheVariants.{Magic, BaseForm, Base, Length, Entry as Entries, Root, Content}
use Rattle.journal_record.specs.Blocks.{leaves_of}
use Rattle.journal_record.specs.Entry.{Entry}
use Rattle.ledger_model.specs.Behind.{next_number, IsNextBehind, AreBehind}
use Rattle.ledger_book.specs.Books.{Kept, Stands}
use Rattle.ledger_book.specs.Reading.{StandsBehind}
use Rattle.ledger_model.specs.History.{History, journals, journals_of}
use Rattle.ledger_model.specs.Lawful.{AreLawful, IsBlock}
use Rattle.pseudo_genesis.specs.declared.base.Base.{Base as BaseRecord}
use Rattle.ledger_open.specs.Damages.{CanShare, IsNotNext, IsOtherRoot}
use Rattle.ledger_open.specs.Standing.{Parts, SameButHidden, floor_from}
use Rattle.ledger_open.specs.Starts.{IsBaseOf, IsDecoded, blocks_before}

-- these journals have the headers that were read
abbrev pub Headed : List Entry → List RecordAt → Type 0
Headed es rs = map (λ e. e.header) es ≡ map (λ r. r.header) rs

-- This history goes on from the base, or begins, with blocks and waiting journals of which these have the headers; and where
-- one of them is journal 0, its content too. So all that a book keeps of them is told.
pub record GoesAs (start : Option BaseRecord) (blocks : List (List Entry)) (es : List Entry) (h : History) : Type 0 where
  pub lawful : AreLawful (journals h)
  pub blocks_are : All IsBlock h.closed
  pub parts : Parts (floor_from start).first h
  pub base : IsBaseOf start h
  pub same : SameButHidden (λ n. nat_lt 0 n) (λ n. false) parts.kept blocks
  pub waits : map (λ e. e.header) h.waiting ≡ map (λ e. e.header) es

-- The book keeps this base, or none, these blocks and journals that wait behind them: it stands for each history that goes on
-- so, and for what stands behind the base where nobody knows one.
pub record Goes (k : Kept) (start : Option BaseRecord) (blocks : List (List Entry)) (es : List Entry) : Type 0 where
  pub base : IsDecoded start
  pub some : 1 ≤ next_number start (journals_of blocks)
  pub stands : (h : History) → GoesAs start blocks es h → Stands k h
  pub behind : StandsBehind k start (journals_of blocks ++ es)
  pub number : k.blocks ≡ blocks_before start + length blocks

-- the first journal that isn't the next one has this number
pub record IsOther (start : Option BaseRecord) (before es : List Entry) (jsn : ℕ) : Type 0 where
  pub index : ℕ
  pub inside : index < length es
  pub number : jsn ≡ next_number start before + index
  pub next : AreBehind start before (take index es)
  pub other : (e : Entry) → IsNextBehind start (before ++ take index es) (get_or es index e).header → ⊥

-- each of these journals, behind the blocks, is the next one, and is in the book now
pub record TakesAllOf (new : Kept) (start : Option BaseRecord) (blocks : List (List Entry)) (es : List Entry) : Type 0 where
  pub goes : Goes new start blocks es
  pub next : AreBehind start (journals_of blocks) es

-- a block more was taken: its journals are the next ones and can stand in one block, and its root is theirs
pub record TakesBlock (new : Kept) (start : Option BaseRecord) (blocks : List (List Entry)) (es : List Entry) (root : List ℕ) : Type 0 where
  pub goes : Goes new start (blocks ++ es ∷ []) []
  pub settled : new.size ≡ new.sealed
  pub next : AreBehind start (journals_of blocks) es
  pub share : CanShare es
  pub root_is : root ≡ (floor_from start).root (leaves_of (journals_of blocks) ++ leaves_of es)

-- why a block of these journals under this root isn't taken behind these blocks
abbrev pub IsBadBlock : Option BaseRecord → List (List Entry) → List Entry → List ℕ → Damage → Type 0
IsBadBlock start blocks es root (Entries jsn) = IsNotNext start (journals_of blocks) es jsn
IsBadBlock start blocks es root (Root block kept found) =
    (block ≡ blocks_before start + length blocks) × (kept.0 ≡ root) × IsOtherRoot start blocks es kept.0 found.0
IsBadBlock start blocks es root Magic = ⊥
IsBadBlock start blocks es root (BaseForm place) = ⊥
IsBadBlock start blocks es root (Base kept found) = ⊥
IsBadBlock start blocks es root (Length place kept found) = ⊥
IsBadBlock start blocks es root (Content jsn kept found) = ⊥

-- What is checked of each journal of a dump as it is read, by the base in front and the journals before it.
use Rattle.std.specs.Prelude.{◌≡◌, ℕ, List, [], ◌∷◌, ◌++◌, Option, ⊤}
use Rattle.journal_record.specs.Entry.{Entry}
use Rattle.journal_record.specs.Items.{Item}
use Rattle.pseudo_genesis.specs.declared.base.Base.{Base}
use Rattle.ledger_model.specs.Behind.{IsNextBehind}
use Rattle.ledger_model.specs.Scheme.{Scheme}
use Rattle.audit_dump.specs.Approvals.{IsPlacedBy}
use Rattle.audit_dump.specs.Contents.{IsKeptWhole}
use Rattle.audit_dump.specs.Known.{journal_of, journals_of}

-- a check that is made of a journal as it is read
pub data Early : Type 0 where
  -- it may be the next one
  of_order : Early
  -- its content and its who are those that its header names
  of_parts : Early
  -- those placed it who had to
  of_approvals : Early

-- a journal passes all of them
pub record IsGood (scheme : Scheme) (id : List ℕ) (start : Option Base) (before : List Entry) (item : Item) : Type 0 where
  pub next : IsNextBehind start before item.header
  pub whole : IsKeptWhole item
  pub placed : IsPlacedBy scheme id start before item item.header.kind

-- journals that pass them one after the other
abbrev pub AreGood : Scheme → List ℕ → Option Base → List Entry → List Item → Type 0
AreGood scheme id start before [] = ⊤
AreGood scheme id start before (item ∷ items) = IsGood scheme id start before item × AreGood scheme id start (before ++ journal_of item ∷ []) items

-- a check is the first of them that a journal fails
abbrev pub FailsBy : Scheme → List ℕ → Option Base → List Entry → Item → Early → Type 0
FailsBy scheme id start before item of_order = IsNextBehind start before item.header → ⊥
FailsBy scheme id start before item of_parts = IsNextBehind start before item.header × (IsKeptWhole item → ⊥)
FailsBy scheme id start before item of_approvals =
    IsNextBehind start before item.header × IsKeptWhole item × (IsPlacedBy scheme id start before item item.header.kind → ⊥)

-- The first journal of a dump that fails, and by which check: those that are read before it pass, and it fails that check first.
pub record IsFirstFailing (scheme : Scheme) (id : List ℕ) (start : Option Base) (items read : List Item) (check : Early) : Type 0 where
  pub item : Item
  pub more : List Item
  pub items_are : items ≡ read ++ item ∷ more
  pub passed : AreGood scheme id start [] read
  pub fails : FailsBy scheme id start (journals_of read) item check

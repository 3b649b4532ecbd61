-- What an auditor keeps between the journals of a dump, and what it tells of the next one.
use Rattle.std.specs.Prelude.{◌≡◌, ℕ, ◌≤◌, Bool, true, false, if◌then◌else◌, List, [], ◌∷◌, ◌++◌, Option, Some, None, Result, Ok, Err}
use Rattle.journal_record.specs.Entry.{Entry}
use Rattle.journal_record.specs.Items.{Item}
use Rattle.journal_record.specs.Members.{keys}
use Rattle.journal_record.specs.declared.header.Header.{Header}
use Rattle.journal_record.specs.declared.member.Member.{Member}
use Rattle.merkle_tree.specs.declared.head.Head.{Head}
use Rattle.pseudo_genesis.specs.declared.base.Base.{Base}
use Rattle.ledger_model.specs.Behind.{IsNextBehind, next_number}
use Rattle.ledger_model.specs.Members.{is_member}
use Rattle.ledger_model.specs.Scheme.{Scheme}
use Rattle.ledger_book.specs.Books.{Kept}
use Rattle.ledger_book.specs.Reading.{StandsBehind}
use Rattle.audit_dump.specs.Known.{journal_of, keys_behind, root_behind}
use Rattle.audit_dump.specs.Reading.{Early, FailsBy, IsGood, of_approvals, of_order, of_parts}
use Rattle.audit_dump.specs.declared.passing.EarlyCheck.{EarlyCheck}
use Rattle.audit_dump.specs.declared.passing.EarlyCheck.TheVariants as checks

-- what is kept: the book of the journals, and the members
pub record Passed : Type 0 where
  pub book : Kept
  pub members : List Member

-- this is kept behind a base and these journals
pub record StandsAfter (p : Passed) (start : Option Base) (before : List Entry) : Type 0 where
  pub book : StandsBehind p.book start before
  pub keys_are : keys p.members ≡ keys_behind start before

-- it is kept behind a base and some journals
pub record StandsSomewhere (p : Passed) : Type 0 where
  pub start : Option Base
  pub before : List Entry
  pub stands : StandsAfter p start before

-- the size and the root of all journals
abbrev pub IsHeadOver : Option Base → List Entry → Option Head → Type 0
IsHeadOver start before None = ⊥
IsHeadOver start before (Some head) = (head.size ≡ next_number start before) × (head.root.0 ≡ root_behind start before head.size)

-- the check that is told
abbrev pub early_of : EarlyCheck → Early
early_of checks.Order = of_order
early_of checks.Parts = of_parts
early_of checks.Approvals = of_approvals

-- what is told of a journal: it is good and is kept behind those before, or it fails by this check first
abbrev pub IsToldOf : Scheme → List ℕ → Option Base → List Entry → Item → Option EarlyCheck → Passed → Type 0
IsToldOf scheme id start before item None new = IsGood scheme id start before item × StandsAfter new start (before ++ journal_of item ∷ [])
IsToldOf scheme id start before item (Some check) new = FailsBy scheme id start before item (early_of check)

-- what is told of journal 0, which stands behind nothing
abbrev pub IsToldOfFirst : Scheme → List ℕ → Item → Result Passed EarlyCheck → Type 0
IsToldOfFirst scheme id item (Ok new) = IsGood scheme id None [] item × StandsAfter new None (journal_of item ∷ [])
IsToldOfFirst scheme id item (Err check) = FailsBy scheme id None [] item (early_of check)

-- a book takes a header as that of the next journal, or it isn't
abbrev pub TakesNext : Kept → Header → Kept → Bool → Type 0
TakesNext old header new true =
    (start : Option Base) (before : List Entry) → StandsBehind old start before
    → IsNextBehind start before header × (1 ≤ next_number start before) × ((journal : Entry) → journal.header ≡ header → StandsBehind new start (before ++ journal ∷ []))
TakesNext old header new false = (start : Option Base) (before : List Entry) → StandsBehind old start before → IsNextBehind start before header → ⊥

-- the member that a journal with this header admits, where it admits one
abbrev pub admitted_by : Header → List Member
admitted_by header = if is_member header.kind then record { key = header.link; jsn = header.jsn } ∷ [] else []

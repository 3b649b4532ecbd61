-- What is kept of the journals of a dump as they are read, and how the reading of them ends.
use Rattle.std.specs.Prelude.{◌≡◌, ℕ, ◌+◌, ◌<◌, ◌≤◌, ◌^◌, List, [], ◌∷◌, ◌++◌, length, take, All, Option, Some, None, ⊤}
use Rattle.std.specs.List.{flat_map, list_any}
use Rattle.sha2.specs.Sha256.{sha256}
use Rattle.ledger_bytes.specs.declared.digest.Digest.{Digest}
use Rattle.ledger_io.specs.Outside.{SourceState}
use Rattle.ledger_io.specs.Windows.{Seen}
use Rattle.journal_record.specs.Entry.{Entry}
use Rattle.journal_record.specs.Items.{Item, IsItem, item_text}
use Rattle.pseudo_genesis.specs.declared.base.Base.{Base}
use Rattle.ledger_model.specs.Behind.{IsNextBehind, first_of}
use Rattle.ledger_model.specs.Scheme.{Scheme}
use Rattle.dump_model.specs.Checks.{makes_base}
use Rattle.audit_dump.specs.Claims.{claims_of}
use Rattle.audit_dump.specs.Ending.{IsOwnId}
use Rattle.audit_dump.specs.Fronts.{HasReadOn}
use Rattle.audit_dump.specs.Known.{journals_of, root_behind}
use Rattle.audit_dump.specs.Notes.{AreInOrder, AreMarksOf, IsOfBase}
use Rattle.audit_dump.specs.Passing.{Passed, StandsAfter, early_of}
use Rattle.audit_dump.specs.Reading.{AreGood, FailsBy, IsGood}
use Rattle.audit_dump.specs.Walking.{BreaksNow}
use Rattle.audit_dump.specs.declared.base_purge.BasePurge.{BasePurge}
use Rattle.audit_dump.specs.declared.front.Front.{Front}
use Rattle.audit_dump.specs.declared.journals.Journals.{Journals}
use Rattle.audit_dump.specs.declared.passing.EarlyCheck.{EarlyCheck}
use Rattle.audit_dump.specs.declared.reading.Outcome.{Outcome}
use Rattle.audit_dump.specs.declared.reading.Outcome.TheVariants as outcome

-- ---- parts

-- what the checks of the next journal need stands behind these; it is nothing where neither a base nor a journal is in front
abbrev pub StandsAt : Option Passed → Option Base → List Item → Type 0
StandsAt None start items = (start ≡ None) × (items ≡ [])
StandsAt (Some standing) start items = StandsAfter standing start (journals_of items)

-- the id of the ledger that a base and these journals show, where there is a base or a journal
abbrev pub IsOwnKept : Option Digest → Option Base → List Item → Type 0
IsOwnKept None start items = (start ≡ None) × (items ≡ [])
IsOwnKept (Some own) start items = IsOwnId start items own

-- whether the purge that made the base is among these journals; without a base none is looked for
abbrev pub IsSought : Option BasePurge → Option Base → List Item → Type 0
IsSought None None items = ⊤
IsSought None (Some base) items = ⊥
IsSought (Some purge) None items = ⊥
IsSought (Some purge) (Some base) items = IsOfBase base purge × (purge.found ≡ list_any (makes_base sha256 base) items)

-- ---- all that is kept

-- a mark is kept of each of these journals, of which there are no more than a ledger may have
pub record AreMarked (start : Option Base) (items : List Item) (journals : Journals) : Type 0 where
  pub first : journals.erasures.first ≡ first_of start
  pub marks : AreMarksOf items journals.erasures
  pub few : first_of start + length items ≤ 2 ^ 32

-- what the counts of a report need: besides, the claims of these journals
pub record AreCounted (id : Digest) (start : Option Base) (items : List Item) (journals : Journals) : Type 0 where
  pub marked : AreMarked start items journals
  pub claims : journals.claims ≡ claims_of id.0 start items

-- this is kept of these journals of a dump with this id, which stand behind this base, but for their claims
pub record AreHeld (id : Digest) (start : Option Base) (items : List Item) (journals : Journals) : Type 0 where
  pub id_is : journals.id ≡ id
  pub own : IsOwnKept journals.own start items
  pub standing : StandsAt journals.standing start items
  pub order : AreInOrder (first_of start) items
  pub purge : IsSought journals.purge start items
  pub marked : AreMarked start items journals

-- this is kept of them, with their claims
pub record AreKept (id : Digest) (start : Option Base) (items : List Item) (journals : Journals) : Type 0 where
  pub held : AreHeld id start items journals
  pub claims : journals.claims ≡ claims_of id.0 start items

-- it is kept of some journals
pub record AreKeptSomewhere (journals : Journals) : Type 0 where
  pub id : Digest
  pub start : Option Base
  pub items : List Item
  pub kept : AreKept id start items journals

-- the same, where one more journal passed its checks and isn't noted yet
pub record AreOneBehind (id : Digest) (start : Option Base) (items : List Item) (item : Item) (journals : Journals) : Type 0 where
  pub id_is : journals.id ≡ id
  pub own : IsOwnKept journals.own start items
  pub standing : StandsAt journals.standing start (items ++ item ∷ [])
  pub next : IsNextBehind start (journals_of items) item.header
  pub order : AreInOrder (first_of start) items
  pub purge : IsSought journals.purge start items
  pub counted : AreCounted id start items journals

-- the root in front of a number is known, and it is this one
abbrev pub IsRootKnown : Option Base → List Entry → ℕ → Option Digest → Type 0
IsRootKnown start journals p None = ⊥
IsRootKnown start journals p (Some root) = root.0 ≡ root_behind start journals p

-- ---- the next journal

-- what is told of the next journal: it is good and its checks stand behind it, or it fails by this check first
abbrev pub IsToldAt : Scheme → List ℕ → Option Base → List Item → Item → Option EarlyCheck → Option Passed → Type 0
IsToldAt scheme id start items item None new = IsGood scheme id start (journals_of items) item × StandsAt new start (items ++ item ∷ [])
IsToldAt scheme id start items item (Some check) new = FailsBy scheme id start (journals_of items) item (early_of check)

-- what is told of it: it is good and kept behind the others, or it fails by this check first and isn't counted
abbrev pub IsToldNext : Scheme → Digest → Option Base → List Item → Item → Option EarlyCheck → Journals → Type 0
IsToldNext scheme id start items item None new = IsGood scheme id.0 start (journals_of items) item × AreKept id start (items ++ item ∷ []) new
IsToldNext scheme id start items item (Some check) new = FailsBy scheme id.0 start (journals_of items) item (early_of check) × AreCounted id start items new

-- bytes are those of a journal
abbrev pub IsOfItem : List ℕ → Type 0
IsOfItem bytes = (item : Item) × IsItem item × (bytes ≡ item_text item)

-- the same of the journal that these bytes are
abbrev pub IsToldIn : Scheme → Digest → Option Base → List Item → List ℕ → Option EarlyCheck → Journals → Type 0
IsToldIn scheme id start items bytes told new = (item : Item) × IsItem item × (bytes ≡ item_text item) × IsToldNext scheme id start items item told new

-- ---- while they are read

-- Journals were read through a window, and nothing else: they are what was held and what was read since, but for what is held now.
-- Example: nothing was held, and 500 bytes were read. Behind two journals of 200 bytes the window holds 100.
pub record HasWalked (before after : SourceState) (old new : Seen) (items : List Item) : Type 0 where
  pub bytes : List ℕ
  pub read_bytes : HasReadOn before after old new bytes
  pub parts : old.held ++ bytes ≡ flat_map item_text items ++ new.held
  pub each : All IsItem items

-- what a window holds begins with a journal that fails this check first, behind these
pub record FailsNow (scheme : Scheme) (front : Front) (w : Seen) (items : List Item) (check : EarlyCheck) : Type 0 where
  pub len : ℕ
  pub item : Item
  pub layout : IsItem item
  pub held : (len ≤ length w.held) × (take len w.held ≡ item_text item)
  pub fails : FailsBy scheme front.id.0 front.base (journals_of items) item (early_of check)

-- how the reading of so many journals ends behind these: with all of them, or at a break, or at a journal that fails
abbrev pub EndsBy : Scheme → Front → ℕ → Seen → List Item → Journals → Outcome → Type 0
EndsBy scheme front count w items journals outcome.All = (length items ≡ count) × AreKept front.id front.base items journals
EndsBy scheme front count w items journals (outcome.Broken broken) = (length items < count) × BreaksNow w broken
EndsBy scheme front count w items journals (outcome.Failed check) = (length items < count) × FailsNow scheme front w items check

-- the journals that were read behind a front, each of which passes, and how that ends
pub record HasReadJournals (scheme : Scheme) (front : Front) (count : ℕ) (before after : SourceState) (old new : Seen) (journals : Journals) (outcome : Outcome) : Type 0 where
  pub items : List Item
  pub walked : HasWalked before after old new items
  pub good : AreGood scheme front.id.0 front.base [] items
  pub counted : AreCounted front.id front.base items journals
  pub ends : EndsBy scheme front count new items journals outcome

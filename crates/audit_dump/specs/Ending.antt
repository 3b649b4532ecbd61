-- What is checked of a dump once all of it was read, against what the auditor was given.
use Rattle.std.specs.Prelude.{◌≡◌, ℕ, ◌<◌, List, [], ◌∷◌, ◌++◌, length, All, Option, Some, None, slice_get}
use Rattle.sha2.specs.Sha256.{sha256}
use Rattle.ledger_bytes.specs.declared.digest.Digest.{Digest}
use Rattle.journal_record.specs.Items.{Item}
use Rattle.journal_record.specs.declared.header.Kind.TheVariants as kind
use Rattle.merkle_tree.specs.declared.head.Head.{Head}
use Rattle.pseudo_genesis.specs.declared.base.Base.{Base}
use Rattle.time_peg.specs.Entries.{NeverFalls, entry_of, peg_string}
use Rattle.ledger_model.specs.History.{leaf_digest}
use Rattle.dump_model.specs.Checks.{BaseIsPurged, ErasedAreHidden, HasLedgerHead, HasNotaryHead, is_erased, is_hidden}
use Rattle.dump_model.specs.Dumps.{Dump, first_of}
use Rattle.audit_dump.specs.Known.{journal_of, journals_of, root_behind}
pub use Rattle.audit_dump.specs.declared.late.Given.{Given}

-- ---- whose dump it is

-- an id is that of the ledger that a dump shows: the leaf digest of journal 0, or the id that the base keeps of it
abbrev pub IsOwnId : Option Base → List Item → Digest → Type 0
IsOwnId None [] id = ⊥
IsOwnId None (item ∷ more) id = id.0 ≡ leaf_digest (journal_of item)
IsOwnId (Some base) items id = id.0 ≡ base.id.0

-- the dump's id is the given one, and it is that of the ledger that the dump shows
pub record HasId (dump : Dump) (given : Digest) : Type 0 where
  pub given_is : dump.id.0 ≡ given.0
  pub own : IsOwnId dump.base dump.items dump.id

-- ---- times

-- what the notary stamps for the first m journals: the digest of the dump's id, of m, and of the root over them
abbrev pub peg_of : Dump → ℕ → List ℕ
peg_of dump m = sha256 (peg_string dump.id.0 m (root_behind dump.base (journals_of dump.items) m))

-- Where a journal is a time journal, the notary's entry with its index is the one that it tells: its time, the peg over all journals
-- in front of it, and its salt.
abbrev pub HasItsEntry : Dump → Item → Type 0
HasItsEntry dump item =
    item.header.kind ≡ kind.Time
    → slice_get dump.entries item.header.a ≡ Some (entry_of item.header.b (peg_of dump item.header.jsn) item.header.link.0)

-- the entries have the given head, and their times never fall
pub record IsNotaryList (dump : Dump) (given : Head) : Type 0 where
  pub head : HasNotaryHead sha256 dump given
  pub times : NeverFalls 0 dump.entries

-- ---- the checks

-- a check that is made once all was read
pub data Late : Type 0 where
  -- the dump is of the given ledger
  of_id : Late
  -- contents are missing exactly where an occult hides them
  of_erasures : Late
  -- the purge that made the base is in the dump
  of_purge : Late
  -- the dump has the given head of the ledger
  of_ledger : Late
  -- the time journals are the notary's entries
  of_times : Late
  -- the entries are the notary's list
  of_notary : Late

-- the number of such a check, by which they are made in order
abbrev pub late_number : Late → ℕ
late_number of_id = 2
late_number of_erasures = 6
late_number of_purge = 7
late_number of_ledger = 8
late_number of_times = 9
late_number of_notary = 10

-- a dump passes such a check
abbrev pub Passes : Given → Dump → Late → Type 0
Passes given dump of_id = HasId dump given.id
Passes given dump of_erasures = ErasedAreHidden dump
Passes given dump of_purge = BaseIsPurged sha256 dump
Passes given dump of_ledger = HasLedgerHead sha256 dump given.ledger
Passes given dump of_times = All (HasItsEntry dump) dump.items
Passes given dump of_notary = IsNotaryList dump given.notary

-- ---- where they fail

-- the first of some journals of which something doesn't hold has this number
pub record IsFirstWithout (Holds : Item → Type 0) (items : List Item) (number : ℕ) : Type 0 where
  pub front : List Item
  pub item : Item
  pub more : List Item
  pub items_are : items ≡ front ++ item ∷ more
  pub passed : All Holds front
  pub fails : Holds item → ⊥
  pub number_is : number ≡ item.header.jsn

-- The place that is told where a dump fails such a check: the first journal that fails it, the point, or the size that the dump
-- tells. Where the dump is of another ledger, that is the beginning.
abbrev pub IsPlaceOf : Dump → Late → ℕ → Type 0
IsPlaceOf dump of_id place = place ≡ 0
IsPlaceOf dump of_erasures place = IsFirstWithout (λ item. is_erased item ≡ is_hidden dump.items item) dump.items place
IsPlaceOf dump of_purge place = place ≡ first_of dump.base
IsPlaceOf dump of_ledger place = place ≡ dump.head.size
IsPlaceOf dump of_times place = IsFirstWithout (HasItsEntry dump) dump.items place
IsPlaceOf dump of_notary place = place ≡ length dump.entries

-- a check is the first of them that a dump fails, and this is the place
pub record IsLateFault (given : Given) (dump : Dump) (check : Late) (place : ℕ) : Type 0 where
  pub passed : (other : Late) → late_number other < late_number check → Passes given dump other
  pub fails : Passes given dump check → ⊥
  pub place_is : IsPlaceOf dump check place

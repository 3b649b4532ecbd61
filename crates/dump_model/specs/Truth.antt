-- When a dump is true of a ledger and a notary's list, and the two strings that it shows where it isn't.
use Rattle.std.specs.Prelude.{◌≡◌, ◌⊎◌, ℕ, ◌<◌, ◌≤◌, ◌↔◌, List, [], length, map, take, drop, get_or, All, Option, None, IfSome}
use Rattle.std.specs.Option.{option_or}
use Rattle.journal_record.specs.Header.{spelling, HasWidths}
use Rattle.journal_record.specs.Rules.{IsHeader}
use Rattle.journal_record.specs.declared.header.Header.{Header}
use Rattle.journal_record.specs.declared.header.Kind.TheVariants as kind
use Rattle.pseudo_genesis.specs.declared.base.Base.{Base}
use Rattle.tree_model.specs.Tree.{Hash, leaf, mth}
use Rattle.tree_model.specs.Peaks.{peaks}
use Rattle.tree_model.specs.TreeClash.{tree_clash}
use Rattle.dump_model.specs.Dumps.{Dump, first_of, peaks_of, leaves_of}
use Rattle.dump_model.specs.Checks.{digest_of_base}

-- A ledger, by the spelled headers of all its journals, has one from this number on of which something holds. The header keeps the
-- rules of its layout, so it is the only one that is spelled so.
pub record HasJournal (headers : List (List ℕ)) (first : ℕ) (IsSo : Header → Type 0) : Type 0 where
  pub number : ℕ
  pub header : Header
  pub behind : first ≤ number
  pub within : number < length headers
  pub stands : get_or headers number [] ≡ spelling header
  pub rules : IsHeader header
  pub widths : HasWidths header
  pub so : IsSo header

-- a header is that of an occult by the clue of the record with that other header, which stands in front of it
pub record IsClueOccultOf (target header : Header) : Type 0 where
  pub kind_is : header.kind ≡ kind.ClueOccult
  pub target_is : target.kind ≡ kind.Content
  pub before : target.jsn < header.jsn
  pub clue_is : header.link.0 ≡ target.clue.0

-- a header is that of an occult that hides the content of the journal with that other header: it names its number, or its clue
abbrev pub IsOccultOf : Header → Header → Type 0
IsOccultOf target header = ((header.kind ≡ kind.Occult) × (header.a ≡ target.jsn)) ⊎ IsClueOccultOf target header

-- a header is that of the purge that made a base: it names the base's point and links the base's digest
abbrev pub IsPurgeOf : Hash → Base → Header → Type 0
IsPurgeOf hash base header = (header.kind ≡ kind.Purge) × (header.a ≡ base.point) × (header.link.0 ≡ digest_of_base hash base)

-- A dump is true of a ledger, by the spelled headers of all its journals, and of a notary's list. What it says of them is so, and it
-- leaves nothing out: it shows every journal from its first one on, its peaks are those over all journals in front of that one, and
-- its entries are all of the notary's.
-- Example: where journal 2 is left out of the dump of a ledger with four journals, it is true of no ledger with four journals.
pub record IsTrueDump (hash : Hash) (headers entries : List (List ℕ)) (dump : Dump) : Type 0 where
  pub within : first_of dump.base ≤ length headers
  pub headers_are : leaves_of dump ≡ drop (first_of dump.base) headers
  pub peaks_are : peaks_of dump.base ≡ peaks hash (map (leaf hash) (take (first_of dump.base) headers))
  pub size_is : dump.head.size ≡ length headers
  pub root_is : dump.head.root.0 ≡ mth hash headers
  pub entries_are : dump.entries ≡ entries
  pub notary_root_is : dump.notary_root.0 ≡ mth hash entries
  -- a content is missing exactly where a journal of the ledger, from the dump's first on, hides it
  pub erased : All (λ item. (item.body ≡ None) ↔ HasJournal headers (first_of dump.base) (IsOccultOf item.header)) dump.items
  -- where journals were given up, a journal of the ledger is the purge that made the base
  pub purged : IfSome dump.base (λ base. HasJournal headers (first_of dump.base) (IsPurgeOf hash base))

-- the two strings at the first node or leaf, from the root down and left before right, at which a dump differs from a ledger; and
-- where there is none, at which it differs from a notary's list
abbrev pub dump_clash : Hash → List (List ℕ) → List (List ℕ) → Dump → Option (List ℕ × List ℕ)
dump_clash hash headers entries dump =
    option_or (tree_clash hash (peaks_of dump.base) (first_of dump.base) (leaves_of dump) headers) (tree_clash hash [] 0 dump.entries entries)

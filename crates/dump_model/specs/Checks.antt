-- What is checked of a whole dump, under the heads of a ledger and a notary.
use Rattle.std.specs.Prelude.{◌≡◌, ℕ, ◌+◌, ◌==◌, ◌&&◌, Bool, true, List, ◌∷◌, length, All, IfSome, bytes_eq, is_none}
use Rattle.std.specs.List.{list_any}
use Rattle.ledger_bytes.specs.Tags.{byte_of}
use Rattle.ledger_bytes.specs.declared.tag.Tag.TheVariants as tag
use Rattle.journal_record.specs.Items.{Item}
use Rattle.journal_record.specs.declared.header.Header.{Header}
pub use Rattle.ledger_model.specs.History.{is_purge}
pub use Rattle.ledger_model.specs.Targets.{is_occult, hides_as}
use Rattle.merkle_tree.specs.declared.head.Head.{Head}
use Rattle.pseudo_genesis.specs.Bases.{base_spelling}
use Rattle.pseudo_genesis.specs.declared.base.Base.{Base}
use Rattle.tree_model.specs.Tree.{Hash, mth}
use Rattle.dump_model.specs.Dumps.{Dump, first_of, root_of}

-- ---- what was erased

-- whether a journal hides the content of the one with this header
abbrev pub hides : Header → Item → Bool
hides target item = hides_as item.header.kind item.header target

-- whether one of some journals hides the content of a journal
abbrev pub is_hidden : List Item → Item → Bool
is_hidden items target = list_any (hides target.header) items

-- whether the content of a journal isn't there
abbrev pub is_erased : Item → Bool
is_erased item = is_none item.body

-- A content is missing exactly where a journal of the dump hides it: none is left out without one, and none is shown that was to be
-- erased.
-- Example: record 5 without its content is in order where journal 9 is an occult of 5, or one by the clue of record 5, and record 5
-- with its content isn't.
abbrev pub ErasedAreHidden : Dump → Type 0
ErasedAreHidden dump = All (λ item. is_erased item ≡ is_hidden dump.items item) dump.items

-- ---- what was given up

-- the digest of a base
abbrev pub digest_of_base : Hash → Base → List ℕ
digest_of_base hash base = hash (byte_of tag.Base ∷ base_spelling base)

-- whether a journal is the purge that made a base: it names the base's point and links the base's digest
abbrev pub makes_base : Hash → Base → Item → Bool
makes_base hash base item = is_purge item.header.kind && (item.header.a == base.point && bytes_eq item.header.link.0 (digest_of_base hash base))

-- where there is a base, a journal of the dump is the purge that made it
abbrev pub BaseIsPurged : Hash → Dump → Type 0
BaseIsPurged hash dump = IfSome dump.base (λ base. list_any (makes_base hash base) dump.items ≡ true)

-- ---- the heads

-- the size and the root of the dump are those that its peaks and leaves give, and they are the given ones
pub record HasLedgerHead (hash : Hash) (dump : Dump) (head : Head) : Type 0 where
  pub size : first_of dump.base + length dump.items ≡ dump.head.size
  pub given_size : dump.head.size ≡ head.size
  pub root : root_of hash dump ≡ dump.head.root.0
  pub given_root : dump.head.root.0 ≡ head.root.0

-- there are as many entries as given, and they have the root that the dump tells, and this is the given one
pub record HasNotaryHead (hash : Hash) (dump : Dump) (head : Head) : Type 0 where
  pub given_size : length dump.entries ≡ head.size
  pub root : mth hash dump.entries ≡ dump.notary_root.0
  pub given_root : dump.notary_root.0 ≡ head.root.0

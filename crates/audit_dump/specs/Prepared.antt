-- What is made of the next journals of a dump ahead of their turn, by their bytes alone.
use Rattle.std.specs.Prelude.{◌≡◌, ◌↔◌, ◌≤◌, ℕ, List, [], ◌∷◌, ◌++◌, All, length, take, drop, true, IsTrue, Option, slice_get, Result, Ok, Err, ⊤}
use Rattle.std.specs.List.{flat_map}
use Rattle.ledger_bytes.specs.declared.digest.Digest.{Digest}
use Rattle.ledger_io.specs.Outside.{SourceState}
use Rattle.ledger_io.specs.Windows.{Seen}
use Rattle.journal_record.specs.Items.{Item, IsItem, item_text}
use Rattle.journal_record.specs.Members.{is_key_of}
use Rattle.ledger_model.specs.Scheme.{Scheme}
use Rattle.ledger_book.specs.Steps.{IsLeafOf}
use Rattle.audit_dump.specs.Approvals.{IsPlacedRecord}
use Rattle.audit_dump.specs.Contents.{IsKeptWhole}
use Rattle.audit_dump.specs.Fronts.{HasReadOn}
use Rattle.audit_dump.specs.Journals.{IsOfItem}
use Rattle.audit_dump.specs.Walking.{BreaksNow}
use Rattle.audit_dump.specs.declared.preparing.Prepared.{Prepared}
use Rattle.audit_dump.specs.declared.walking.Break.{Break}

-- A key that tells who placed a record: whatever the members' keys are, it is that of the member whom the header names exactly where
-- that member placed the record. Where the record's who shows no key, it is none.
abbrev pub ShowsPlacing : Scheme → List ℕ → Item → Option Digest → Type 0
ShowsPlacing scheme id item key = (known : List (List ℕ)) → (is_key_of key (slice_get known item.header.member) ≡ true) ↔ IsPlacedRecord scheme id known item

-- what is known of a journal by its bytes alone, in the ledger with this id
pub record IsPrepared (scheme : Scheme) (id : List ℕ) (item : Item) (ahead : Prepared) : Type 0 where
  pub leaf : IsLeafOf item.header ahead.leaf
  pub whole : IsTrue ahead.whole ↔ IsKeptWhole item
  pub key : ShowsPlacing scheme id item ahead.key

-- bytes are a journal of which this is known
abbrev pub IsPreparedIn : Scheme → List ℕ → List ℕ → Prepared → Type 0
IsPreparedIn scheme id bytes ahead = (item : Item) × IsItem item × (bytes ≡ item_text item) × IsPrepared scheme id item ahead

-- the same, with how many bytes they are
abbrev pub IsPreparedWhole : Scheme → List ℕ → List ℕ → Prepared → Type 0
IsPreparedWhole scheme id bytes ahead = (ahead.len ≡ length bytes) × IsPreparedIn scheme id bytes ahead

-- bytes begin with these journals, one after the other
pub record AreCut (bytes : List ℕ) (items : List (List ℕ)) : Type 0 where
  pub rest : List ℕ
  pub parts : bytes ≡ flat_map (λ item. item) items ++ rest
  pub each : All IsOfItem items

-- Bytes begin with journals, one after the other, of which this is known.
-- Example: two journals of 200 and 300 bytes stand in front of others. Of the first the length 200 is known, and of the second 300.
abbrev pub ArePrepared : Scheme → List ℕ → List ℕ → List Prepared → Type 0
ArePrepared scheme id bytes [] = ⊤
ArePrepared scheme id bytes (ahead ∷ more) =
    (ahead.len ≤ length bytes) × IsPreparedIn scheme id (take ahead.len bytes) ahead × ArePrepared scheme id (drop ahead.len bytes) more

-- bytes were read behind those that are held, and nothing else
pub record HasReadThere (before after : SourceState) (old new : Seen) : Type 0 where
  pub bytes : List ℕ
  pub read_bytes : HasReadOn before after old new bytes
  pub held : new.held ≡ old.held ++ bytes

-- the next journal: a window holds its bytes, and this is known of it and of these that follow; or it breaks
abbrev pub IsNextPrepared : Scheme → List ℕ → Seen → List Prepared → Result Prepared Break → Type 0
IsNextPrepared scheme id w more (Ok ahead) = ArePrepared scheme id w.held (ahead ∷ more)
IsNextPrepared scheme id w more (Err broken) = BreaksNow w broken

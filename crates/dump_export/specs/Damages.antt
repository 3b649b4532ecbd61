-- When a journal that is to be shown isn't what its header says.
use Rattle.std.specs.Prelude.{◌≡◌, ◌≢◌, ◌⊎◌, ℕ, Bool, false, List, ◌++◌, map, drop, take, slice_get, All, Some}
use Rattle.std.specs.List.{flat_map}
use Rattle.std.specs.Io.KnownBytes.{Appends}
use Rattle.block_file.specs.declared.failure.Damage.{Damage}
use Rattle.block_file.specs.declared.failure.Damage.TheVariants.{Content}
use Rattle.journal_record.specs.Entry.{Entry, content_digest_of, who_digest_of}
use Rattle.journal_record.specs.Items.{item_text}
use Rattle.ledger_bytes.specs.Digests.{digest}
use Rattle.ledger_bytes.specs.declared.digest.Digest.{Digest}
use Rattle.ledger_io.specs.Outside.{SinkState}
use Rattle.ledger_model.specs.History.{History, journals, point}
use Rattle.ledger_model.specs.Targets.{is_hidden}
use Rattle.dump_model.specs.Shown.{shown}

-- the journals that a ledger with this history shows: those from the point in force on
abbrev pub shown_journals : History → List Entry
shown_journals h = drop (point h) (journals h)

-- a content has the digest that its journal's header names, unless it is hidden
abbrev pub IsContentWhole : Bool → Entry → Type 0
IsContentWhole hidden e = hidden ≡ false → content_digest_of e.content ≡ e.header.content_digest.0

-- what is shown of a journal, whose content is hidden or isn't, has the digests that its header names
pub record IsShownWhole (hidden : Bool) (e : Entry) : Type 0 where
  pub content : IsContentWhole hidden e
  pub who : who_digest_of e.who ≡ e.header.who_digest.0

-- a part of the journal with this number is to have one digest and has another, and that is the damage
abbrev pub IsOtherPart : ℕ → Digest → List ℕ → Damage → Type 0
IsOtherPart jsn kept found damage = (damage ≡ Content jsn kept (digest found)) × (found ≢ kept.0)

-- this is the damage of a journal: of its content, where that isn't hidden; or else of its who
abbrev pub IsDamageOf : Bool → Entry → Damage → Type 0
IsDamageOf hidden e damage =
    ((hidden ≡ false) × IsOtherPart e.header.jsn e.header.content_digest (content_digest_of e.content) damage)
    ⊎ (IsContentWhole hidden e × IsOtherPart e.header.jsn e.header.who_digest (who_digest_of e.who) damage)

-- what a ledger with this history shows of a journal is whole
abbrev pub IsWholeIn : History → Entry → Type 0
IsWholeIn h e = IsShownWhole (is_hidden h e.header.jsn) e

-- this is the damage of a journal as a ledger with this history shows it
abbrev pub IsDamageIn : History → Entry → Damage → Type 0
IsDamageIn h e damage = IsDamageOf (is_hidden h e.header.jsn) e damage

-- This is the damage of the first journal that has one, of those that are shown. What stands in front of the journals was written,
-- and all those in front of that one; nothing of that one is.
-- Example: journal 3 of a ledger has another content than its header says, and journals 0 to 2 are whole. Then 0 to 2 are written.
pub record IsFirstDamage (front : List ℕ) (h : History) (damage : Damage) (before after : SinkState) : Type 0 where
  pub index : ℕ
  pub e : Entry
  pub there : slice_get (shown_journals h) index ≡ Some e
  pub first : All (IsWholeIn h) (take index (shown_journals h))
  pub other : IsDamageIn h e damage
  pub appended : Appends before.held after.held (front ++ flat_map item_text (take index (map (shown h) (shown_journals h))))

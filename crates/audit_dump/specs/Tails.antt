-- What stands behind the journals of a dump, as it is taken piece by piece through a window on what is read.
use Rattle.std.specs.Prelude.{◌≡◌, ◌⊎◌, ◌↔◌, IsTrue, ℕ, ◌+◌, ◌-◌, ◌<◌, ◌≤◌, true, List, [], ◌++◌, length, map, IfOk, Result, Ok, Err}
use Rattle.std.specs.Io.KnownBytes.{Consumes, IsAtEnd}
use Rattle.std.specs.List.{AllByRecursion, flat_map}
use Rattle.sha2.specs.Sha256.{sha256}
use Rattle.ledger_bytes.specs.Fields.{Unread}
use Rattle.ledger_bytes.specs.declared.failure.Bad.TheVariants as bad
use Rattle.ledger_io.specs.Outside.{SourceState}
use Rattle.ledger_io.specs.Windows.{HasEnough, Seen}
use Rattle.tree_model.specs.Tree.{leaf, mth}
use Rattle.merkle_batch.specs.Rows.{StandsFor}
use Rattle.time_peg.specs.Entries.{NeverFalls, last_time}
use Rattle.dump_model.specs.Dumps.{IsNotaryEntry}
use Rattle.audit_dump.specs.Breaks.{Tail, place_within, tail_at}
use Rattle.audit_dump.specs.Claims.{IsLeastUnmet}
use Rattle.audit_dump.specs.Fronts.{HasReadOn}
use Rattle.audit_dump.specs.Walking.{MayFollow, unread_from, place_of}
use Rattle.audit_dump.specs.declared.claims.Claim.{Claim}
use Rattle.audit_dump.specs.declared.walking.Break.{Break}
use Rattle.audit_dump.specs.declared.ending.Ending.{Ending}
use Rattle.audit_dump.specs.declared.ending.Entries.{Entries}
use Rattle.audit_dump.specs.declared.front.Stop.{Stop}
use Rattle.audit_dump.specs.declared.front.Stop.TheVariants as stop
use Rattle.ledger_io.specs.declared.failure.LineErr.{LineErr}

-- ---- pieces

-- A text was taken through a window, and nothing else: it is what was held and what was read since, but for what is held now. No read
-- failed, and nothing is read once the end was told.
-- Example: 5 bytes were held, and 100 were read. Behind a text of 8 bytes the window holds 97.
pub record HasTaken (before after : SourceState) (old new : Seen) (text : List ℕ) : Type 0 where
  pub bytes : List ℕ
  pub consumed : Consumes before.left after.left bytes
  pub total : new.total ≡ old.total + length bytes
  pub end : new.ended ≡ true → (old.ended ≡ true) ⊎ IsAtEnd after.left
  pub again : old.ended ≡ true → (bytes ≡ []) × (after ≡ before) × (new.ended ≡ true)
  pub parts : old.held ++ bytes ≡ text ++ new.held
  pub faults : after.faults ≡ before.faults

-- the input ends before so many bytes are there
pub record StopsShort (want : ℕ) (w : Seen) (broken : Break) : Type 0 where
  pub ended : w.ended ≡ true
  pub few : length w.held < want
  pub bad_is : broken.bad ≡ bad.Short (place_of w + length w.held)
  pub place_is : broken.place ≡ place_of w + length w.held

-- reading failed while so many bytes were wanted: some were read before, and this error came
pub record HasFailed (want : ℕ) (before after : SourceState) (old new : Seen) (error : LineErr) : Type 0 where
  pub bytes : List ℕ
  pub read_bytes : HasReadOn before after old new bytes
  pub enough : HasEnough before after want new (Err error)

-- why a piece of so many bytes isn't given: nothing was taken and the input ends before, or reading failed
abbrev pub HasStopped : ℕ → SourceState → SourceState → Seen → Seen → Stop → Type 0
HasStopped want before after old new (stop.Broken broken) = HasTaken before after old new [] × StopsShort want new broken
HasStopped want before after old new (stop.Failed error) = HasFailed want before after old new error

-- ---- entries

-- all bytes of some entries
abbrev pub texts_of : List (List ℕ) → List ℕ
texts_of entries = flat_map (λ entry. entry) entries

-- what is kept of some entries: the tree over them, the last time, and whether the times never fall
pub record IsOfEntries (es : List (List ℕ)) (entries : Entries) : Type 0 where
  pub stands : StandsFor sha256 entries.tree (map (leaf sha256) es)
  pub size : entries.tree.size ≡ length es
  pub few : entries.tree.size - entries.tree.floor < 64
  pub last : entries.last ≡ last_time 0 es
  pub never_falls : IsTrue entries.never_falls ↔ NeverFalls 0 es

-- these entries were taken through a window, and this is kept of them
pub record HasTakenEntries (before after : SourceState) (old new : Seen) (es : List (List ℕ)) (entries : Entries) : Type 0 where
  pub taken : HasTaken before after old new (texts_of es)
  pub widths : AllByRecursion IsNotaryEntry es
  pub kept : IsOfEntries es entries

-- the input ends before so many entries are there, behind those that were taken
pub record EndsInEntries (count : ℕ) (before after : SourceState) (old new : Seen) (broken : Break) : Type 0 where
  pub es : List (List ℕ)
  pub taken : HasTaken before after old new (texts_of es)
  pub widths : AllByRecursion IsNotaryEntry es
  pub fewer : length es < count
  pub early : StopsShort 72 new broken

-- why so many entries aren't given
abbrev pub HasStoppedInEntries : ℕ → SourceState → SourceState → Seen → Seen → Stop → Type 0
HasStoppedInEntries count before after old new (stop.Broken broken) = EndsInEntries count before after old new broken
HasStoppedInEntries count before after old new (stop.Failed error) = HasFailed 72 before after old new error

-- ---- the end

-- a window is at the end of the input
abbrev pub IsOver : Seen → Type 0
IsOver w = (w.ended ≡ true) × (w.held ≡ [])

-- something stands where the input was to end
pub record HasMore (w : Seen) (broken : Break) : Type 0 where
  pub some : 0 < length w.held
  pub bad_is : broken.bad ≡ bad.Trailing (place_of w)
  pub place_is : broken.place ≡ place_of w

-- why the input isn't at its end
abbrev pub HasNoEnd : SourceState → SourceState → Seen → Seen → Stop → Type 0
HasNoEnd before after old new (stop.Broken broken) = HasTaken before after old new [] × HasMore new broken
HasNoEnd before after old new (stop.Failed error) = HasFailed 72 before after old new error

-- ---- all that stands behind the journals

-- what is told of that which stands behind the journals, where these are claimed of the entries
pub record IsEndingOf (claims : List Claim) (tail : Tail) (ending : Ending) : Type 0 where
  pub head : ending.head ≡ tail.head
  pub count : ending.count ≡ length tail.entries
  pub entries_root : ending.entries_root.0 ≡ mth sha256 tail.entries
  pub notary_root : ending.notary_root ≡ tail.notary_root
  pub never_falls : IsTrue ending.never_falls ↔ NeverFalls 0 tail.entries
  pub unmet : IsLeastUnmet claims tail.entries ending.unmet

-- what is told of the rest of an input that is to be the end of a dump: what it is, or how it breaks
abbrev pub IsToldEnding : List Claim → Unread → Result Ending Break → Type 0
IsToldEnding claims l (Ok ending) = (tail : Tail) × (tail_at l ≡ Ok tail) × IsEndingOf claims tail ending
IsToldEnding claims l (Err broken) = (tail_at l ≡ Err broken.bad) × (broken.place ≡ place_within broken.bad)

-- What is told is so of the input, whatever bytes may follow those that were read. Where the source has ended none do, so the input is
-- what was held and what was read since.
pub record TellsEnding (claims : List Claim) (before after : SourceState) (old new : Seen) (told : Result Ending Break) : Type 0 where
  pub bytes : List ℕ
  pub read_bytes : HasReadOn before after old new bytes
  -- the end of a dump is the input's end
  pub ended : IfOk told (λ ending. new.ended ≡ true)
  pub over : (further : List ℕ) → MayFollow new further → IsToldEnding claims (unread_from (place_of old) ((old.held ++ bytes) ++ further)) told

-- The same by what stops the reading, with the bytes that were read; where reading fails nothing is told. No window holds more than
-- was read.
abbrev pub StopsOver : List Claim → SourceState → SourceState → Seen → Seen → Stop → Type 0
StopsOver claims before after old new (stop.Broken broken) =
    ((bytes : List ℕ) × HasReadOn before after old new bytes) × (after.faults ≡ before.faults) × (length old.held ≤ old.total → TellsEnding claims before after old new (Err broken))
StopsOver claims before after old new (stop.Failed error) = HasFailed 72 before after old new error

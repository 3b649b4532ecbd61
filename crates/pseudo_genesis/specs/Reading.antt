-- Reading a base from left to right, with the first break that is met.
use Rattle.std.specs.Prelude.{◌≡◌, ℕ, zero, suc, ◌+◌, ◌*◌, List, [], ◌∷◌, length, count_ones, Result, Ok, Err, if◌then◌else◌, ⊤}
use Rattle.std.specs.Int.{w8, w16, w32, w64}
use Rattle.ledger_bytes.specs.Digests.{zero_digest}
use Rattle.ledger_bytes.specs.declared.digest.Digest.{Digest}
use Rattle.ledger_bytes.specs.declared.failure.Bad.{Bad}
use Rattle.ledger_bytes.specs.declared.failure.Bad.TheVariants as bad
use Rattle.ledger_bytes.specs.Fields.{Unread, left_from, ◌>>=◌, number_at, digest_at, check, end_at}
use Rattle.clue_index.specs.declared.state.ClueState.{ClueState}
use Rattle.pseudo_genesis.specs.declared.base.Base.{Base}
use Rattle.pseudo_genesis.specs.declared.base.BaseErr.{BaseErr}
use Rattle.pseudo_genesis.specs.declared.base.BaseErr.TheVariants as base_err
use Rattle.pseudo_genesis.specs.Bases.{version_ok, point_ok, blocks_ok, members_ok, clues_ok, is_behind, is_inside}

-- n items one after the other, each read by what is known in front of it
abbrev pub many_at : {S A : Type 0} → (S → Unread → Result (A × Unread) Bad) → (S → A → S) → ℕ → S → Unread → Result (List A × Unread) Bad
many_at read next zero known l = Ok ([], l)
many_at read next (suc n) known l = do
  item ← read known l
  more ← many_at read next n (next known item.0) item.1
  Ok (item.0 ∷ more.0, more.1)

-- the next digest, in a list where nothing needs to be known of those before it
abbrev pub any_digest_at : ⊤ → Unread → Result (Digest × Unread) Bad
any_digest_at known l = digest_at l

-- nothing is known behind a digest either
abbrev pub still : ⊤ → Digest → ⊤
still known digest = known

-- the next n digests
unfoldable pub digests_at : ℕ → Unread → Result (List Digest × Unread) Bad
digests_at n l = many_at any_digest_at still n tt l

-- a version that is known, or the break that tells another
abbrev pub known_version : ℕ → Result (Unit {0}) Bad
known_version version = if version_ok version then Ok tt else Err (bad.NewerFormat version)

-- version, id, point and how many blocks, each judged as it is met
unfoldable pub base_front_at : Unread → Result ((Digest × ℕ × ℕ) × Unread) Bad
base_front_at l = do
  version ← number_at w8 l
  _ ← known_version version.0
  id ← digest_at version.1
  point ← number_at w64 id.1
  _ ← check (point_ok point.0) 33
  blocks ← number_at w64 point.1
  _ ← check (blocks_ok point.0 blocks.0) 41
  Ok ((id.0, point.0, blocks.0), blocks.1)

-- the members' keys behind their count, which stands at a place
unfoldable pub keys_at : ℕ → Unread → Result (List Digest × Unread) Bad
keys_at at l = do
  count ← number_at w16 l
  _ ← check (members_ok count.0) at
  digests_at count.0 count.1

-- what is known where a clue's state begins: the clue in front of it, and its place
pub record Before : Type 0 where
  pub clue : Digest
  pub place : ℕ

-- the state of a clue, which stands behind the one before
unfoldable pub state_at : ℕ → Before → Unread → Result (ClueState × Unread) Bad
state_at point before l = do
  clue ← digest_at l
  _ ← check (is_behind before.clue clue.0) before.place
  count ← number_at w32 clue.1
  _ ← check (is_inside point count.0) (before.place + 32)
  last ← number_at w64 count.1
  _ ← check (is_inside point last.0) (before.place + 36)
  Ok (record { clue = clue.0; count = count.0; last = last.0 }, last.1)

-- what is known where the next state begins
abbrev pub behind : Before → ClueState → Before
behind before state = record { clue = state.clue; place = before.place + 44 }

-- the states of n clues, one after the other
unfoldable pub states_at : ℕ → ℕ → Before → Unread → Result (List ClueState × Unread) Bad
states_at point n before l = many_at (state_at point) behind n before l

-- the states of all clues behind their count, which stands at a place
unfoldable pub clues_at : ℕ → ℕ → Unread → Result (List ClueState × Unread) Bad
clues_at point at l = do
  count ← number_at w32 l
  _ ← check (clues_ok count.0) at
  states_at point count.0 (record { clue = zero_digest; place = at + 4 }) count.1

-- the fields of a base, from left to right
unfoldable pub base_at : Unread → Result (Base × Unread) Bad
base_at l = do
  front ← base_front_at l
  peaks ← digests_at (count_ones front.0.1) front.1
  keys ← keys_at (49 + 32 * count_ones front.0.1) peaks.1
  clues ← clues_at front.0.1 (51 + 32 * count_ones front.0.1 + 32 * length keys.0) keys.1
  Ok (
    record {
      id = front.0.0;
      point = front.0.1;
      blocks = front.0.2;
      peaks = peaks.0;
      keys = keys.0;
      clues = clues.0;
    },
    clues.1,
  )

-- the base that the bytes spell, all of them, or their first break
unfoldable pub base_of : List ℕ → Result Base Bad
base_of bytes = do
  read ← base_at (left_from (length bytes) bytes)
  end_at read.0 read.1

-- A call answers what a reading gives, or that memory was wanted.
abbrev pub ReadsBase : {A : Type 0} → Result A BaseErr → Result A Bad → Type 0
ReadsBase (Ok x) read = read ≡ Ok x
ReadsBase (Err (base_err.Bad bad)) read = read ≡ Err bad
ReadsBase (Err base_err.NoMemory) read = ⊤

-- A call on a reader answers what the reading of several fields gives, or that memory was wanted. Where the
-- reader stands after an error is left open.
abbrev pub TakesBase : {A : Type 0} → Result A BaseErr → Unread → Result (A × Unread) Bad → Type 0
TakesBase (Ok x) after read = read ≡ Ok (x, after)
TakesBase (Err (base_err.Bad bad)) after read = read ≡ Err bad
TakesBase (Err base_err.NoMemory) after read = ⊤

-- how bytes can fail to be a base; no other break comes
abbrev pub IsBreak : Bad → Type 0
IsBreak (bad.Short at) = ⊤
IsBreak (bad.Trailing at) = ⊤
IsBreak (bad.BadFixedField at) = ⊤
IsBreak (bad.NewerFormat found) = ⊤
IsBreak (bad.BadKind found) = ⊥
IsBreak bad.TooLong = ⊥

-- how the reading of a base can fail: by such a break, or for want of memory
abbrev pub IsFailure : BaseErr → Type 0
IsFailure (base_err.Bad bad) = IsBreak bad
IsFailure base_err.NoMemory = ⊤

-- Reading the bytes of a dump from left to right, with the first break that is met.
use Rattle.std.specs.Prelude.{ℕ, zero, suc, ◌+◌, Bool, List, [], ◌∷◌, length, take, bytes_eq, Option, Some, None, Result, Ok, Err}
use Rattle.std.specs.Int.{w64}
use Rattle.ledger_bytes.specs.Fields.{Unread, ◌>>=◌, bytes_at, number_at, digest_at, check, end_at}
use Rattle.ledger_bytes.specs.declared.digest.Digest.{Digest}
use Rattle.ledger_bytes.specs.declared.failure.Bad.{Bad}
use Rattle.ledger_bytes.specs.declared.failure.Bad.TheVariants as bad
use Rattle.merkle_tree.specs.declared.head.Head.{Head}
use Rattle.pseudo_genesis.specs.Reading.{base_of}
use Rattle.pseudo_genesis.specs.declared.base.Base.{Base}
use Rattle.dump_model.specs.Dumps.{magic}

-- ---- places

-- The place of a break in the part that breaks, counted from its first byte. A kind is the second byte of a header, and of bytes of
-- another version nothing is known.
abbrev pub place_within : Bad → ℕ
place_within (bad.Short at) = at
place_within (bad.Trailing at) = at
place_within (bad.BadKind found) = 1
place_within (bad.BadFixedField at) = at
place_within (bad.NewerFormat found) = 0
place_within bad.TooLong = 0

-- The place of a break in the whole, where the part begins at a place and is read with all that stands behind it: where the end comes
-- too early, that is the end of the whole.
-- Example: of a journal that begins at byte 500 the kind 9 breaks at 501. Where 10 bytes of it are there, the break is at 510.
abbrev pub place_behind : ℕ → Bad → ℕ
place_behind start (bad.Short at) = at
place_behind start (bad.Trailing at) = at
place_behind start (bad.BadKind found) = start + 1
place_behind start (bad.BadFixedField at) = start + at
place_behind start (bad.NewerFormat found) = start
place_behind start bad.TooLong = start

-- ---- the front

-- what stands in front of the journals, but their number
pub record Front : Type 0 where
  pub id : Digest
  pub base : Option Base

-- whether bytes begin with a text, as far as they are there
-- Example: 76 68 begins as `LDGDUMP1` does, and 88 doesn't.
abbrev pub begins_as : List ℕ → List ℕ → Bool
begins_as text bytes = bytes_eq (take (length text) bytes) (take (length bytes) text)

-- `LDGDUMP1`; a wrong byte in it is told before that others are missing
unfoldable pub magic_at : Unread → Result (List ℕ × Unread) Bad
magic_at l = do
  _ ← check (begins_as magic l.rest) 0
  bytes_at 8 l

-- where the base stands in a dump: behind 8 bytes, the id and its own length
abbrev pub base_place : ℕ
base_place = 48

-- a base that was decoded from its own bytes; its break is one of the dump, at the same byte
abbrev pub in_dump : Result Base Bad → Result (Option Base) Bad
in_dump (Ok base) = Ok (Some base)
in_dump (Err broken) = Err (bad.BadFixedField (base_place + place_within broken))

-- the base that bytes spell; none where there are no bytes
abbrev pub decoded : List ℕ → Result (Option Base) Bad
decoded [] = Ok None
decoded (byte ∷ bytes) = in_dump (base_of (byte ∷ bytes))

-- the base behind its length; where the length reaches too far, the base isn't looked at
unfoldable pub base_part_at : Unread → Result (Option Base × Unread) Bad
base_part_at l = do
  len ← number_at w64 l
  bytes ← bytes_at len.0 len.1
  base ← decoded bytes.0
  Ok (base, bytes.1)

-- the front of a dump
unfoldable pub front_at : Unread → Result (Front × Unread) Bad
front_at l = do
  begin ← magic_at l
  id ← digest_at begin.1
  base ← base_part_at id.1
  Ok (record { id = id.0; base = base.0 }, base.1)

-- ---- behind the journals

-- what stands behind the journals
pub record Tail : Type 0 where
  pub head : Head
  pub entries : List (List ℕ)
  pub notary_root : Digest

-- so many entries of a notary, one after the other
abbrev pub entries_at : ℕ → Unread → Result (List (List ℕ) × Unread) Bad
entries_at zero l = Ok ([], l)
entries_at (suc n) l = do
  entry ← bytes_at 72 l
  more ← entries_at n entry.1
  Ok (entry.0 ∷ more.0, more.1)

-- the rest of a dump behind its journals, where nothing stands behind that
unfoldable pub tail_at : Unread → Result Tail Bad
tail_at l = do
  size ← number_at w64 l
  root ← digest_at size.1
  count ← number_at w64 root.1
  entries ← entries_at count.0 count.1
  notary ← digest_at entries.1
  end_at (record { head = record { size = size.0; root = root.0 }; entries = entries.0; notary_root = notary.0 }) notary.1

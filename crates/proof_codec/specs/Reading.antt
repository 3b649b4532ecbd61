-- Reading a journal proof from left to right, with the first break that is met.
use Rattle.std.specs.Prelude.{◌≡◌, ℕ, ◌+◌, ◌*◌, Bool, true, false, List, [], length, Option, Some, None, Result, Ok, Err, nat_lt, nat_le, ◌==◌, if◌then◌else◌}
use Rattle.std.specs.Int.{w8, w64}
use Rattle.std.specs.Option.{is_some}
use Rattle.ledger_bytes.specs.declared.digest.Digest.{Digest}
use Rattle.ledger_bytes.specs.declared.failure.Bad.{Bad}
use Rattle.ledger_bytes.specs.declared.failure.Bad.TheVariants.{Short, Trailing, BadKind, BadFixedField, NewerFormat, TooLong}
use Rattle.ledger_bytes.specs.Fields.{Unread, left_from, ◌>>=◌, number_at, digest_at, bytes_at, check, end_at}
use Rattle.journal_record.specs.declared.header.Header.{Header}
use Rattle.journal_record.specs.declared.header.Kind.{Kind}
use Rattle.journal_record.specs.declared.header.Kind.TheVariants.{Time}
use Rattle.ledger_bytes.specs.declared.mark.TimeMark.{TimeMark}
use Rattle.journal_record.specs.Reading.{header_at}
use Rattle.proof_codec.specs.Proofs.{ShownLower, ShownUpper, Shown, is_bounded, lower_len}

-- the next digests, behind their count
unfoldable pub digests_at : Unread → Result (List ℕ × Unread) Bad
digests_at l = do
  count ← number_at w8 l
  bytes_at (32 * count.0) count.1

-- whether a bound is there, by its flag
unfoldable pub flag_at : ℕ → Unread → Result (Bool × Unread) Bad
flag_at at l = do
  flag ← number_at w8 l
  _ ← check (nat_le flag.0 1) at
  Ok (flag.0 == 1, flag.1)

-- how a time journal's header breaks within a proof: the proof is cut off, or the header's place is told
abbrev pub header_break : {A : Type 0} → ℕ → Result A Bad → Result A Bad
header_break at (Ok x) = Ok x
header_break at (Err (Short whole)) = Err (Short whole)
header_break at (Err bad) = Err (BadFixedField at)

-- a kind is that of time journals
abbrev pub is_time : Kind → Bool
is_time Time = true
is_time kind = false

-- the next header, which has to be a time journal's
unfoldable pub time_at : ℕ → Unread → Result (Header × Unread) Bad
time_at at l = do
  header ← header_break at (header_at l)
  _ ← check (is_time header.0.kind) at
  Ok header

-- the parts of the bound in front, where its flag said that it is there
unfoldable pub some_lower_at : ℕ → Unread → Result (Option ShownLower × Unread) Bad
some_lower_at at l = do
  header ← time_at at l
  path ← digests_at header.1
  root ← digest_at path.1
  ext ← digests_at root.1
  Ok (Some (record { header = header.0; path = path.0; root = root.0; ext = ext.0 }), ext.1)

-- the flag of the bound in front, and its parts where it is there
unfoldable pub lower_at : ℕ → Unread → Result (Option ShownLower × Unread) Bad
lower_at at l = do
  flag ← flag_at at l
  if flag.0 then some_lower_at (at + 1) flag.1 else Ok (None, flag.1)

-- the numbers of a mark
unfoldable pub mark_at : Unread → Result (TimeMark × Unread) Bad
mark_at l = do
  jsn ← number_at w64 l
  index ← number_at w64 jsn.1
  time ← number_at w64 index.1
  Ok (record { jsn = jsn.0; index = index.0; time = time.0 }, time.1)

-- the parts of the bound behind, where its flag said that it is there
unfoldable pub some_upper_at : Unread → Result (Option ShownUpper × Unread) Bad
some_upper_at l = do
  mark ← mark_at l
  salt ← digest_at mark.1
  root ← digest_at salt.1
  ext ← digests_at root.1
  Ok (Some (record { mark = mark.0; salt = salt.0; root = root.0; ext = ext.0 }), ext.1)

-- the flag of the bound behind, and its parts where it is there
unfoldable pub upper_at : ℕ → Unread → Result (Option ShownUpper × Unread) Bad
upper_at at l = do
  flag ← flag_at at l
  if flag.0 then some_upper_at flag.1 else Ok (None, flag.1)

-- the size of the notary's tree, which stands only where a bound is there
unfoldable pub size_if : Bool → Unread → Result (ℕ × Unread) Bad
size_if there l = if there then number_at w64 l else Ok (0, l)

-- the path of a bound's entry, which stands only where the bound is there
unfoldable pub path_if : Bool → Unread → Result (List ℕ × Unread) Bad
path_if there l = if there then digests_at l else Ok ([], l)

-- the fields in front of the bounds: the ledger's size, the journal, its leaf and its path
unfoldable pub front_at : Unread → Result ((ℕ × ℕ × Digest × List ℕ) × Unread) Bad
front_at l = do
  version ← number_at w8 l
  _ ← check (version.0 == 1) 0
  size ← number_at w64 version.1
  n ← number_at w64 size.1
  leaf ← digest_at n.1
  path ← digests_at leaf.1
  Ok ((size.0, n.0, leaf.0, path.0), path.1)

-- the fields of a proof, from left to right
unfoldable pub proof_at : Unread → Result (Shown × Unread) Bad
proof_at l = do
  front ← front_at l
  lo ← lower_at (50 + length front.0.3) front.1
  hi ← upper_at (50 + length front.0.3 + lower_len lo.0) lo.1
  notary ← size_if (is_bounded lo.0 hi.0) hi.1
  lo_path ← path_if (is_some lo.0) notary.1
  hi_path ← path_if (is_some hi.0) lo_path.1
  Ok (
    record {
      size = front.0.0;
      n = front.0.1;
      leaf = front.0.2;
      path = front.0.3;
      lo = lo.0;
      hi = hi.0;
      notary_size = notary.0;
      lo_path = lo_path.0;
      hi_path = hi_path.0;
    },
    hi_path.1,
  )

-- the proof that the bytes spell, all of them, or their first break
unfoldable pub proof_of : List ℕ → Result Shown Bad
proof_of bytes = if nat_lt 8192 (length bytes) then Err TooLong else (do
  read ← proof_at (left_from (length bytes) bytes)
  end_at read.0 read.1)

-- how bytes can fail to be a proof; no other error comes
abbrev pub IsBreak : Bad → Type 0
IsBreak (Short at) = Unit {0}
IsBreak (Trailing at) = Unit {0}
IsBreak (BadFixedField at) = Unit {0}
IsBreak TooLong = Unit {0}
IsBreak (BadKind found) = ⊥
IsBreak (NewerFormat found) = ⊥

-- A call on a reader answers what the reading of several fields gives, seen by view. Where the reader stands
-- after an error is left open.
abbrev pub ReadsSeen : {A B : Type 0} → (A → B) → Result A Bad → Unread → Result (B × Unread) Bad → Type 0
ReadsSeen view (Ok x) after read = read ≡ Ok (view x, after)
ReadsSeen view (Err e) after read = read ≡ Err e

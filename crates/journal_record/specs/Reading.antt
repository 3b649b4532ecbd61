-- Reading a header from left to right, with the first break that is met.
use Rattle.std.specs.Prelude.{ℕ, ◌&&◌, ◌==◌, List, length, Result, Ok, Err, if◌then◌else◌, ok_or}
use Rattle.std.specs.Int.{w8, w32, w64}
use Rattle.ledger_bytes.specs.declared.failure.Bad.{Bad}
use Rattle.ledger_bytes.specs.declared.failure.Bad.TheVariants.{BadKind, NewerFormat}
use Rattle.ledger_bytes.specs.Fields.{Unread, left_from, ◌>>=◌, bytes_at, number_at, digest_at, check, end_at}
use Rattle.journal_record.specs.declared.header.Header.{Header}
use Rattle.journal_record.specs.declared.header.Kind.{Kind}
use Rattle.journal_record.specs.declared.reading.Front.{Front}
use Rattle.journal_record.specs.declared.reading.ClueFields.{ClueFields}
use Rattle.journal_record.specs.declared.reading.OwnFields.{OwnFields}
use Rattle.journal_record.specs.declared.reading.Parts.{Parts}
use Rattle.journal_record.specs.Rules.{kind_of, is_version, is_kind_in, link_ok, version_of, carries_a, carries_len, jsn_ok, member_ok, clue_ok, clue_ord_ok, clue_prev_ok, a_ok, b_ok, content_len_ok}

-- a version that is known, or the break that tells another
abbrev pub known_version : ℕ → Result (Unit {0}) Bad
known_version version = if is_version version then Ok tt else Err (NewerFormat version)

-- the kind that a number stands for, or the break that tells another
abbrev pub known_kind : ℕ → Result Kind Bad
known_kind code = ok_or (kind_of code) (BadKind code)

-- the version has this kind, or the break that tells another
abbrev pub kind_in : ℕ → Kind → ℕ → Result (Unit {0}) Bad
kind_in version kind code = if is_kind_in version kind then Ok tt else Err (BadKind code)

-- Where the version is the second: it is the header's own, by fields that stand further behind. What is read is let go of, but
-- for where it ends.
unfoldable pub carried_at : ℕ → Kind → Unread → Result (Unit {0} × Unread) Bad
carried_at version kind l = if version == 1 then Ok (tt, l) else do
  skipped ← bytes_at 56 l
  a ← number_at w64 skipped.1
  between ← bytes_at 40 a.1
  len ← number_at w32 between.1
  _ ← check (version_of kind a.0 len.0 == 2) 0
  Ok (tt, len.1)

-- a version and a kind that are known, and whether this is the header's own version: what is judged in front of all else
unfoldable pub layout_at : Unread → Result (Unit {0} × Unread) Bad
layout_at l = do
  version ← number_at w8 l
  _ ← known_version version.0
  code ← number_at w8 version.1
  kind ← known_kind code.0
  _ ← kind_in version.0 kind code.0
  carried_at version.0 kind code.1

-- version, kind, number and member, each judged as it is met
unfoldable pub front_at : Unread → Result (Front × Unread) Bad
front_at l = do
  version ← number_at w8 l
  _ ← known_version version.0
  code ← number_at w8 version.1
  kind ← known_kind code.0
  jsn ← number_at w64 code.1
  _ ← check (jsn_ok kind jsn.0) 2
  member ← number_at w32 jsn.1
  _ ← check (member_ok kind member.0) 10
  Ok (record { version = version.0; kind = kind; jsn = jsn.0; member = member.0 }, member.1)

-- the clue, the journal's number among those of the clue, and the number of the one before it
unfoldable pub clue_at : Kind → ℕ → Unread → Result (ClueFields × Unread) Bad
clue_at kind jsn l = do
  clue ← digest_at l
  _ ← check (clue_ok kind clue.0) 14
  ord ← number_at w32 clue.1
  _ ← check (clue_ord_ok clue.0 ord.0) 46
  prev ← number_at w64 ord.1
  _ ← check (clue_prev_ok jsn ord.0 prev.0) 50
  Ok (record { clue = clue.0; ordinal = ord.0; previous = prev.0 }, prev.1)

-- what goes by the kind: two numbers and a link
unfoldable pub own_at : ℕ → Kind → ℕ → Unread → Result (OwnFields × Unread) Bad
own_at version kind jsn l = do
  a ← number_at w64 l
  _ ← check (a_ok kind jsn a.0 && carries_a version kind a.0) 58
  b ← number_at w64 a.1
  _ ← check (b_ok kind b.0) 66
  link ← digest_at b.1
  _ ← check (link_ok kind link.0) 74
  Ok (record { a = a.0; b = b.0; link = link.0 }, link.1)

-- the content's length, and the digests of content and who
unfoldable pub parts_at : ℕ → Kind → Unread → Result (Parts × Unread) Bad
parts_at version kind l = do
  len ← number_at w32 l
  _ ← check (content_len_ok kind len.0 && carries_len version kind len.0) 106
  content ← digest_at len.1
  who ← digest_at content.1
  Ok (record { content_len = len.0; content_digest = content.0; who_digest = who.0 }, who.1)

-- the fields of a header, each judged as it is met
unfoldable pub fields_at : Unread → Result (Header × Unread) Bad
fields_at l = do
  front ← front_at l
  clue ← clue_at front.0.kind front.0.jsn front.1
  own ← own_at front.0.version front.0.kind front.0.jsn clue.1
  parts ← parts_at front.0.version front.0.kind own.1
  Ok (
    record {
      version = front.0.version;
      kind = front.0.kind;
      jsn = front.0.jsn;
      member = front.0.member;
      clue = clue.0.clue;
      clue_ord = clue.0.ordinal;
      clue_prev = clue.0.previous;
      a = own.0.a;
      b = own.0.b;
      link = own.0.link;
      content_len = parts.0.content_len;
      content_digest = parts.0.content_digest;
      who_digest = parts.0.who_digest;
    },
    parts.1,
  )

-- The header that stands in front, or its first break. A version that isn't the header's own breaks behind version and kind and
-- in front of every other field.
unfoldable pub header_at : Unread → Result (Header × Unread) Bad
header_at l = do
  _ ← layout_at l
  fields_at l

-- the header that the bytes spell, all of them, or their first break
unfoldable pub header_of : List ℕ → Result Header Bad
header_of bytes = do
  read ← header_at (left_from (length bytes) bytes)
  end_at read.0 read.1

-- The lines of an audit script.
use Rattle.std.specs.Prelude.{◌≡◌, ℕ, ◌-◌, ◌^◌, ◌%◌, ◌==◌, if◌then◌else◌, ⊤, List, length, codes, Option, Some, None, Result, Ok, Err}
use Rattle.std.specs.Str.{bytes_eq}
use Rattle.ledger_bytes.specs.declared.refusal.Refusal.{Refusal}
use Rattle.ledger_bytes.specs.declared.refusal.Refusal.TheVariants.{BadVerb}
use Rattle.ledger_io.specs.Lines.{line_limit}
use Rattle.script_lines.specs.Fields.{UnreadFields, fields_of, field_at, end_at}
use Rattle.script_lines.specs.Grammar.{◌>>=◌}
use Rattle.script_lines.specs.Spellings.{text_of, number_of, bytes_of, digest_of, which_of, mark_of}
use Rattle.script_lines.specs.declared.said.Which.{Which}
use Rattle.script_lines.specs.declared.said.Which.TheVariants.{Ledger, Notary}
use Rattle.audit_cli.specs.declared.line.Line.{Line}
use Rattle.audit_cli.specs.declared.line.Line.TheVariants.{TrustLedger, TrustNotary, Extend, Check, Judge}

-- a head of a ledger that is to be trusted: its id, its size and its root
unfoldable pub trust_ledger_at : UnreadFields → Result Line Refusal
trust_ledger_at fields = do
  id ← field_at digest_of fields
  size ← field_at (number_of (2 ^ 64 - 1)) id.1
  root ← field_at digest_of size.1
  end ← end_at root.1
  Ok (TrustLedger id.0 (record { size = size.0; root = root.0 }))

-- a head of a notary that is to be trusted: its size and its root
unfoldable pub trust_notary_at : UnreadFields → Result Line Refusal
trust_notary_at fields = do
  size ← field_at (number_of (2 ^ 64 - 1)) fields
  root ← field_at digest_of size.1
  end ← end_at root.1
  Ok (TrustNotary (record { size = size.0; root = root.0 }))

-- a head of one of the two trees that is to be trusted
abbrev pub trust_of : Which → UnreadFields → Result Line Refusal
trust_of Ledger fields = trust_ledger_at fields
trust_of Notary fields = trust_notary_at fields

-- a head that is to be trusted: the word `ledger` or `notary`, and what it asks for
unfoldable pub trust_at : UnreadFields → Result Line Refusal
trust_at fields = do
  which ← field_at which_of fields
  trust_of which.0 which.1

-- what the fields behind `extend` say, a head that is to be trusted since it goes on from a trusted one: which tree it is of,
-- the trusted size, the size and the root, and the bytes of the proof, as many as a line has room for
unfoldable pub extend_at : UnreadFields → Result Line Refusal
extend_at fields = do
  which ← field_at which_of fields
  m ← field_at (number_of (2 ^ 64 - 1)) which.1
  size ← field_at (number_of (2 ^ 64 - 1)) m.1
  root ← field_at digest_of size.1
  proof ← field_at (bytes_of line_limit) root.1
  end ← end_at proof.1
  Ok (Extend which.0 m.0 (record { size = size.0; root = root.0 }) proof.0)

-- what the fields behind `check` say, a proof that is to be checked: a journal's number, its leaf digest, the marks in front of
-- it and behind it, and the proof's bytes, as many as a line has room for
unfoldable pub check_at : UnreadFields → Result Line Refusal
check_at fields = do
  n ← field_at (number_of (2 ^ 64 - 1)) fields
  leaf ← field_at digest_of n.1
  lo ← field_at mark_of leaf.1
  hi ← field_at mark_of lo.1
  proof ← field_at (bytes_of line_limit) hi.1
  end ← end_at proof.1
  Ok (Check (record { n = n.0; leaf = leaf.0; lo = lo.0; hi = hi.0 }) proof.0)

-- bytes that are pieces of this width, none left over
abbrev pub pieces_from : ℕ → Option (List ℕ) → Option (List ℕ)
pieces_from width None = None
pieces_from width (Some bytes) = if length bytes % width == 0 then Some bytes else None

-- a list of pieces of one width, one after the other: no bytes as `-`, or as many as a line has room for
abbrev pub pieces_of : ℕ → List ℕ → Option (List ℕ)
pieces_of width text = pieces_from width (bytes_of line_limit text)

-- what the fields behind `judge` say, a proof that is to be judged by the whole lists: the ledger's id, the headers of all its
-- journals, all entries of its notary, a claim as `check` has it, and the proof's bytes
unfoldable pub judge_at : UnreadFields → Result Line Refusal
judge_at fields = do
  id ← field_at digest_of fields
  headers ← field_at (pieces_of 174) id.1
  entries ← field_at (pieces_of 72) headers.1
  n ← field_at (number_of (2 ^ 64 - 1)) entries.1
  leaf ← field_at digest_of n.1
  lo ← field_at mark_of leaf.1
  hi ← field_at mark_of lo.1
  proof ← field_at (bytes_of line_limit) hi.1
  end ← end_at proof.1
  Ok (Judge id.0 headers.0 entries.0 (record { n = n.0; leaf = leaf.0; lo = lo.0; hi = hi.0 }) proof.0)

-- what a line asks for, by its verb and the fields behind that
abbrev pub verb_at : List ℕ → UnreadFields → Result Line Refusal
verb_at verb fields =
    if bytes_eq verb (codes "trust") then trust_at fields
    else if bytes_eq verb (codes "extend") then extend_at fields
    else if bytes_eq verb (codes "check") then check_at fields
    else if bytes_eq verb (codes "judge") then judge_at fields
    else Err BadVerb

-- what a line asks for, by all its fields, of which the first is the verb
unfoldable pub line_at : UnreadFields → Result Line Refusal
line_at fields = do
  verb ← field_at text_of fields
  verb_at verb.0 verb.1

-- what a line asks for, or why it is refused: its verb is unknown, or a field is missing, extra or ill-formed
abbrev pub line_of : List ℕ → Result Line Refusal
line_of line = line_at (fields_of line)

-- what a line asks to be judged can be: its lists are whole headers and whole entries
abbrev pub IsFit : Line → Type 0
IsFit (Judge id headers entries claim proof) =
    (length headers % 174 ≡ 0) × (length entries % 72 ≡ 0)
IsFit other = ⊤

-- The lines that are read.
use Rattle.std.specs.Prelude.{ℕ, ◌+◌, ◌-◌, ◌^◌, ◌&&◌, nat_le, nat_lt, if◌then◌else◌, List, [], ◌∷◌, codes, Option, Some, None, Result, Ok, Err}
use Rattle.std.specs.Str.{bytes_eq}
use Rattle.ledger_bytes.specs.declared.limits.TheConstants.{CONTENT_LIMIT, PROOF_LIMIT}
use Rattle.ledger_bytes.specs.declared.refusal.Refusal.{Refusal}
use Rattle.ledger_bytes.specs.declared.refusal.Refusal.TheVariants.{BadVerb, BadLane}
use Rattle.script_lines.specs.Fields.{UnreadFields, fields_of, field_at, optional_at, end_at}
use Rattle.script_lines.specs.Spellings.{text_of, number_of, request_number_of, count_of, bytes_of, digest_of, clue_of, which_of, approvals_of}
use Rattle.script_lines.specs.declared.line.Line.{Line}
use Rattle.script_lines.specs.declared.line.Line.TheVariants.{Append, NewMember, Anchor, Occult, OccultClue, Purge, Get, Prove, Extend, Clue, Head}

-- the second step, with what the first gave
infixl 10 ◌>>=◌
abbrev pub ◌>>=◌ : {A B : Type 0} → Result A Refusal → (A → Result B Refusal) → Result B Refusal
Ok x >>= second = second x
Err refusal >>= second = Err refusal

-- what the fields behind `append` say: `append MEMBER CLUE CONTENT PROOF`, or the same with a number as its last field;
-- 0 stands for no number
unfoldable pub append_at : UnreadFields → Result Line Refusal
append_at fields = do
  member ← field_at (number_of (2 ^ 32 - 1)) fields
  clue ← field_at clue_of member.1
  content ← field_at (bytes_of CONTENT_LIMIT) clue.1
  proof ← field_at (bytes_of PROOF_LIMIT) content.1
  number ← optional_at request_number_of 0 proof.1
  end ← end_at number.1
  Ok (Append member.0 clue.0 content.0 proof.0 number.0)

-- what the fields behind `member` say: `member NUMBER KEY PROOF`
unfoldable pub member_at : UnreadFields → Result Line Refusal
member_at fields = do
  number ← field_at (number_of (2 ^ 32 - 1)) fields
  key ← field_at digest_of number.1
  proof ← field_at (bytes_of PROOF_LIMIT) key.1
  end ← end_at proof.1
  Ok (NewMember number.0 key.0 proof.0)

-- what the fields behind `anchor` say: there are none
unfoldable pub anchor_at : UnreadFields → Result Line Refusal
anchor_at fields = do
  end ← end_at fields
  Ok Anchor

-- what the fields behind `occult` say: `occult TARGET LEAF APPROVALS`
unfoldable pub occult_at : UnreadFields → Result Line Refusal
occult_at fields = do
  target ← field_at (number_of (2 ^ 64 - 1)) fields
  leaf ← field_at digest_of target.1
  given ← field_at approvals_of leaf.1
  end ← end_at given.1
  Ok (Occult target.0 leaf.0 given.0)

-- what the fields behind `occultclue` say: `occultclue NAME COUNT APPROVALS`, where NAME is a clue's name, or `-` for no clue
unfoldable pub clue_occult_at : UnreadFields → Result Line Refusal
clue_occult_at fields = do
  name ← field_at clue_of fields
  count ← field_at count_of name.1
  given ← field_at approvals_of count.1
  end ← end_at given.1
  Ok (OccultClue name.0 count.0 given.0)

-- what the fields behind `purge` say: `purge POINT ROOT APPROVALS`
unfoldable pub purge_at : UnreadFields → Result Line Refusal
purge_at fields = do
  point ← field_at (number_of (2 ^ 64 - 1)) fields
  root ← field_at digest_of point.1
  given ← field_at approvals_of root.1
  end ← end_at given.1
  Ok (Purge point.0 root.0 given.0)

-- what the field behind `get` says: `get N`
unfoldable pub get_at : UnreadFields → Result Line Refusal
get_at fields = do
  n ← field_at (number_of (2 ^ 64 - 1)) fields
  end ← end_at n.1
  Ok (Get n.0)

-- what the field behind `prove` says: `prove N`
unfoldable pub prove_at : UnreadFields → Result Line Refusal
prove_at fields = do
  n ← field_at (number_of (2 ^ 64 - 1)) fields
  end ← end_at n.1
  Ok (Prove n.0)

-- what the fields behind `extend` say: `extend ledger M` or `extend notary M`
unfoldable pub extend_at : UnreadFields → Result Line Refusal
extend_at fields = do
  which ← field_at which_of fields
  m ← field_at (number_of (2 ^ 64 - 1)) which.1
  end ← end_at m.1
  Ok (Extend which.0 m.0)

-- what the field behind `clue` says: `clue NAME`, where NAME is a clue's name, or `-` for no clue
unfoldable pub clue_at : UnreadFields → Result Line Refusal
clue_at fields = do
  name ← field_at clue_of fields
  end ← end_at name.1
  Ok (Clue name.0)

-- what the fields behind `head` say: there are none
unfoldable pub head_at : UnreadFields → Result Line Refusal
head_at fields = do
  end ← end_at fields
  Ok Head

-- what a line asks for, by its verb and the fields behind that
abbrev pub verb_at : List ℕ → UnreadFields → Result Line Refusal
verb_at verb fields =
    if bytes_eq verb (codes "append") then append_at fields
    else if bytes_eq verb (codes "member") then member_at fields
    else if bytes_eq verb (codes "anchor") then anchor_at fields
    else if bytes_eq verb (codes "occult") then occult_at fields
    else if bytes_eq verb (codes "occultclue") then clue_occult_at fields
    else if bytes_eq verb (codes "purge") then purge_at fields
    else if bytes_eq verb (codes "get") then get_at fields
    else if bytes_eq verb (codes "prove") then prove_at fields
    else if bytes_eq verb (codes "extend") then extend_at fields
    else if bytes_eq verb (codes "clue") then clue_at fields
    else if bytes_eq verb (codes "head") then head_at fields
    else Err BadVerb

-- what a line asks for, by the fields behind its lane; one without a verb has no verb that is read
abbrev pub asked_by : Result (List ℕ × UnreadFields) Refusal → Result Line Refusal
asked_by (Ok verb) = verb_at verb.0 verb.1
asked_by (Err refusal) = Err BadVerb

-- how many lanes are served, from 0 on
abbrev pub lanes : ℕ
lanes = 8

-- the lane that the first field names as one digit, where that lane is served
abbrev pub lane_of : List ℕ → Option ℕ
lane_of [] = None
lane_of (digit ∷ []) = if nat_le 48 digit && nat_lt digit (48 + lanes) then Some (digit - 48) else None
lane_of (digit ∷ more ∷ text) = None

-- the lane that a digit names, or 0 where that isn't served
abbrev pub lane_or_zero : ℕ → ℕ
lane_or_zero digit = if nat_le 48 digit && nat_lt digit (48 + lanes) then digit - 48 else 0

-- a line by the lane that it names and the fields behind that; one whose lane isn't served belongs to lane 0
abbrev pub spoken_by : Option ℕ → UnreadFields → ℕ × Result Line Refusal
spoken_by None fields = (0, Err BadLane)
spoken_by (Some lane) fields = (lane, asked_by (field_at text_of fields))

-- a line by its first field, which names the lane, and those behind it
abbrev pub spoken_at : Result (List ℕ × UnreadFields) Refusal → ℕ × Result Line Refusal
spoken_at (Ok first) = spoken_by (lane_of first.0) first.1
spoken_at (Err refusal) = (0, Err BadLane)

-- The lane that a line belongs to, and what it asks for or why it is refused. The lane is judged first, then the verb, then the
-- verb's fields from left to right, and a field too many last.
unfoldable pub spoken_line : List ℕ → ℕ × Result Line Refusal
spoken_line line = spoken_at (field_at text_of (fields_of line))

-- Lines as they are written.
use Rattle.std.specs.Prelude.{◌≡◌, ◌≢◌, ℕ, ◌<◌, ◌≤◌, ◌^◌, ◌==◌, false, if◌then◌else◌, List, [], ◌∷◌, ◌++◌, length, All, codes, decimal, ⊤}
use Rattle.hex.specs.Hex.{IsBytes}
use Rattle.ledger_bytes.specs.declared.limits.TheConstants.{APPROVAL_LIMIT, CONTENT_LIMIT, NAME_LIMIT, PROOF_LIMIT}
use Rattle.script_lines.specs.Words.{hex_of, hex_or_dash, spaced_words, which_text}
use Rattle.script_lines.specs.declared.line.Line.{Line}
use Rattle.script_lines.specs.declared.line.Line.TheVariants.{Append, NewMember, Anchor, Occult, OccultClue, Purge, Get, Prove, Extend, Clue, Head}
use Rattle.script_lines.specs.declared.said.SaidApproval.{SaidApproval}

-- a clue's name, or `-` for no clue
abbrev pub clue_text : List ℕ → List ℕ
clue_text [] = codes "-"
clue_text (byte ∷ name) = byte ∷ name

-- an approval: the member's number and the proof
abbrev pub approval_text : SaidApproval → List ℕ
approval_text by = decimal by.member ++ 58 ∷ hex_or_dash by.proof

-- approvals, each behind a comma
abbrev pub approvals_behind : List SaidApproval → List ℕ
approvals_behind [] = []
approvals_behind (by ∷ given) = 44 ∷ (approval_text by ++ approvals_behind given)

-- approvals with commas between, or `-` for none
abbrev pub approvals_text : List SaidApproval → List ℕ
approvals_text [] = codes "-"
approvals_text (by ∷ given) = approval_text by ++ approvals_behind given

-- the number of a request, or no word where it has none
abbrev pub number_words : ℕ → List (List ℕ)
number_words number = if number == 0 then [] else decimal number ∷ []

-- the words of a line behind its lane
abbrev pub line_words : Line → List (List ℕ)
line_words (Append member clue content proof number) =
    codes "append" ∷ decimal member ∷ clue_text clue ∷ hex_or_dash content ∷ hex_or_dash proof ∷ number_words number
line_words (NewMember number key proof) = codes "member" ∷ decimal number ∷ hex_of key ∷ hex_or_dash proof ∷ []
line_words Anchor = codes "anchor" ∷ []
line_words (Occult target leaf given) = codes "occult" ∷ decimal target ∷ hex_of leaf ∷ approvals_text given ∷ []
line_words (OccultClue name count given) = codes "occultclue" ∷ clue_text name ∷ decimal count ∷ approvals_text given ∷ []
line_words (Purge point root given) = codes "purge" ∷ decimal point ∷ hex_of root ∷ approvals_text given ∷ []
line_words (Get n) = codes "get" ∷ decimal n ∷ []
line_words (Prove n) = codes "prove" ∷ decimal n ∷ []
line_words (Extend which m) = codes "extend" ∷ which_text which ∷ decimal m ∷ []
line_words (Clue name) = codes "clue" ∷ clue_text name ∷ []
line_words Head = codes "head" ∷ []

-- a line's text on lane 0, without its newline
abbrev pub line_text : Line → List ℕ
line_text line = codes "0" ++ spaced_words (line_words line)

-- no space stands in a text
abbrev pub IsOneField : List ℕ → Type 0
IsOneField text = All (λ byte. (byte == 32) ≡ false) text

-- a name of at least one byte, none of them a space
pub record IsName (name : List ℕ) : Type 0 where
  pub some : 0 < length name
  pub short : length name ≤ NAME_LIMIT
  pub whole : IsOneField name

-- a clue has a name other than `-`, or none
abbrev pub IsClue : List ℕ → Type 0
IsClue [] = ⊤
IsClue (byte ∷ name) = IsName (byte ∷ name) × ((byte ∷ name) ≢ codes "-")

-- a text has at most so many bytes
abbrev pub IsShort : ℕ → List ℕ → Type 0
IsShort most bytes = (length bytes ≤ most) × IsBytes bytes

-- a line can say this approval: its numbers and its proof keep to their limits
pub record IsSayableApproval (by : SaidApproval) : Type 0 where
  pub member : by.member < 2 ^ 32
  pub proof : IsShort PROOF_LIMIT by.proof

-- a line can say this: its parts keep to their limits. `lines_are_read_back` says that its text is read as the line
abbrev pub IsSayable : Line → Type 0
IsSayable (Append member clue content proof number) =
    (member < 2 ^ 32) × IsClue clue × IsShort CONTENT_LIMIT content × IsShort PROOF_LIMIT proof × (number < 2 ^ 64)
IsSayable (NewMember number key proof) = (number < 2 ^ 32) × (length key.0 ≡ 32) × IsBytes key.0 × IsShort PROOF_LIMIT proof
IsSayable Anchor = ⊤
IsSayable (Occult target leaf given) =
    (target < 2 ^ 64) × (length leaf.0 ≡ 32) × IsBytes leaf.0 × (length given ≤ APPROVAL_LIMIT) × All IsSayableApproval given
IsSayable (OccultClue name count given) =
    IsClue name × (0 < count) × (count < 2 ^ 32) × (length given ≤ APPROVAL_LIMIT) × All IsSayableApproval given
IsSayable (Purge point root given) =
    (point < 2 ^ 64) × (length root.0 ≡ 32) × IsBytes root.0 × (length given ≤ APPROVAL_LIMIT) × All IsSayableApproval given
IsSayable (Get n) = n < 2 ^ 64
IsSayable (Prove n) = n < 2 ^ 64
IsSayable (Extend which m) = m < 2 ^ 64
IsSayable (Clue name) = IsClue name
IsSayable Head = ⊤

-- The fields of a line, as they are read one after the other.
use Rattle.std.specs.Prelude.{ℕ, ◌+◌, ◌-◌, ◌^◌, min, List, [], ◌∷◌, Option, Some, None, Result, Ok, Err}
use Rattle.ledger_bytes.specs.declared.refusal.Refusal.{Refusal}
use Rattle.ledger_bytes.specs.declared.refusal.Refusal.TheVariants.{BadField}
use Rattle.script_lines.specs.Parts.{parts}

-- the fields of a line that are still to be read, and the column of the first of them
pub record UnreadFields : Type 0 where
  pub column : ℕ
  pub fields : List (List ℕ)

-- all fields of a line, which stand around single spaces; their columns count from 1
abbrev pub fields_of : List ℕ → UnreadFields
fields_of line = record { column = 1; fields = parts 32 line }

-- the column behind another; 4,294,967,295 is the last that is told, and those behind it count as that
abbrev pub next_column : ℕ → ℕ
next_column column = min (column + 1) (2 ^ 32 - 1)

-- what stands behind the first of some fields, with its column
abbrev pub behind_first : ℕ → List (List ℕ) → UnreadFields
behind_first column [] = record { column = column; fields = [] }
behind_first column (field ∷ fields) = record { column = next_column column; fields = fields }

-- what is still to be read behind the first field
abbrev pub behind : UnreadFields → UnreadFields
behind left = behind_first left.column left.fields

-- what a field read as, or a refusal that names its column
abbrev pub read_or_bad : {A : Type 0} → ℕ → Option A → UnreadFields → Result (A × UnreadFields) Refusal
read_or_bad column None left = Err (BadField column)
read_or_bad column (Some x) left = Ok (x, left)

-- what the first of some fields reads as, and the fields behind it; it is refused where there is none
abbrev pub field_from : {A : Type 0} → (List ℕ → Option A) → ℕ → List (List ℕ) → Result (A × UnreadFields) Refusal
field_from read column [] = Err (BadField column)
field_from read column (field ∷ fields) =
    read_or_bad column (read field) (record { column = next_column column; fields = fields })

-- what the first field reads as, and the fields behind it; one that is missing or ill-formed is refused with its column
abbrev pub field_at : {A : Type 0} → (List ℕ → Option A) → UnreadFields → Result (A × UnreadFields) Refusal
field_at read left = field_from read left.column left.fields

-- what the first of some fields reads as, and the fields behind it; where there is none it reads as `missing`
abbrev pub optional_from : {A : Type 0} → (List ℕ → Option A) → A → ℕ → List (List ℕ) → Result (A × UnreadFields) Refusal
optional_from read missing column [] = Ok (missing, record { column = column; fields = [] })
optional_from read missing column (field ∷ fields) = field_from read column (field ∷ fields)

-- what the first field reads as, and the fields behind it. One that is ill-formed is refused with its column; where no
-- field is left it reads as `missing`
abbrev pub optional_at : {A : Type 0} → (List ℕ → Option A) → A → UnreadFields → Result (A × UnreadFields) Refusal
optional_at read missing left = optional_from read missing left.column left.fields

-- no field is left; else the first that is left is refused with its column
abbrev pub end_from : ℕ → List (List ℕ) → Result (Unit {0}) Refusal
end_from column [] = Ok tt
end_from column (field ∷ fields) = Err (BadField column)

-- no field is left to be read; one that is extra is refused with its column
abbrev pub end_at : UnreadFields → Result (Unit {0}) Refusal
end_at left = end_from left.column left.fields

-- what a reader answers to one field: what was read and what is left behind it, or the refusal
abbrev pub taken_field : {A : Type 0} → Result A Refusal → UnreadFields → Result (A × UnreadFields) Refusal
taken_field (Ok x) left = Ok (x, left)
taken_field (Err refusal) left = Err refusal

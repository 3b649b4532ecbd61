-- How a reader's answers go with the grammar.
use Rattle.std.specs.Prelude.{◌≡◌, ℕ, Bool, true, Result, Ok, Err, ⊤}
use Rattle.ledger_bytes.specs.declared.refusal.Refusal.{Refusal}
use Rattle.ledger_bytes.specs.declared.refusal.Refusal.TheVariants.{BadField}
use Rattle.script_lines.specs.Fields.{UnreadFields}
use Rattle.script_lines.specs.Limits.{fits_what}
use Rattle.script_lines.specs.declared.line.Line.{Line}
use Rattle.script_lines.specs.declared.stop.Stop.{Stop}
use Rattle.script_lines.specs.declared.stop.Stop.TheVariants.{Refused, NoMemory}

-- the reader answers what the grammar reads, unless memory is out
abbrev pub ReadsLine : {A : Type 0} → Result A Stop → Result A Refusal → Type 0
ReadsLine (Ok x) read = read ≡ Ok x
ReadsLine (Err (Refused refusal)) read = read ≡ Err refusal
ReadsLine (Err NoMemory) read = ⊤

-- a reader that goes on behind what it read answers what the grammar reads, unless memory is out, and these fields are left
abbrev pub TakesFields : {A : Type 0} → UnreadFields → Result A Stop → Result (A × UnreadFields) Refusal → Type 0
TakesFields left (Ok x) read = read ≡ Ok (x, left)
TakesFields left (Err (Refused refusal)) read = read ≡ Err refusal
TakesFields left (Err NoMemory) read = ⊤

-- what a field is refused for names its column
abbrev pub IsStopAt : ℕ → Stop → Type 0
IsStopAt column (Refused refusal) = refusal ≡ BadField column
IsStopAt column NoMemory = ⊤

-- what a reader answered keeps to the limits of a line
abbrev pub fits_read : Result Line Stop → Bool
fits_read (Ok line) = fits_what (Ok line)
fits_read (Err (Refused refusal)) = fits_what (Err refusal)
fits_read (Err NoMemory) = true

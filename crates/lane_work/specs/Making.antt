-- What workers make of lines.
use Rattle.std.specs.Prelude.{◌≡◌, ℕ, ◌+◌, List, [], ◌∷◌, ◌==◌, filter, ⊤, Result, Ok, Err}
use Rattle.ledger_bytes.specs.declared.failure.NoMemory.{NoMemory}
use Rattle.ledger_book.specs.declared.prepared.Prepared.{Prepared}
use Rattle.ledger_model.specs.Rules.{job_of}
use Rattle.ledger_model.specs.Scheme.{Scheme}
use Rattle.ledger_model.specs.Windows.{Said}
use Rattle.lane_work.specs.declared.kinds.LaneLine.{LaneLine}
use Rattle.lane_work.specs.declared.kinds.Made.{Made}

-- the line that a worker's result is of
abbrev pub said_of : Made → Said
said_of m = record { lane = m.lane; index = m.index; line = m.line.value }

-- a prepared item is that of a line, on the ledger with this id
abbrev pub IsItemOf : Scheme → List ℕ → Said → Prepared → Type 0
IsItemOf scheme id x item = (item.lane ≡ x.lane) × (item.index ≡ x.index) × (item.job ≡ job_of scheme id x.line)

-- a worker's result for a line is its item, or want of memory
abbrev pub MayBeItem : Scheme → List ℕ → Said → Result Prepared NoMemory → Type 0
MayBeItem scheme id x (Ok item) = IsItemOf scheme id x item
MayBeItem scheme id x (Err error) = ⊤

-- what a worker may hand on for a line with this number
abbrev pub IsMadeOf : Scheme → List ℕ → LaneLine → ℕ → Made → Type 0
IsMadeOf scheme id l index m =
    (m.lane ≡ l.lane) × (m.index ≡ index) × (m.line.value ≡ l.line) × MayBeItem scheme id (said_of m) m.item

-- what a worker made of the lines of one lane, whose numbers begin with n, each in its place
unfoldable pub AllMade : Scheme → List ℕ → ℕ → List LaneLine → List Made → Type 0
AllMade scheme id n [] [] = ⊤
AllMade scheme id n [] (m ∷ ms) = ⊥
AllMade scheme id n (l ∷ ls) [] = ⊥
AllMade scheme id n (l ∷ ls) (m ∷ ms) = IsMadeOf scheme id l n m × AllMade scheme id (n + 1) ls ms

-- the lines of one lane, in order
abbrev pub lines_of : ℕ → List LaneLine → List LaneLine
lines_of k window = filter (λ l. l.lane == k) window

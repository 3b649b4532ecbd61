-- The time journals that are kept, and which of them bound a journal in time.
use Rattle.std.specs.Prelude.{◌≡◌, ◌⊎◌, ℕ, ◌<◌, ◌≤◌, List, [], ◌∷◌, Option, Some, None, filter, nat_lt, nat_le, ⊤}
use Rattle.std.specs.List.{AllByRecursion}
use Rattle.ledger_bytes.specs.declared.mark.TimeMark.{TimeMark}

-- the numbers of marks rise: each is below those behind it
abbrev pub Rises : List TimeMark → Type 0
Rises [] = ⊤
Rises (m ∷ ms) = AllByRecursion (λ k. m.jsn < k.jsn) ms × Rises ms

-- the first of some marks, where there is one
abbrev pub first_mark : List TimeMark → Option TimeMark
first_mark [] = None
first_mark (m ∷ ms) = Some m

-- the last of some marks, where there is one
abbrev pub last_mark : List TimeMark → Option TimeMark
last_mark [] = None
last_mark (m ∷ []) = Some m
last_mark (m ∷ k ∷ ms) = last_mark (k ∷ ms)

-- the marks of the time journals in front of journal n
abbrev pub marks_before : ℕ → List TimeMark → List TimeMark
marks_before n ms = filter (λ m. nat_lt m.jsn n) ms

-- the marks of the time journals behind journal n
abbrev pub marks_behind : ℕ → List TimeMark → List TimeMark
marks_behind n ms = filter (λ m. nat_lt n m.jsn) ms

-- the marks of the time journals from journal p on
abbrev pub marks_from : ℕ → List TimeMark → List TimeMark
marks_from p ms = filter (λ m. nat_le p m.jsn) ms

-- the bound of journal n in time from below: the last of the marks in front of it
abbrev pub lower_bound : ℕ → List TimeMark → Option TimeMark
lower_bound n ms = last_mark (marks_before n ms)

-- the bound of journal n in time from above: the first of the marks behind it
abbrev pub upper_bound : ℕ → List TimeMark → Option TimeMark
upper_bound n ms = first_mark (marks_behind n ms)

-- a mark is among some
abbrev pub IsOneOf : TimeMark → List TimeMark → Type 0
IsOneOf b [] = ⊥
IsOneOf b (m ∷ ms) = (b ≡ m) ⊎ IsOneOf b ms

-- the mark with the greatest number in front of journal n; none exactly where none is in front
abbrev pub IsNearestBefore : ℕ → List TimeMark → Option TimeMark → Type 0
IsNearestBefore n ms None = AllByRecursion (λ m. n ≤ m.jsn) ms
IsNearestBefore n ms (Some b) = IsOneOf b ms × (b.jsn < n) × AllByRecursion (λ m. m.jsn < n → m.jsn ≤ b.jsn) ms

-- the mark with the least number behind journal n; none exactly where none is behind
abbrev pub IsNearestBehind : ℕ → List TimeMark → Option TimeMark → Type 0
IsNearestBehind n ms None = AllByRecursion (λ m. m.jsn ≤ n) ms
IsNearestBehind n ms (Some b) = IsOneOf b ms × (n < b.jsn) × AllByRecursion (λ m. n < m.jsn → b.jsn ≤ m.jsn) ms

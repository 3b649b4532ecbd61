-- The journals of one clue.
use Rattle.std.specs.Prelude.{ℕ, ◌+◌, ◌<◌, List, [], ◌∷◌, ◌++◌, length, filter, nat_lt, nat_le, ⊤}
use Rattle.std.specs.List.{AllByRecursion}

-- a clue's journals: how many there were before the first that is listed, the number of the last of those or 0, and
-- the numbers of those that are listed
pub record Trail : Type 0 where
  pub count : ℕ
  pub last : ℕ
  pub jsns : List ℕ

-- a clue without journals
abbrev pub no_trail : Trail
no_trail = record { count = 0; last = 0; jsns = [] }

-- the last of some numbers, or else the one before them
abbrev pub last_from : ℕ → List ℕ → ℕ
last_from last [] = last
last_from last (n ∷ ns) = last_from n ns

-- how many journals the clue has
abbrev pub count_of : Trail → ℕ
count_of t = t.count + length t.jsns

-- the number of the clue's last journal, or 0 where it has none
abbrev pub last_of : Trail → ℕ
last_of t = last_from t.last t.jsns

-- the numbers of the clue's journals from journal p on
abbrev pub kept_from : ℕ → Trail → List ℕ
kept_from p t = filter (λ n. nat_le p n) t.jsns

-- a trail without the journals from p on
abbrev pub below : ℕ → Trail → Trail
below p t = record { count = t.count; last = t.last; jsns = filter (λ n. nat_lt n p) t.jsns }

-- a trail of which only the journals from p on are listed, and those before them counted
abbrev pub seen_from : ℕ → Trail → Trail
seen_from p t = record { count = count_of (below p t); last = last_of (below p t); jsns = kept_from p t }

-- a trail with a journal more
abbrev pub grown_trail : ℕ → Trail → Trail
grown_trail jsn t = record { count = t.count; last = t.last; jsns = t.jsns ++ jsn ∷ [] }

-- numbers ascend: each is below those behind it
abbrev pub Ascends : List ℕ → Type 0
Ascends [] = ⊤
Ascends (n ∷ ns) = AllByRecursion (λ m. n < m) ns × Ascends ns

-- What is drawn for a job.
use Rattle.std.specs.Prelude.{ℕ, zero, suc, ◌+◌, ◌/◌, ◌%◌, ◌^◌, ◌<◌, ◌≤◌, if◌then◌else◌, List, [], ◌∷◌, length, nat_le, ⊤}
use Rattle.ledger_disk.specs.Generator.{next_draw}
use Rattle.ledger_soak.specs.declared.task.Task.{Task}
use Rattle.ledger_soak.specs.declared.task.Task.TheVariants.{Append, Anchor, Occult, Prove, Purge}

-- the number that a state of the generator gives
abbrev pub drawn : ℕ → ℕ
drawn x = x / 2 ^ 33

-- the generator's state after so many numbers
unfoldable pub state_after : ℕ → ℕ → ℕ
state_after zero x = x
state_after (suc n) x = state_after n (next_draw x)

-- the bytes that so many draws from a state on give
unfoldable pub drawn_bytes : ℕ → ℕ → List ℕ
drawn_bytes zero x = []
drawn_bytes (suc n) x = drawn (next_draw x) % 256 ∷ drawn_bytes n (next_draw x)

-- the n-th number that is drawn from a state on, from 0
abbrev pub nth_drawn : ℕ → ℕ → ℕ
nth_drawn n x = drawn (next_draw (state_after n x))

-- the length of the content that is drawn for a record
abbrev pub drawn_length : ℕ → ℕ
drawn_length x = 1 + nth_drawn 3 x % 64

-- What is drawn for a job of a ledger of this size: the first number modulo 100 says which job it is.
unfoldable pub task_drawn : ℕ → ℕ → Task
task_drawn x size =
    let first = nth_drawn 0 x % 100 in
    if nat_le first 84 then Append (2 + nth_drawn 1 x % 3) (nth_drawn 2 x % 40) (drawn_bytes (drawn_length x) (state_after 4 x))
    else if nat_le first 91 then Anchor
    else if nat_le first 94 then Occult (nth_drawn 1 x % size)
    else if nat_le first 98 then Prove (nth_drawn 1 x % size)
    else Purge

-- what may be drawn for a ledger of this size: members have keys, contents are short, and journals are there
abbrev pub IsDrawable : ℕ → Task → Type 0
IsDrawable size (Append member clue content) = (member < 5) × (length content ≤ 64)
IsDrawable size Anchor = ⊤
IsDrawable size (Occult target) = target < size
IsDrawable size (Prove n) = n < size
IsDrawable size Purge = ⊤

-- how many numbers are drawn for a job
abbrev pub draw_count : ℕ → ℕ
draw_count x =
    let first = nth_drawn 0 x % 100 in
    if nat_le first 84 then 4 + drawn_length x
    else if nat_le first 91 then 1
    else if nat_le first 98 then 2
    else 1

-- the generator's state behind a job's draws
unfoldable pub state_behind : ℕ → ℕ
state_behind x = state_after (draw_count x) x

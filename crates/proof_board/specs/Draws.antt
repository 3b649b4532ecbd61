-- The numbers that a prover draws.
use Rattle.std.specs.Prelude.{ℕ, ◌/◌, ◌^◌}

-- the number that a state of the generator gives, below 2^31
abbrev pub drawn : ℕ → ℕ
drawn state = state / 2 ^ 33

-- The lane that a line belongs to, by its first bytes.
use Rattle.std.proofs.Common.{◌≡◌, ◌≢◌, ℕ, ◌+◌, ◌-◌, ◌<◌, ◌≤◌, ◌==◌, ◌&&◌, nat_le, nat_lt, Bool, true, false, List, [], ◌∷◌, length, slice_index_or, cond, refl, sym, arith, Some, None}
use Rattle.std.specs.List.{slice_split, onto_first}
use Rattle.script_lines.specs.Fields.{UnreadFields, field_at}
use Rattle.script_lines.specs.Spellings.{text_of}
use Rattle.script_lines.specs.Grammar.{lane_or_zero, spoken_by, spoken_at, spoken_line, lanes}

-- the lane of a line by its fields
abbrev lane_by : List (List ℕ) → ℕ
lane_by fields = (spoken_at (field_at text_of (record { column = 1; fields = fields }))).0

served : (b : Bool) (lane : ℕ) (fields : UnreadFields) → (spoken_by (cond b (Some lane) None) fields).0 ≡ cond b lane 0
served true lane fields = refl
served false lane fields = refl

-- a first field of one byte
one_byte : (digit : ℕ) (fields : List (List ℕ)) → lane_by ((digit ∷ []) ∷ fields) ≡ lane_or_zero digit
one_byte digit fields = served (nat_le 48 digit && nat_lt digit (48 + lanes)) (digit - 48) _

-- one byte that may be the separator itself
one_or_none : (digit : ℕ) (fields : List (List ℕ)) (b : Bool) (more : List (List ℕ)) → (b ≡ true → digit ≡ 32)
    → lane_by (cond b ([] ∷ more) ((digit ∷ []) ∷ fields)) ≡ lane_or_zero digit
one_or_none digit fields true more is = rw (is refl) refl
one_or_none digit fields false more is = one_byte digit fields

is_space : (byte : ℕ) → (byte == 32) ≡ true → byte ≡ 32
is_space byte is = grind arith

pub lane_of_one : (line : List ℕ) → length line ≡ 1 → lane_or_zero (slice_index_or line 0 0) ≡ (spoken_line line).0
unfolding spoken_line
lane_of_one [] is = cc
lane_of_one (digit ∷ []) is = sym (one_or_none digit [] (digit == 32) ([] ∷ []) (is_space digit))
lane_of_one (digit ∷ byte ∷ rest) is = absurd (omega arith)

pub lane_of_two : (line : List ℕ) → 2 ≤ length line → slice_index_or line 1 0 ≡ 32 → lane_or_zero (slice_index_or line 0 0) ≡ (spoken_line line).0
unfolding spoken_line
lane_of_two [] long is = absurd (omega arith)
lane_of_two (digit ∷ []) long is = absurd (omega arith)
lane_of_two (digit ∷ byte ∷ rest) long is =
    rw is (sym (one_or_none digit (slice_split (λ b. b == 32) rest) (digit == 32) ([] ∷ slice_split (λ b. b == 32) rest) (is_space digit)))

pub lane_of_none : (line : List ℕ) → length line < 1 → 0 ≡ (spoken_line line).0
unfolding spoken_line
lane_of_none [] few = refl
lane_of_none (byte ∷ rest) few = absurd (omega arith)

-- a first field of two bytes or more names no lane
two_bytes : (digit byte : ℕ) (fields : List (List ℕ)) → lane_by (onto_first digit (onto_first byte fields)) ≡ 0
two_bytes digit byte [] = refl
two_bytes digit byte (field ∷ fields) = refl

two_or_none : (digit byte : ℕ) (fields more : List (List ℕ)) (b : Bool) → lane_by (cond b ([] ∷ more) (onto_first digit (onto_first byte fields))) ≡ 0
two_or_none digit byte fields more true = refl
two_or_none digit byte fields more false = two_bytes digit byte fields

no_space : (byte : ℕ) → byte ≢ 32 → (byte == 32) ≡ false
no_space byte other = grind arith

pub lane_of_more : (line : List ℕ) → 2 ≤ length line → slice_index_or line 1 0 ≢ 32 → 0 ≡ (spoken_line line).0
unfolding spoken_line
lane_of_more [] long other = absurd (omega arith)
lane_of_more (digit ∷ []) long other = absurd (omega arith)
lane_of_more (digit ∷ byte ∷ rest) long other =
    rw (no_space byte other) (sym (two_or_none digit byte (slice_split (λ b. b == 32) rest) _ (digit == 32)))

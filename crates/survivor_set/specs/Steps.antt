-- What the steps of reading a set answer.
use Rattle.std.specs.Prelude.{◌≡◌, ℕ, ◌≤◌, List, length, Result, Ok, Err, ⊤}
use Rattle.ledger_bytes.specs.declared.failure.Bad.{Bad}
use Rattle.ledger_bytes.specs.declared.failure.Bad.TheVariants.{Short, Trailing, BadKind, BadFixedField, NewerFormat, TooLong}
use Rattle.ledger_bytes.specs.Fields.{Unread}
use Rattle.survivor_set.specs.Reading.{from_place, set_of, set_with, survivors_in}
use Rattle.survivor_set.specs.declared.reading.Front.{Front}

-- what was read, and the place behind it, is what the reading gives, and leaves these bytes from there on
abbrev pub ReadsTo : {A : Type 0} → List ℕ → Result (A × ℕ) Bad → Result (A × Unread) Bad → Type 0
ReadsTo bytes (Ok x) read = (read ≡ Ok (x.0, from_place x.1 bytes)) × (x.1 ≤ length bytes)
ReadsTo bytes (Err e) read = read ≡ Err e

-- a break of a field has no greater place
abbrev pub IsNearBad : ℕ → Bad → Type 0
IsNearBad most (Short whole) = ⊤
IsNearBad most (Trailing place) = ⊤
IsNearBad most (BadKind found) = ⊤
IsNearBad most (BadFixedField place) = place ≤ most
IsNearBad most (NewerFormat found) = ⊤
IsNearBad most TooLong = ⊤

-- the reading comes to its end at this place
abbrev pub EndsAt : {A : Type 0} → List ℕ → Result ℕ Bad → Result (A × Unread) Bad → Type 0
EndsAt {A} bytes (Ok end) read = (x : A) × (read ≡ Ok (x, from_place end bytes)) × (end ≤ length bytes)
EndsAt bytes (Err e) read = read ≡ Err e

-- the fields in front are those of the set that the bytes spell, and its survivors are so many
pub record IsFrontOf (front : Front) (bytes : List ℕ) : Type 0 where
  pub set_is : set_of bytes ≡ Ok (set_with front (survivors_in bytes))
  pub count_is : length (survivors_in bytes) ≡ front.count
  pub some : 1 ≤ front.count
  pub few : front.count ≤ 64

-- the bytes spell a set with these fields in front, or break so
abbrev pub ReadsFront : List ℕ → Result Front Bad → Type 0
ReadsFront bytes (Ok front) = IsFrontOf front bytes
ReadsFront bytes (Err e) = set_of bytes ≡ Err e

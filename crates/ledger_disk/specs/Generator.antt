-- The bytes of a torn image.
use Rattle.std.specs.Prelude.{◌≡◌, ℕ, zero, suc, ◌+◌, ◌*◌, ◌/◌, ◌%◌, ◌^◌, ◌<◌, Bool, false, ◌||◌, ◌&&◌, not, List, [], ◌∷◌, length, get_or, nat_lt, if◌then◌else◌}

-- a range that was written has this place
abbrev pub covers : (ℕ × ℕ) → ℕ → Bool
covers r at = not (nat_lt at r.0) && nat_lt at (r.0 + r.1)

-- some range that was written has this place
abbrev pub is_written : ℕ → List (ℕ × ℕ) → Bool
is_written at [] = false
is_written at (r ∷ rs) = covers r at || is_written at rs

-- the state of the generator behind another
abbrev pub next_draw : ℕ → ℕ
next_draw x = (x * 6364136223846793005 + 1442695040888963407) % 2 ^ 64

-- the byte that a state of the generator gives
abbrev pub drawn_byte : ℕ → ℕ
drawn_byte x = (x / 2 ^ 33) % 256

-- the byte at a place must stand as it was: it is stable, and no write reached it since
abbrev pub is_kept : List ℕ → List (ℕ × ℕ) → ℕ → Bool
is_kept stable ranges at = nat_lt at (length stable) && not (is_written at ranges)

-- the generator's state at a place of the image, where it is drawn in ascending order of the places
abbrev pub draw_at : List ℕ → List (ℕ × ℕ) → ℕ → ℕ → ℕ
draw_at stable ranges seed zero = seed
draw_at stable ranges seed (suc at) =
    if is_kept stable ranges at then draw_at stable ranges seed at else next_draw (draw_at stable ranges seed at)

-- the byte of the torn image at a place
abbrev pub torn_byte : List ℕ → List (ℕ × ℕ) → ℕ → ℕ → ℕ
torn_byte stable ranges seed at =
    if is_kept stable ranges at then get_or stable at 0 else drawn_byte (next_draw (draw_at stable ranges seed at))

-- the torn image: at each place the stable byte where it must stand, and else the generator's next byte
abbrev pub IsTornImage : List ℕ → List (ℕ × ℕ) → ℕ → List ℕ → Type 0
IsTornImage stable ranges seed image = (i : ℕ) → i < length image → get_or image i 0 ≡ torn_byte stable ranges seed i

-- The piece of a cut that stands at a place.
use Rattle.std.proofs.Common.{◌≡◌, ℕ, zero, suc, ◌+◌, ◌*◌, ◌/◌, ◌<◌, List, [], length, get_or, take, drop, sym, refl, ap, ◌∙◌, arith, suc-mul, drop-drop}
use Rattle.tree_model.specs.Tree.{pieces, cut}

get_or-pieces : (i n w : ℕ) (b : List ℕ) → i < n → get_or (pieces n w b) i [] ≡ take w (drop (i * w) b)
unfolding pieces
get_or-pieces i zero w b within = absurd (omega arith)
get_or-pieces zero (suc n) w b within = let none : 0 * w ≡ 0 = omega arith in rw none refl
get_or-pieces (suc i) (suc n) w b within =
    let further : suc i * w ≡ w + i * w = omega (arith, suc-mul i w) in
    get_or-pieces i n w (drop w b) (omega arith) ∙ ap (take w) (drop-drop (i * w) w b ∙ ap (λ j. drop j b) (sym further))

pub get_or-cut : (i w : ℕ) (b : List ℕ) → i < length b / w → get_or (cut w b) i [] ≡ take w (drop (i * w) b)
unfolding cut
get_or-cut i w b within = get_or-pieces i (length b / w) w b within

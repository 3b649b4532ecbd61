-- The bytes of a torn image.
use Rattle.std.specs.Prelude.{Bool, true, false, ◌||◌, ◌&&◌, not, nat_lt}
use Rattle.std.proofs.Common.{◌≡◌, ◌⊎◌, inl, inr, ℕ, ◌+◌, ◌<◌, ◌≤◌, List, [], ◌∷◌, ◌++◌, length, get_or, refl, ◌∙◌, ap}
use Rattle.std.proofs.lemmas.Bool.{lt-ltb, le-ltb}
use Rattle.std.proofs.Math.Bool.{and-false, or-false}
use Rattle.ledger_disk.specs.Disk.{IsUntouched}
use Rattle.ledger_disk.specs.Generator.{is_written, covers, is_kept, torn_byte}

or_more : (x y z : Bool) → (x || (y || z)) ≡ ((x || y) || z)
or_more true y z = refl
or_more false y z = refl

pub is_written-push : (at : ℕ) (rs : List (ℕ × ℕ)) (r : ℕ × ℕ) → is_written at (rs ++ r ∷ []) ≡ (is_written at rs || covers r at)
is_written-push at [] r = or-false (covers r at)
is_written-push at (s ∷ rs) r =
    ap (λ (b : Bool). covers s at || b) (is_written-push at rs r) ∙ or_more (covers s at) (is_written at rs) (covers r at)

outside_false : (i b e : ℕ) → (i < b) ⊎ (e ≤ i) → (not (nat_lt i b) && nat_lt i e) ≡ false
outside_false i b e (inl below) = ap (λ (x : Bool). not x && nat_lt i e) (lt-ltb i b below)
outside_false i b e (inr above) = ap (λ (x : Bool). not (nat_lt i b) && x) (le-ltb i e above) ∙ and-false (not (nat_lt i b))

pub untouched_false : (i : ℕ) (rs : List (ℕ × ℕ)) → IsUntouched i rs → is_written i rs ≡ false
untouched_false i [] untouched = refl
untouched_false i (r ∷ rs) untouched = ap (λ (x : Bool). x || is_written i rs) (outside_false i r.0 (r.0 + r.1) untouched.0) ∙ untouched_false i rs untouched.1

pub kept_byte : (stable : List ℕ) (ranges : List (ℕ × ℕ)) (seed i : ℕ) → is_kept stable ranges i ≡ true → torn_byte stable ranges seed i ≡ get_or stable i 0
kept_byte stable ranges seed i kept = rw kept refl

-- where nothing was written the stable byte is left
pub torn_kept : (stable : List ℕ) (ranges : List (ℕ × ℕ)) (seed i : ℕ) → i < length stable → IsUntouched i ranges → torn_byte stable ranges seed i ≡ get_or stable i 0
torn_kept stable ranges seed i inside untouched =
    let kept : is_kept stable ranges i ≡ true = ap (λ (x : Bool). x && not (is_written i ranges)) (lt-ltb i (length stable) inside) ∙ ap not (untouched_false i ranges untouched) in
    kept_byte stable ranges seed i kept

-- How far a buffer is filled.
use Rattle.std.proofs.Common.{◌≡◌, ℕ, List, [], ◌∷◌, ◌++◌, length, arith, refl, sym, ◌∙◌, append_assoc, append-nil, OnErr, Result, Ok, Err}
use Rattle.hex.specs.Hex.{encode_lower, encode_with, lower_digits}
use Rattle.ledger_bytes.specs.Begins.{Begins}

-- the buffer begins as it did, and with the text that is left it will hold the whole text behind that
pub record IsFilledTo (old now left whole : List ℕ) : Type 0 where
  pub begins : Begins old now
  pub ends : now ++ left ≡ old ++ whole

-- a fact that holds anyway holds at an error
pub OnErr-holds : {T E P : Type 0} (result : Result T E) → P → OnErr result P
OnErr-holds (Ok x) fact = tt
OnErr-holds (Err e) fact = fact

-- what begins with a longer list begins with the list
pub Begins-more : (old mid more new : List ℕ) → Begins old mid → Begins (mid ++ more) new → Begins old new
Begins-more old mid more new first second = record {
  rest = first.rest ++ (more ++ second.rest);
  is = rw (second.is, first.is) (simp append_assoc);
}

-- the digits of joined lists are the lists' digits joined
pub encode_with-append : (digits xs ys : List ℕ) → encode_with digits (xs ++ ys) ≡ encode_with digits xs ++ encode_with digits ys
unfolding encode_with
encode_with-append digits [] ys = refl
encode_with-append digits (x ∷ xs) ys = rw (encode_with-append digits xs ys) refl

-- nothing is left to be turned to digits
pub filled-end : (old now left whole : List ℕ) → IsFilledTo old now (encode_lower left) whole → length left ≡ 0 → now ≡ old ++ whole
unfolding encode_with
filled-end old now [] whole so_far none = sym (append-nil now) ∙ so_far.ends
filled-end old now (byte ∷ left) whole so_far none = absurd (omega arith)

-- a chunk more was turned to digits
pub filled-chunk : (old now left chunk rest whole new : List ℕ) → IsFilledTo old now (encode_lower left) whole → left ≡ chunk ++ rest
    → new ≡ now ++ encode_lower chunk → IsFilledTo old new (encode_lower rest) whole
filled-chunk old now left chunk rest whole new so_far parts is = record {
  begins = record { rest = so_far.begins.rest ++ encode_lower chunk; is = rw (is, so_far.begins.is, append_assoc) refl };
  ends =
      rw (is, append_assoc, ← encode_with-append lower_digits chunk rest, ← parts) so_far.ends;
}

-- The parts of a text, as they are cut off one at a time.
use Rattle.std.proofs.Common.{◌≡◌, ℕ, ◌+◌, ◌-◌, ◌<◌, ◌==◌, List, [], ◌∷◌, length, take, drop, Bool, true, false, Option, Some, sym, None, Err, subst, refl, cond, arith, position}
use Rattle.std.specs.List.{position_or_len}
use Rattle.std.proofs.lemmas.Bool.{ltb-true, ltb-false, le-ltb, lt-ltb}
use Rattle.std.proofs.lemmas.Grind.{common_steps}
use Rattle.std.proofs.lemmas.List.Elements.{All-from_get_or}
use Rattle.std.proofs.lemmas.List.Splits.{length-slice_split, slice_split_first, slice_split_none}
use Rattle.std.proofs.lemmas.List.Sums.{fails_before_first, position_or_len_is}
use Rattle.std.proofs.lemmas.Option.{cond_some}
use Rattle.memchr.specs.Find.{IsFirstByte, is_byte}
use Rattle.script_lines.specs.Parts.{parts}
use Rattle.script_lines.specs.Fields.{end_from}
use Rattle.ledger_bytes.specs.declared.refusal.Refusal.TheVariants.{BadField}

-- a list of one or more fields isn't at its end
end_from-some : (column : ℕ) (fields : List (List ℕ)) → 0 < length fields → end_from column fields ≡ Err (BadField column)
end_from-some column [] some = absurd (omega arith)
end_from-some column (field ∷ fields) some = refl

-- a text has one or more parts
pub parts-some : (separator : ℕ) (text : List ℕ) → 0 < length (parts separator text)
parts-some separator text = omega (arith, length-slice_split (λ (b : ℕ). b == separator) text)

-- the parts of a text aren't at their end
pub end_from-parts : (column separator : ℕ) (text : List ℕ) → end_from column (parts separator text) ≡ Err (BadField column)
end_from-parts column separator text =
    end_from-some column (parts separator text) (parts-some separator text)

-- a test that isn't true is false
fails_where : (b : Bool) → ¬ (b ≡ true) → b ≡ false
fails_where true not = absurd (not refl)
fails_where false not = refl

-- up to the first separator stands the first part, and behind it the others
pub parts_at : (separator : ℕ) (text : List ℕ) (at : ℕ) → position (λ b. b == separator) text ≡ Some at
    → parts separator text ≡ take at text ∷ parts separator (take (length text - (at + 1)) (drop (at + 1) text))
parts_at separator text at is =
    let test : ℕ → Bool = λ b. b == separator in
    let found = cond_some _ _ _ is in
    let inside = ltb-true (position_or_len test text) (length text) found.0 in
    let split = slice_split_first test text 0 inside in
    let rest : take (length text - (at + 1)) (drop (at + 1) text) ≡ drop (at + 1) text = grind (arith, common_steps) in
    rw rest (subst (λ n. parts separator text ≡ take n text ∷ parts separator (drop (n + 1) text)) found.1 split)

-- the first place that a search finds is the position
pub position-first : (byte : ℕ) (text : List ℕ) (found : Option ℕ) → IsFirstByte (is_byte byte) text found
    → found ≡ position (λ b. b == byte) text
position-first byte text None nowhere =
    let test : ℕ → Bool = λ b. b == byte in
    let at = position_or_len_is test text (length text) 0 (omega arith) (λ k below. fails_where _ (nowhere k (omega arith) below)) (λ past. absurd (omega arith)) in
    sym (rw at (rw (le-ltb (length text) (length text) (omega arith)) refl))
position-first byte text (Some k) first =
    let test : ℕ → Bool = λ b. b == byte in
    let inside = first.0.high in
    let at = position_or_len_is test text k 0 (omega arith) (λ j below. fails_where _ (first.0.before j (omega arith) below)) (λ _. first.1) in
    sym (rw at (rw (lt-ltb k (length text) inside) refl))

-- a choice of something came out as nothing
cond_none : {A : Type 0} (b : Bool) (x : A) → cond b (Some x) None ≡ None → b ≡ false
cond_none true x is = cc
cond_none false x is = refl

-- a text without a separator is its one part
pub parts_none : (separator : ℕ) (text : List ℕ) → position (λ b. b == separator) text ≡ None
    → parts separator text ≡ text ∷ []
parts_none separator text is =
    let test : ℕ → Bool = λ b. b == separator in
    let whole = ltb-false (position_or_len test text) (length text) (cond_none _ _ is) in
    slice_split_none test text
    (All-from_get_or (λ b. test b ≡ false) text 0 (λ k below. fails_before_first test text k 0 (omega arith)))

-- Numbers as decimal digits.
use Rattle.std.proofs.Common.{◌≡◌, ℕ, suc, ◌+◌, ◌-◌, ◌*◌, ◌^◌, ◌<◌, ◌≤◌, ◌==◌, List, [], ◌∷◌, length, drop, get_or, slice_index, ◌&&◌, ◌||◌, not, nat_le, nat_lt, if◌then◌else◌, Bool, true, Some, None, decimal, refl, sym, ap, ◌∙◌, inl, inr, arith}
use Rattle.std.specs.Char.{is_ascii_digit}
use Rattle.std.specs.List.{list_all}
use Rattle.std.proofs.lemmas.Bool.{and_from, and_parts, cases_eq, cond-true, leb-true, le-leb, ltb-true, lt-ltb}
use Rattle.std.proofs.lemmas.Bool.Decides.{nat_tests}
use Rattle.std.proofs.lemmas.Fmt.{decimal-digits_value, decimal_digit, decimal_nonempty, digits_decimal, digits_value-decimal, first_decimal}
use Rattle.std.proofs.lemmas.Option.{cond_some}
use Rattle.std.proofs.lemmas.Str.Parse.{IsDigitsTest, IsNumeralModel, numerals_by_fold}
use Rattle.std.proofs.Math.Seq.{drop-cons}
use Rattle.script_lines.specs.Spellings.{is_decimal, number_of, value_behind}

-- more digits make no smaller number
value_behind-least : (read : ℕ) (digits : List ℕ) → read ≤ value_behind read digits
value_behind-least read [] = omega arith
value_behind-least read (digit ∷ digits) =
    let rest = value_behind-least (read * 10 + (digit - 48)) digits in omega (arith, rest)

-- a value over the limit is none
none_over : (b : Bool) (value most : ℕ) → most < value → (if b && nat_le value most then Some value else None) ≡ None
none_over b value most over = grind (arith)

-- a text is no number where one digit more would pass the limit
pub number_of-passed : (most read i : ℕ) (text : List ℕ) → value_behind 0 text ≡ value_behind read (drop i text)
    → i < length text → most < read * 10 + (get_or text i 0 - 48) → number_of most text ≡ None
number_of-passed most read i text is here passed =
    let digit = get_or text i 0 in
    let rest = value_behind-least (read * 10 + (digit - 48)) (drop (suc i) text) in
    let cut = ap (value_behind read) (drop-cons text i 0 here) in
    none_over (is_decimal text) (value_behind 0 text) most (omega (arith, is, cut, rest))

-- the test of all bytes tells digits
tells_digits : IsDigitsTest (λ digits. list_all is_ascii_digit digits ≡ true)
tells_digits = record {
  empty = refl;
  parts = λ c cs all.
      let k = and_parts (is_ascii_digit c) (list_all is_ascii_digit cs) all in
      let m = and_parts (nat_le 48 c) (nat_le c 57) k.0 in
      ((leb-true 48 c m.0, leb-true c 57 m.1), k.1);
  more = λ c cs k all. and_from (is_ascii_digit c) (list_all is_ascii_digit cs) (and_from (nat_le 48 c) (nat_le c 57) (le-leb 48 c k.0) (le-leb c 57 k.1)) all;
}

-- the digits' value is the one that decimal digits have
pub numerals : IsNumeralModel (λ digits. list_all is_ascii_digit digits ≡ true) (value_behind 0)
numerals = numerals_by_fold (λ digits. list_all is_ascii_digit digits ≡ true) tells_digits value_behind (record { empty = λ n. refl; more = λ n c cs k. refl })

-- where the first digit is a zero it stands alone
alone : (len first : ℕ) → first ≡ 48 → (len == 1 || not (first == 48)) ≡ true → len ≡ 1
alone len first zero_first test = grind (arith, nat_tests)

-- the digits of a number have no zero in front of others
no_zero_first : (n : ℕ) → n < 2 ^ 64 → (length (decimal n) == 1 || not (slice_index (decimal n) 0 == 48)) ≡ true
no_zero_first n small =
    elim (cases_eq n 0) [
      | inl none ↦ rw (none, decimal_digit 0 (omega arith)) refl
      | inr other ↦
          let first = first_decimal n (omega arith) small in
          grind (arith, nat_tests)
    ]

-- what is read as a number is its decimal digits
pub decimal-number_of : (most n : ℕ) (text : List ℕ) → most < 2 ^ 64 → number_of most text ≡ Some n → text ≡ decimal n
decimal-number_of most n text fits is =
    let value = value_behind 0 text in
    let found = cond_some _ _ _ is in
    let tests = and_parts (is_decimal text) (nat_le value most) found.0 in
    let parts = and_parts (nat_lt 0 (length text) && list_all is_ascii_digit text) _ tests.0 in
    let front = and_parts (nat_lt 0 (length text)) (list_all is_ascii_digit text) parts.0 in
    let small = leb-true value most tests.1 in
    sym (
    decimal-digits_value numerals text front.1 (ltb-true 0 (length text) front.0)
    (λ zero_first. alone (length text) (slice_index text 0) zero_first parts.1) (omega arith)
    ) ∙ ap decimal found.1

-- a number's decimal digits are read as that number
pub number_of-decimal : (most n : ℕ) → most < 2 ^ 64 → n ≤ most → number_of most (decimal n) ≡ Some n
number_of-decimal most n fits low =
    let small : n < 2 ^ 64 = omega arith in
    let value = digits_value-decimal numerals n small in
    let some = lt-ltb 0 (length (decimal n)) (decimal_nonempty n small) in
    let digits = and_from _ _ some (digits_decimal numerals n small) in
    let plain = and_from _ _ digits (no_zero_first n small) in
    let within : nat_le (value_behind 0 (decimal n)) most ≡ true = rw value (le-leb n most low) in
    cond-true _ _ _ (and_from _ _ plain within) ∙ ap (λ m. Some m) value

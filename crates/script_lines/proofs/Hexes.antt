-- Bytes as hexadecimal digits.
use Rattle.std.proofs.Common.{◌≡◌, ℕ, ◌*◌, ◌/◌, ◌%◌, ◌≤◌, ◌&&◌, ◌↔◌, List, [], ◌∷◌, length, nat_le, false, Result, Ok, Err, IsTrue, IsSome, refl, sym, ap, ◌∙◌, arith}
use Rattle.std.specs.Char.{is_ascii_hexdigit}
use Rattle.std.specs.List.{list_all}
use Rattle.std.specs.Result.{result_ok}
use Rattle.std.proofs.lemmas.Bool.{and_from, cond-true, cond-false, le-leb}
use Rattle.std.proofs.lemmas.Bool.Decides.{nat_tests}
use Rattle.std.proofs.lemmas.List.Sums.{AllPass-from_list_all, list_all-from_AllPass}
use Rattle.hex.specs.Hex.{decode_of, is_hex_digit}
use Rattle.hex.specs.declared.error.FromHexError.{FromHexError}
use Rattle.hex.proofs.HexLemmas.{decode_of-ok, decode_of-digits}
use Rattle.script_lines.specs.Spellings.{bytes_of, is_dash}

-- a hexadecimal digit is one in both words
same_digit : (c : ℕ) → is_ascii_hexdigit c ≡ is_hex_digit c
same_digit c = grind (arith, nat_tests)

same_digits : (text : List ℕ) → list_all is_ascii_hexdigit text ≡ list_all is_hex_digit text
same_digits [] = refl
same_digits (c ∷ text) = ap (λ b. b && list_all is_ascii_hexdigit text) (same_digit c) ∙ ap (λ b. is_hex_digit c && b) (same_digits text)

-- a result that is there
found : (read : Result (List ℕ) FromHexError) → IsSome (result_ok read) → (bytes : List ℕ) × (read ≡ Ok bytes)
found (Ok bytes) h = (bytes, refl)
found (Err e) h = cc h

-- a text of even length is bytes where it is digits alone
pub are_bytes : (most : ℕ) (text : List ℕ) → is_dash text ≡ false → 2 ≤ length text → length text % 2 ≡ 0 → length text / 2 ≤ most
    → IsTrue (list_all is_ascii_hexdigit text) ↔ IsSome (bytes_of most text)
are_bytes most text word least even few =
    let short : length text ≤ 2 * most = omega arith in
    let fits = and_from (nat_le 2 (length text)) (nat_le (length text) (2 * most)) (le-leb 2 (length text) least) (le-leb (length text) (2 * most) short) in
    let is : bytes_of most text ≡ result_ok (decode_of text) = cond-false _ _ _ word ∙ cond-true _ _ _ fits in (
      λ digits.
          let all = AllPass-from_list_all is_hex_digit text (sym (same_digits text) ∙ digits) in
          let read = decode_of-digits text even all in
          rw (is, read.1) refl,
      λ some.
          let read = found (decode_of text) (rw is at some) in
          same_digits text ∙ list_all-from_AllPass is_hex_digit text (decode_of-ok text read.0 read.1).1,
    )

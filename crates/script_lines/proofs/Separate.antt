-- Numbers, bytes and approvals as they are written: which separators don't stand in them, and what is read of them.
use Rattle.std.proofs.Common.{◌≡◌, ℕ, ◌-◌, ◌*◌, ◌^◌, ◌<◌, ◌≤◌, ◌==◌, ◌&&◌, nat_le, nat_eq, inl, inr, lit<, Bool, true, false, List, [], ◌∷◌, ◌++◌, length, map, length-append, All, codes, decimal, Some, refl, sym, ap, ◌∙◌, append-nil, arith}
use Rattle.std.specs.Char.{is_ascii_digit}
use Rattle.std.specs.Result.{result_ok}
use Rattle.std.proofs.lemmas.Bool.{and_from, cases_eq, cond-true, cond-false, le-leb}
use Rattle.std.proofs.lemmas.Bool.Decides.{nat_tests}
use Rattle.std.proofs.lemmas.Fmt.{decimal_nonempty, digits_decimal}
use Rattle.std.proofs.lemmas.List.{length-map}
use Rattle.std.proofs.lemmas.List.Elements.{All-append, All-cons, All-head, All-nil, All-tail, All-weaker}
use Rattle.std.proofs.lemmas.List.Splits.{slice_split_at, slice_split_none}
use Rattle.std.proofs.lemmas.List.Sums.{AllPass-from_list_all}
use Rattle.hex.specs.Hex.{IsBytes, encode_lower, lower_digits, is_hex_digit}
use Rattle.hex.proofs.HexLemmas.{decode_of-encode_lower, decode_of-ok, length-encode_with}
use Rattle.ledger_bytes.specs.declared.limits.TheConstants.{APPROVAL_LIMIT}
use Rattle.script_lines.specs.Parts.{parts, all_of}
use Rattle.script_lines.specs.Sayings.{approval_text, approvals_behind, approvals_text, IsShort, IsSayableApproval}
use Rattle.script_lines.specs.Spellings.{number_of, bytes_of, is_dash, approval_from, approval_of, approvals_from, approvals_of}
use Rattle.script_lines.specs.Words.{hex_or_dash}
use Rattle.script_lines.specs.declared.said.SaidApproval.{SaidApproval}
use Rattle.script_lines.proofs.Numbers.{number_of-decimal, numerals}

-- a separator stands nowhere in a text
abbrev pub Without : ℕ → List ℕ → Type 0
Without separator text = All (λ byte. (byte == separator) ≡ false) text

-- a byte that passes a test which a separator doesn't pass is no separator
other : (separator : ℕ) (p : ℕ → Bool) → p separator ≡ false → (byte : ℕ) → p byte ≡ true → (byte == separator) ≡ false
other separator p never byte passes =
    elim (cases_eq byte separator) [
      | inl is ↦ cc (sym (ap p is), never, passes)
      | inr differs ↦ grind (arith, nat_tests)
    ]

pub decimal-whole : (separator : ℕ) → is_ascii_digit separator ≡ false → (n : ℕ) → n < 2 ^ 64 → Without separator (decimal n)
decimal-whole separator no_digit n small =
    All-weaker (λ c. is_ascii_digit c ≡ true) (λ byte. (byte == separator) ≡ false) (other separator is_ascii_digit no_digit) (decimal n)
    (AllPass-from_list_all is_ascii_digit (decimal n) (digits_decimal numerals n small))

pub digits-whole : (separator : ℕ) → is_hex_digit separator ≡ false → (bytes : List ℕ) → IsBytes bytes → Without separator (encode_lower bytes)
digits-whole separator no_digit bytes are =
    let decoded = decode_of-ok (encode_lower bytes) bytes (decode_of-encode_lower bytes are) in
    All-weaker (λ c. is_hex_digit c ≡ true) (λ byte. (byte == separator) ≡ false) (other separator is_hex_digit no_digit) (encode_lower bytes) decoded.1

pub dash-whole : (separator : ℕ) → (45 == separator) ≡ false → Without separator (codes "-")
dash-whole separator no_dash = All-cons (λ byte. (byte == separator) ≡ false) 45 [] no_dash (All-nil (λ byte. (byte == separator) ≡ false))

pub hex-whole : (separator : ℕ) → is_hex_digit separator ≡ false → (45 == separator) ≡ false → (bytes : List ℕ) → IsBytes bytes → Without separator (hex_or_dash bytes)
hex-whole separator no_digit no_dash [] are = dash-whole separator no_dash
hex-whole separator no_digit no_dash (byte ∷ bytes) are = digits-whole separator no_digit (byte ∷ bytes) are

approval-whole : (separator : ℕ) → is_ascii_digit separator ≡ false → is_hex_digit separator ≡ false → (45 == separator) ≡ false → (58 == separator) ≡ false
    → (by : SaidApproval) → IsSayableApproval by → Without separator (approval_text by)
approval-whole separator no_digit no_hex no_dash no_colon by is =
    All-append (λ byte. (byte == separator) ≡ false) (decimal by.member) (58 ∷ hex_or_dash by.proof)
    (decimal-whole separator no_digit by.member (omega (arith, is.member)))
    (All-cons (λ byte. (byte == separator) ≡ false) 58 (hex_or_dash by.proof) no_colon (hex-whole separator no_hex no_dash by.proof is.proof.1))

behind-whole : (separator : ℕ) → is_ascii_digit separator ≡ false → is_hex_digit separator ≡ false → (45 == separator) ≡ false → (58 == separator) ≡ false
    → (44 == separator) ≡ false → (given : List SaidApproval) → All IsSayableApproval given → Without separator (approvals_behind given)
behind-whole separator no_digit no_hex no_dash no_colon no_comma [] are = All-nil (λ byte. (byte == separator) ≡ false)
behind-whole separator no_digit no_hex no_dash no_colon no_comma (by ∷ given) are =
    All-cons (λ byte. (byte == separator) ≡ false) 44 (approval_text by ++ approvals_behind given) no_comma
    (All-append (λ byte. (byte == separator) ≡ false) (approval_text by) (approvals_behind given)
    (approval-whole separator no_digit no_hex no_dash no_colon by (All-head IsSayableApproval by given are))
    (behind-whole separator no_digit no_hex no_dash no_colon no_comma given (All-tail IsSayableApproval by given are)))

pub approvals-whole : (separator : ℕ) → is_ascii_digit separator ≡ false → is_hex_digit separator ≡ false → (45 == separator) ≡ false → (58 == separator) ≡ false
    → (44 == separator) ≡ false → (given : List SaidApproval) → All IsSayableApproval given → Without separator (approvals_text given)
approvals-whole separator no_digit no_hex no_dash no_colon no_comma [] are = dash-whole separator no_dash
approvals-whole separator no_digit no_hex no_dash no_colon no_comma (by ∷ given) are =
    All-append (λ byte. (byte == separator) ≡ false) (approval_text by) (approvals_behind given)
    (approval-whole separator no_digit no_hex no_dash no_colon by (All-head IsSayableApproval by given are))
    (behind-whole separator no_digit no_hex no_dash no_colon no_comma given (All-tail IsSayableApproval by given are))

-- two bytes and more are no dash
and_false : (b : Bool) → (b && false) ≡ false
and_false true = refl
and_false false = refl

dash-short : (text : List ℕ) → 2 ≤ length text → is_dash text ≡ false
dash-short [] long = absurd (omega arith)
dash-short (x ∷ []) long = absurd (omega arith)
dash-short (x ∷ y ∷ rest) long = and_false (nat_eq x 45)

pub bytes_of-hex : (most : ℕ) (bytes : List ℕ) → IsShort most bytes → bytes_of most (hex_or_dash bytes) ≡ Some bytes
bytes_of-hex most [] short = refl
bytes_of-hex most (byte ∷ bytes) short =
    let text = encode_lower (byte ∷ bytes) in
    let size = length-encode_with lower_digits (byte ∷ bytes) in
    let long : 2 ≤ length text = omega (arith, size) in
    let within : length text ≤ 2 * most = omega (arith, size, short.0) in
    cond-false (is_dash text) _ _ (dash-short text long)
    ∙ cond-true (nat_le 2 (length text) && nat_le (length text) (2 * most)) _ _ (and_from _ _ (le-leb 2 (length text) long) (le-leb (length text) (2 * most) within))
    ∙ ap result_ok (decode_of-encode_lower (byte ∷ bytes) short.1)

pub number_of-word : (n : ℕ) → n < 2 ^ 32 → number_of (2 ^ 32 - 1) (decimal n) ≡ Some n
number_of-word n small = number_of-decimal (2 ^ 32 - 1) n (lit< tt) (omega arith)

-- the parts of an approval are its number and its proof
approval_of-text : (by : SaidApproval) → IsSayableApproval by → approval_of (approval_text by) ≡ Some by
approval_of-text by is =
    let number = decimal by.member in
    let proof = hex_or_dash by.proof in
    let split : parts 58 (approval_text by) ≡ number ∷ proof ∷ [] =
    slice_split_at (λ b. b == 58) number 58 proof (decimal-whole 58 refl by.member (omega (arith, is.member))) refl
    ∙ ap (λ others. number ∷ others) (slice_split_none (λ b. b == 58) proof (hex-whole 58 refl refl by.proof is.proof.1)) in
    ap approval_from split ∙ rw (number_of-word by.member is.member, bytes_of-hex 4096 by.proof is.proof) refl

-- the parts of approvals are the approvals
parts-approvals : (by : SaidApproval) (given : List SaidApproval) → IsSayableApproval by → All IsSayableApproval given
    → parts 44 (approval_text by ++ approvals_behind given) ≡ approval_text by ∷ map approval_text given
parts-approvals by [] is are =
    ap (parts 44) (append-nil (approval_text by)) ∙ slice_split_none (λ b. b == 44) (approval_text by) (approval-whole 44 refl refl refl refl by is)
parts-approvals by (next ∷ given) is are =
    slice_split_at (λ b. b == 44) (approval_text by) 44 (approval_text next ++ approvals_behind given) (approval-whole 44 refl refl refl refl by is) refl
    ∙ ap (λ others. approval_text by ∷ others) (parts-approvals next given (All-head IsSayableApproval next given are) (All-tail IsSayableApproval next given are))

all_of-texts : (given : List SaidApproval) → All IsSayableApproval given → all_of approval_of (map approval_text given) ≡ Some given
all_of-texts [] are = refl
all_of-texts (by ∷ given) are =
    rw (approval_of-text by (All-head IsSayableApproval by given are), all_of-texts given (All-tail IsSayableApproval by given are)) refl

pub approvals_of-text : (given : List SaidApproval) → length given ≤ APPROVAL_LIMIT → All IsSayableApproval given → approvals_of (approvals_text given) ≡ Some given
approvals_of-text [] few are = refl
approvals_of-text (by ∷ given) few are =
    let is = All-head IsSayableApproval by given are in
    let rest = All-tail IsSayableApproval by given are in
    let text = approval_text by ++ approvals_behind given in
    let some = decimal_nonempty by.member (omega (arith, is.member)) in
    let long : 2 ≤ length text = omega (arith, some, length-append (decimal by.member) (58 ∷ hex_or_dash by.proof), length-append (approval_text by) (approvals_behind given)) in
    let count = length-map (by ∷ given) approval_text in
    cond-false (is_dash text) _ _ (dash-short text long)
    ∙ ap approvals_from (parts-approvals by given is rest)
    ∙ cond-true (nat_le (length (map approval_text (by ∷ given))) APPROVAL_LIMIT) _ _ (le-leb (length (map approval_text (by ∷ given))) APPROVAL_LIMIT (omega (arith, count, few)))
    ∙ all_of-texts (by ∷ given) are

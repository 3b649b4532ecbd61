-- A line's text is read as the line.
use Rattle.std.proofs.Common.{◌≡◌, ℕ, ◌-◌, ◌^◌, ◌<◌, ◌==◌, ◌&&◌, nat_le, nat_lt, not, if◌then◌else◌, lit<, Bool, true, false, List, [], ◌∷◌, ◌++◌, length, codes, decimal, Some, Result, Ok, refl, ap, ◌∙◌, append-nil, arith}
use Rattle.std.specs.List.{list_all}
use Rattle.std.specs.Result.{result_ok}
use Rattle.std.specs.Option.{option_map}
use Rattle.std.proofs.lemmas.Bool.{and_from, cond-true, cond-false, eqb-true, false_from_ne_true, le-leb, lt-ltb}
use Rattle.std.proofs.lemmas.List.Elements.{All-weaker}
use Rattle.std.proofs.lemmas.List.Splits.{slice_split_at, slice_split_none}
use Rattle.std.proofs.lemmas.List.Sums.{AllPass-from_list_all}
use Rattle.std.proofs.lemmas.Slice.Eq.{bytes_eq-Decides}
use Rattle.hex.specs.Hex.{IsBytes}
use Rattle.hex.proofs.HexLemmas.{decode_sized-encode_lower}
use Rattle.ledger_bytes.specs.Digests.{digest}
use Rattle.ledger_bytes.specs.declared.digest.Digest.{Digest}
use Rattle.ledger_bytes.specs.declared.refusal.Refusal.{Refusal}
use Rattle.script_lines.specs.Fields.{field_at, optional_at, end_at}
use Rattle.script_lines.specs.Grammar.{◌>>=◌, append_at, member_at, anchor_at, occult_at, clue_occult_at, purge_at, get_at, prove_at, extend_at, clue_at, head_at, spoken_line, spoken_at}
use Rattle.script_lines.specs.Parts.{parts}
use Rattle.script_lines.specs.Sayings.{approvals_text, clue_text, number_words, line_words, line_text, IsOneField, IsName, IsClue, IsSayable}
use Rattle.script_lines.specs.Spellings.{text_of, request_number_of, count_of, digest_of, clue_of, name_of, is_dash}
use Rattle.script_lines.specs.Words.{hex_of, hex_or_dash, spaced_words, which_text}
use Rattle.script_lines.specs.declared.line.Line.{Line}
use Rattle.script_lines.specs.declared.line.Line.TheVariants.{Append, NewMember, Anchor, Occult, OccultClue, Purge, Get, Prove, Extend, Clue, Head}
use Rattle.script_lines.specs.declared.said.Which.{Which}
use Rattle.script_lines.specs.declared.said.Which.TheVariants.{Ledger, Notary}
use Rattle.script_lines.specs.declared.said.SaidApproval.{SaidApproval}
use Rattle.script_lines.proofs.Numbers.{number_of-decimal}
use Rattle.script_lines.proofs.Separate.{decimal-whole, digits-whole, dash-whole, hex-whole, approvals-whole, number_of-word, bytes_of-hex, approvals_of-text}

-- no space stands in any of some words
abbrev AreFields : List (List ℕ) → Type 0
AreFields [] = Unit {0}
AreFields (word ∷ words) = IsOneField word × AreFields words

-- the fields of words with a space between are the words
parts-spaced : (text : List ℕ) (words : List (List ℕ)) → IsOneField text → AreFields words → parts 32 (text ++ spaced_words words) ≡ text ∷ words
parts-spaced text [] whole rest = ap (parts 32) (append-nil text) ∙ slice_split_none (λ b. b == 32) text whole
parts-spaced text (word ∷ words) whole rest =
    slice_split_at (λ b. b == 32) text 32 (word ++ spaced_words words) whole refl
    ∙ ap (λ others. text ∷ others) (parts-spaced word words rest.0 rest.1)

clue-whole : (clue : List ℕ) → IsClue clue → IsOneField (clue_text clue)
clue-whole [] is = dash-whole 32 refl
clue-whole (byte ∷ name) is = is.0.whole

digest_of-hex : (key : Digest) → length key.0 ≡ 32 → IsBytes key.0 → digest_of (hex_of key) ≡ Some key
digest_of-hex key whole are = ap (λ read. option_map digest (result_ok read)) (decode_sized-encode_lower key.0 32 whole are)

name_of-name : (name : List ℕ) → IsName name → name_of name ≡ Some name
name_of-name name is =
    cond-true (nat_lt 0 (length name) && nat_le (length name) 64) _ _ (and_from _ _ (lt-ltb 0 (length name) is.some) (le-leb (length name) 64 is.short))

differs : (b : Bool) → ¬ (b ≡ true) → b ≡ false
differs true never = absurd (never refl)
differs false never = refl

clue_of-text : (clue : List ℕ) → IsClue clue → clue_of (clue_text clue) ≡ Some clue
clue_of-text [] is = refl
clue_of-text (byte ∷ name) is =
    let never : is_dash (byte ∷ name) ≡ false = differs (is_dash (byte ∷ name)) (λ passes. is.1 ((bytes_eq-Decides (byte ∷ name) (codes "-")).0 passes)) in
    cond-false (is_dash (byte ∷ name)) _ _ never ∙ name_of-name (byte ∷ name) is.0

-- the number of a request is read from its words
request_number_of-decimal : (number : ℕ) → (number == 0) ≡ false → number < 2 ^ 64 → request_number_of (decimal number) ≡ Some number
request_number_of-decimal number some small = rw (number_of-decimal (2 ^ 64 - 1) number (lit< tt) (omega arith), some) refl

none_is : (number : ℕ) → (number == 0) ≡ true → 0 ≡ number
none_is number none = grind arith

append_at-words : (member : ℕ) (clue content proof : List ℕ) (number : ℕ) → IsSayable (Append member clue content proof number)
    → append_at (record { column = 3; fields = decimal member ∷ clue_text clue ∷ hex_or_dash content ∷ hex_or_dash proof ∷ number_words number }) ≡ Ok (Append member clue content proof number)
unfolding append_at
append_at-words member clue content proof number is =
    let m = number_of-word member is.0 in
    let c = clue_of-text clue is.1 in
    let b = bytes_of-hex 1048576 content is.2 in
    let p = bytes_of-hex 4096 proof is.3 in
    rw (m, c, b, p) (by (number == 0) (none_is number) (λ some. request_number_of-decimal number some is.4)) where
      line : ℕ → Line
      line = Append member clue content proof

      by : (none : Bool) → (none ≡ true → 0 ≡ number) → (none ≡ false → request_number_of (decimal number) ≡ Some number)
          → (optional_at request_number_of 0 (record { column = 7; fields = if none then [] else decimal number ∷ [] }) >>= (λ read. end_at read.1 >>= (λ end. Ok (line read.0)))) ≡ Ok (line number)
      by true zero_is read = ap (λ n. Ok (line n)) (zero_is refl)
      by false zero_is read = rw (read refl) refl

member_at-words : (number : ℕ) (key : Digest) (proof : List ℕ) → IsSayable (NewMember number key proof)
    → member_at (record { column = 3; fields = decimal number ∷ hex_of key ∷ hex_or_dash proof ∷ [] }) ≡ Ok (NewMember number key proof)
unfolding member_at
member_at-words number key proof is =
    let n = number_of-word number is.0 in
    let k = digest_of-hex key is.1 is.2 in
    let p = bytes_of-hex 4096 proof is.3 in
    rw (n, k, p) refl

anchor_at-words : anchor_at (record { column = 3; fields = [] }) ≡ Ok Anchor
unfolding anchor_at
anchor_at-words = refl

occult_at-words : (target : ℕ) (leaf : Digest) (given : List SaidApproval) → IsSayable (Occult target leaf given)
    → occult_at (record { column = 3; fields = decimal target ∷ hex_of leaf ∷ approvals_text given ∷ [] }) ≡ Ok (Occult target leaf given)
unfolding occult_at
occult_at-words target leaf given is =
    let n = number_of-decimal (2 ^ 64 - 1) target (lit< tt) (omega (arith, is.0)) in
    let l = digest_of-hex leaf is.1 is.2 in
    let g = approvals_of-text given is.3 is.4 in
    rw (n, l, g) refl

count_of-decimal : (count : ℕ) → 0 < count → count < 2 ^ 32 → count_of (decimal count) ≡ Some count
count_of-decimal count some small = rw (number_of-word count small, false_from_ne_true (count == 0) (λ none. let zero_is : count ≡ 0 = eqb-true count 0 none in omega (arith, zero_is, some))) refl

clue_occult_at-words : (name : List ℕ) (count : ℕ) (given : List SaidApproval) → IsSayable (OccultClue name count given)
    → clue_occult_at (record { column = 3; fields = clue_text name ∷ decimal count ∷ approvals_text given ∷ [] }) ≡ Ok (OccultClue name count given)
unfolding clue_occult_at
clue_occult_at-words name count given is =
    let n = clue_of-text name is.0 in
    let c = count_of-decimal count is.1 is.2 in
    let g = approvals_of-text given is.3 is.4 in
    rw (n, c, g) refl

purge_at-words : (point : ℕ) (root : Digest) (given : List SaidApproval) → IsSayable (Purge point root given)
    → purge_at (record { column = 3; fields = decimal point ∷ hex_of root ∷ approvals_text given ∷ [] }) ≡ Ok (Purge point root given)
unfolding purge_at
purge_at-words point root given is =
    let n = number_of-decimal (2 ^ 64 - 1) point (lit< tt) (omega (arith, is.0)) in
    let r = digest_of-hex root is.1 is.2 in
    let g = approvals_of-text given is.3 is.4 in
    rw (n, r, g) refl

get_at-words : (n : ℕ) → n < 2 ^ 64 → get_at (record { column = 3; fields = decimal n ∷ [] }) ≡ Ok (Get n)
unfolding get_at
get_at-words n small = rw (number_of-decimal (2 ^ 64 - 1) n (lit< tt) (omega arith)) refl

prove_at-words : (n : ℕ) → n < 2 ^ 64 → prove_at (record { column = 3; fields = decimal n ∷ [] }) ≡ Ok (Prove n)
unfolding prove_at
prove_at-words n small = rw (number_of-decimal (2 ^ 64 - 1) n (lit< tt) (omega arith)) refl

extend_at-words : (which : Which) (m : ℕ) → m < 2 ^ 64 → extend_at (record { column = 3; fields = which_text which ∷ decimal m ∷ [] }) ≡ Ok (Extend which m)
unfolding extend_at
extend_at-words Ledger m small = rw (number_of-decimal (2 ^ 64 - 1) m (lit< tt) (omega arith)) refl
extend_at-words Notary m small = rw (number_of-decimal (2 ^ 64 - 1) m (lit< tt) (omega arith)) refl

clue_at-words : (name : List ℕ) → IsClue name → clue_at (record { column = 3; fields = clue_text name ∷ [] }) ≡ Ok (Clue name)
unfolding clue_at
clue_at-words name is = rw (clue_of-text name is) refl

head_at-words : head_at (record { column = 3; fields = [] }) ≡ Ok Head
unfolding head_at
head_at-words = refl

negated : (b : Bool) → not b ≡ true → b ≡ false
negated true never = cc
negated false passes = refl

-- the words of a line are fields
literal-whole : (word : List ℕ) → list_all (λ byte. not (byte == 32)) word ≡ true → IsOneField word
literal-whole word each = All-weaker (λ c. not (c == 32) ≡ true) (λ byte. (byte == 32) ≡ false) (λ c passes. negated (c == 32) passes) word (AllPass-from_list_all (λ byte. not (byte == 32)) word each)

which-whole : (which : Which) → IsOneField (which_text which)
which-whole Ledger = literal-whole (codes "ledger") refl
which-whole Notary = literal-whole (codes "notary") refl

number-whole : (number : ℕ) → number < 2 ^ 64 → AreFields (number_words number)
number-whole number small = elim (number == 0) as (λ none. AreFields (if none then [] else decimal number ∷ [])) [
  | true ↦ tt
  | false ↦ (decimal-whole 32 refl number small, tt)
]

words-whole : (line : Line) → IsSayable line → AreFields (line_words line)
words-whole (Append member clue content proof number) is =
    (literal-whole (codes "append") refl, (decimal-whole 32 refl member (omega arith), (clue-whole clue is.1, (hex-whole 32 refl refl content is.2.1, (hex-whole 32 refl refl proof is.3.1, number-whole number is.4)))))
words-whole (NewMember number key proof) is =
    (literal-whole (codes "member") refl, (decimal-whole 32 refl number (omega arith), (digits-whole 32 refl key.0 is.2, (hex-whole 32 refl refl proof is.3.1, tt))))
words-whole Anchor is = (literal-whole (codes "anchor") refl, tt)
words-whole (Occult target leaf given) is =
    (literal-whole (codes "occult") refl, (decimal-whole 32 refl target is.0, (digits-whole 32 refl leaf.0 is.2, (approvals-whole 32 refl refl refl refl refl given is.4, tt))))
words-whole (OccultClue name count given) is =
    (literal-whole (codes "occultclue") refl, (clue-whole name is.0, (decimal-whole 32 refl count (omega (arith, is.2)), (approvals-whole 32 refl refl refl refl refl given is.4, tt))))
words-whole (Purge point root given) is =
    (literal-whole (codes "purge") refl, (decimal-whole 32 refl point is.0, (digits-whole 32 refl root.0 is.2, (approvals-whole 32 refl refl refl refl refl given is.4, tt))))
words-whole (Get n) is = (literal-whole (codes "get") refl, (decimal-whole 32 refl n is, tt))
words-whole (Prove n) is = (literal-whole (codes "prove") refl, (decimal-whole 32 refl n is, tt))
words-whole (Extend which m) is = (literal-whole (codes "extend") refl, (which-whole which, (decimal-whole 32 refl m is, tt)))
words-whole (Clue name) is = (literal-whole (codes "clue") refl, (clue-whole name is, tt))
words-whole Head is = (literal-whole (codes "head") refl, tt)

-- a line by all its fields
abbrev said_by : List (List ℕ) → ℕ × Result Line Refusal
said_by fields = spoken_at (field_at text_of (record { column = 1; fields = fields }))

said_by-words : (line : Line) → IsSayable line → (let said : ℕ × Result Line Refusal = (0, Ok line) in said_by (codes "0" ∷ line_words line) ≡ said)
said_by-words (Append member clue content proof number) is = ap (λ (read : Result Line Refusal). (0, read)) (append_at-words member clue content proof number is)
said_by-words (NewMember number key proof) is = ap (λ (read : Result Line Refusal). (0, read)) (member_at-words number key proof is)
said_by-words Anchor is = ap (λ (read : Result Line Refusal). (0, read)) anchor_at-words
said_by-words (Occult target leaf given) is = ap (λ (read : Result Line Refusal). (0, read)) (occult_at-words target leaf given is)
said_by-words (OccultClue name count given) is = ap (λ (read : Result Line Refusal). (0, read)) (clue_occult_at-words name count given is)
said_by-words (Purge point root given) is = ap (λ (read : Result Line Refusal). (0, read)) (purge_at-words point root given is)
said_by-words (Get n) is = ap (λ (read : Result Line Refusal). (0, read)) (get_at-words n is)
said_by-words (Prove n) is = ap (λ (read : Result Line Refusal). (0, read)) (prove_at-words n is)
said_by-words (Extend which m) is = ap (λ (read : Result Line Refusal). (0, read)) (extend_at-words which m is)
said_by-words (Clue name) is = ap (λ (read : Result Line Refusal). (0, read)) (clue_at-words name is)
said_by-words Head is = ap (λ (read : Result Line Refusal). (0, read)) head_at-words

pub spoken-line_text : (line : Line) → IsSayable line → (let said : ℕ × Result Line Refusal = (0, Ok line) in spoken_line (line_text line) ≡ said)
unfolding spoken_line
spoken-line_text line is = ap said_by (parts-spaced (codes "0") (line_words line) (literal-whole (codes "0") refl) (words-whole line is)) ∙ said_by-words line is

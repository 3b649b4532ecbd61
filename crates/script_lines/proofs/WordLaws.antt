-- The words of each reply have neither a space nor a newline.
use Rattle.std.specs.Prelude.{codes, decimal, nat_lt}
use Rattle.std.specs.Fmt.{digit_glyph, digits_onto, digits}
use Rattle.std.specs.List.{list_all}
use Rattle.std.proofs.Common.{◌≡◌, ◌≢◌, ◌==◌, true, false, cond, refl, ℕ, zero, suc, ◌+◌, ◌/◌, ◌%◌, ◌<◌, List, [], ◌∷◌, ◌++◌, get_or, Option, Some, None, lit<, arith}
use Rattle.std.proofs.lemmas.Bool.{and_parts, ltb-true}
use Rattle.hex.specs.Hex.{encode_lower, encode_with, lower_digits}
use Rattle.ledger_bytes.specs.declared.refusal.Refusal.{Refusal}
use Rattle.ledger_bytes.specs.declared.refusal.Refusal.TheVariants as refusals
use Rattle.script_lines.specs.Replies.{reply_words, refusal_words, stamp_words, time_mark}
use Rattle.script_lines.specs.Words.{hex_or_dash, mark_text, list_text, behind_commas, which_text}
use Rattle.script_lines.specs.declared.said.Which.{Which}
use Rattle.script_lines.specs.declared.said.Which.TheVariants.{Ledger, Notary}
use Rattle.script_lines.specs.declared.reply.Reply.{Reply}
use Rattle.script_lines.specs.declared.reply.Reply.TheVariants.{Placed, Whole, Occulted, Proof, Extension, Clue, Head, Refused}
use Rattle.script_lines.specs.Receipts.{IsWord, AreWords}

-- words one behind the other, digits and numbers
pub word_more : (xs ys : List ℕ) → IsWord xs → IsWord ys → IsWord (xs ++ ys)
word_more [] ys x y = y
word_more (b ∷ bs) ys x y = (x.0, x.1, word_more bs ys x.2 y)

-- one character more
char : (b : ℕ) (bs : List ℕ) → 32 < b → IsWord bs → IsWord (b ∷ bs)
char b bs high w = (λ is. omega (arith, high, is), λ is. omega (arith, high, is), w)

-- what stands at a place of a table, or else 0, is no space and no newline
abbrev IsPlain : ℕ → Type 0
IsPlain b = (b ≢ 32) × (b ≢ 10)

plain_at : (t : List ℕ) (k : ℕ) → IsWord t → IsPlain (get_or t k 0)
plain_at [] k w = (λ is. omega (arith, is), λ is. omega (arith, is))
plain_at (b ∷ bs) zero w = (w.0, w.1)
plain_at (b ∷ bs) (suc k) w = plain_at bs k w.2

-- a literal text
pub literal : (w : List ℕ) → list_all (λ b. nat_lt 32 b) w ≡ true → IsWord w
literal [] is = tt
literal (b ∷ bs) is = let parts = and_parts (nat_lt 32 b) (list_all (λ c. nat_lt 32 c) bs) is in char b bs (ltb-true 32 b parts.0) (literal bs parts.1)

digits_word : IsWord lower_digits
digits_word = literal lower_digits refl

-- hexadecimal digits, of whatever numbers
pub hex_word : (xs : List ℕ) → IsWord (encode_lower xs)
unfolding encode_with
hex_word [] = tt
hex_word (b ∷ bs) =
    let high = plain_at lower_digits (b / 16) digits_word in
    let low = plain_at lower_digits (b % 16) digits_word in
    (high.0, high.1, (low.0, low.1, hex_word bs))

glyph_high : (d : ℕ) → 32 < digit_glyph false d
glyph_high d = elim (nat_lt d 10) as (λ v. 32 < cond v (48 + d) (87 + d)) [ true ↦ omega arith | false ↦ omega arith ]

onto_word : (k n : ℕ) (acc : List ℕ) → IsWord acc → IsWord (digits_onto k 10 false n acc)
onto_word zero n acc w = w
onto_word (suc k) n acc w =
    let more : IsWord (digit_glyph false (n % 10) ∷ acc) = char (digit_glyph false (n % 10)) acc (glyph_high (n % 10)) w in
    elim (n / 10 == 0) as (λ v. IsWord (cond v (digit_glyph false (n % 10) ∷ acc) (digits_onto k 10 false (n / 10) (digit_glyph false (n % 10) ∷ acc)))) [ true ↦ more | false ↦ onto_word k (n / 10) (digit_glyph false (n % 10) ∷ acc) more ]

-- .. and decimal ones
pub decimal_word : (n : ℕ) → IsWord (decimal n)
unfolding digits
decimal_word n = onto_word 64 n [] tt

dash : IsWord (codes "-")
dash = literal (codes "-") refl

hex_dash : (xs : List ℕ) → IsWord (hex_or_dash xs)
hex_dash [] = dash
hex_dash (b ∷ bs) = hex_word (b ∷ bs)

mark_word : (m : Option (ℕ × ℕ × ℕ)) → IsWord (mark_text (time_mark m))
mark_word None = dash
mark_word (Some m) = word_more (decimal m.0 ++ codes ":" ++ decimal m.1 ++ codes ":") (decimal m.2) (word_more (decimal m.0 ++ codes ":" ++ decimal m.1) (codes ":") (word_more (decimal m.0 ++ codes ":") (decimal m.1) (word_more (decimal m.0) (codes ":") (decimal_word m.0) (literal (codes ":") refl)) (decimal_word m.1)) (literal (codes ":") refl)) (decimal_word m.2)

commas_word : (ns : List ℕ) → IsWord (behind_commas ns)
commas_word [] = tt
commas_word (n ∷ ns) = char 44 _ (lit< tt) (word_more (decimal n) (behind_commas ns) (decimal_word n) (commas_word ns))

list_word : (ns : List ℕ) → IsWord (list_text ns)
list_word [] = dash
list_word (n ∷ ns) = word_more (decimal n) (behind_commas ns) (decimal_word n) (commas_word ns)

which_word : (w : Which) → IsWord (which_text w)
which_word Ledger = literal (codes "ledger") refl
which_word Notary = literal (codes "notary") refl

number : (n : ℕ) → AreWords (decimal n ∷ [])
number n = (decimal_word n, tt)

coded : (code n : ℕ) → AreWords (decimal code ∷ decimal n ∷ [])
coded code n = (decimal_word code, (decimal_word n, tt))

refusal_are : (r : Refusal) → AreWords (refusal_words r)
refusal_are refusals.BadVerb = number 10
refusal_are (refusals.BadField column) = coded 11 column
refusal_are refusals.BadLane = number 12
refusal_are (refusals.Damaged kept found) = (decimal_word 13, (hex_word kept.0, (hex_word found.0, tt)))
refusal_are (refusals.UnknownMember member) = coded 14 member
refusal_are (refusals.WrongKey member) = coded 15 member
refusal_are (refusals.MissingApproval member) = coded 16 member
refusal_are (refusals.ApprovalOrder at) = coded 17 at
refusal_are (refusals.MemberNumber next) = coded 18 next
refusal_are refusals.MembersFull = number 19
refusal_are (refusals.NoJournal size) = coded 20 size
refusal_are (refusals.Purged point) = coded 21 point
refusal_are (refusals.NotData kind) = coded 22 kind
refusal_are (refusals.NotTime kind) = coded 23 kind
refusal_are (refusals.AlreadyOcculted by) = coded 24 by
refusal_are (refusals.LeafDiffers kept) = (decimal_word 25, (hex_word kept.0, tt))
refusal_are (refusals.RootDiffers kept) = (decimal_word 26, (hex_word kept.0, tt))
refusal_are refusals.NotaryFault = number 27
refusal_are refusals.NotaryFull = number 28
refusal_are (refusals.Full kept size) = (decimal_word 29, (decimal_word kept, (decimal_word size, tt)))
refusal_are (refusals.BadSize size) = coded 33 size
refusal_are refusals.CluesFull = number 42
refusal_are (refusals.NumberTaken jsn) = coded 48 jsn
refusal_are (refusals.ClueDiffers count) = coded 49 count
refusal_are refusals.NothingToHide = number 50

stamp_are : (s : Option (ℕ × ℕ)) → AreWords (stamp_words s)
stamp_are None = tt
stamp_are (Some s) = (decimal_word s.0, (decimal_word s.1, tt))

-- the words of a reply
pub reply_are : (r : Reply) → AreWords (reply_words r)
reply_are (Placed jsn leaf block size root stamp) = (
  literal (codes "ok") refl,
  (decimal_word jsn, (hex_word leaf.0, (decimal_word block, (decimal_word size, (hex_word root.0, stamp_are stamp))))),
)
reply_are (Whole header content who) = (literal (codes "whole") refl, (hex_dash header, (hex_dash content, (hex_dash who, tt))))
reply_are (Occulted header who) = (literal (codes "occulted") refl, (hex_dash header, (hex_dash who, tt)))
reply_are (Proof n leaf lo hi proof) =
    (literal (codes "proof") refl, (decimal_word n, (hex_word leaf.0, (mark_word lo, (mark_word hi, (hex_dash proof, tt))))))
reply_are (Extension which m size root proof) =
    (literal (codes "extension") refl, (which_word which, (decimal_word m, (decimal_word size, (hex_word root.0, (hex_dash proof, tt))))))
reply_are (Clue count kept) = (literal (codes "clue") refl, (decimal_word count, (list_word kept, tt)))
reply_are (Head id size root blocks point notary_size notary_root) = (
  literal (codes "head") refl,
  (hex_word id.0, (decimal_word size, (hex_word root.0, (decimal_word blocks, (decimal_word point, (decimal_word notary_size, (hex_word notary_root.0, tt))))))),
)
reply_are (Refused refusal) = (literal (codes "no") refl, refusal_are refusal)

-- Lemmas on the lines of an audit's text: each reply is one.
use Rattle.std.specs.Prelude.{codes, decimal}
use Rattle.std.proofs.Common.{◌≡◌, ◌≢◌, refl, ap, ◌∙◌, ℕ, zero, suc, ◌+◌, ◌/◌, ◌%◌, ◌==◌, nat_lt, Bool, true, false, if◌then◌else◌, List, [], ◌∷◌, ◌++◌, length, get_or, arith, append_assoc}
use Rattle.std.proofs.lemmas.List.Elements.{All-nil, All-cons, All-append}
use Rattle.std.specs.Fmt.{digit_glyph, digits_onto, digits}
use Rattle.ledger_bytes.specs.Codes.{refusal_code}
use Rattle.ledger_bytes.specs.declared.refusal.Refusal.{Refusal}
use Rattle.ledger_bytes.specs.declared.refusal.Refusal.TheVariants as refusals
use Rattle.ledger_io.specs.Lines.{IsUnbroken, lines_of}
use Rattle.ledger_io.proofs.LineLemmas.{lines_of-line}
use Rattle.script_lines.specs.Receipts.{IsWord, AreWords}
use Rattle.script_lines.specs.Replies.{refusal_fields}
use Rattle.script_lines.specs.Words.{hex_or_dash, spaced_words}
use Rattle.script_lines.proofs.WordLaws.{hex_word, literal}
use Rattle.tree_model.specs.Tree.{Hash}
use Rattle.audit_core.specs.Trust.{Trust}
use Rattle.audit_core.specs.declared.refusal.No.{No}
use Rattle.audit_core.specs.declared.refusal.No.TheVariants as nos
use Rattle.audit_cli.specs.declared.reply.Reply.{Reply}
use Rattle.audit_cli.specs.declared.reply.Reply.TheVariants as reply
use Rattle.audit_cli.specs.Answers.{answer_to, trust_after}
use Rattle.audit_cli.specs.Replies.{no_words, reply_words, reply_text, IsOneLine}
use Rattle.audit_cli.specs.Texts.{trust_through, text_from}

-- ---- words

-- one digit in front of others
digit_word : (small : Bool) (d : ℕ) (acc : List ℕ) → IsWord acc → IsWord ((if small then 48 + d else 87 + d) ∷ acc)
digit_word true d acc w = (λ is. omega (arith, is), λ is. omega (arith, is), w)
digit_word false d acc w = (λ is. omega (arith, is), λ is. omega (arith, is), w)

either_word : (last : Bool) (x y : List ℕ) → IsWord x → IsWord y → IsWord (if last then x else y)
either_word true x y first second = first
either_word false x y first second = second

digits_word : (k n : ℕ) (acc : List ℕ) → IsWord acc → IsWord (digits_onto k 10 false n acc)
digits_word zero n acc w = w
digits_word (suc k) n acc w =
    let more = digit_word (nat_lt (n % 10) 10) (n % 10) acc w in
    either_word (n / 10 == 0) _ _ more (digits_word k (n / 10) (digit_glyph false (n % 10) ∷ acc) more)

-- a number, however large
number_word : (n : ℕ) → IsWord (decimal n)
unfolding digits
number_word n = digits_word 64 n [] tt

hex_dash_word : (bytes : List ℕ) → IsWord (hex_or_dash bytes)
hex_dash_word [] = literal (codes "-") refl
hex_dash_word (b ∷ bytes) = hex_word (b ∷ bytes)

-- ---- replies

no_are : (why : No) → AreWords (no_words why)
no_are (nos.HeadUnknown size) = (number_word 34, (number_word size, tt))
no_are nos.LeafPath = (number_word 35, tt)
no_are nos.LowerBound = (number_word 36, tt)
no_are nos.UpperBound = (number_word 37, tt)
no_are nos.NotaryPath = (number_word 38, tt)
no_are nos.TimesCross = (number_word 39, tt)
no_are nos.ClaimDiffers = (number_word 40, tt)
no_are (nos.Malformed at) = (number_word 41, (number_word at, tt))
no_are nos.BadExtension = (number_word 43, tt)
no_are (nos.HeadDiffers kept) = (number_word 44, (hex_word kept.0, tt))
no_are nos.HeadsFull = (number_word 45, tt)

fields_are : (r : Refusal) → AreWords (refusal_fields r)
fields_are refusals.BadVerb = tt
fields_are (refusals.BadField column) = (number_word column, tt)
fields_are refusals.BadLane = tt
fields_are (refusals.Damaged kept found) = (hex_word kept.0, (hex_word found.0, tt))
fields_are (refusals.UnknownMember member) = (number_word member, tt)
fields_are (refusals.WrongKey member) = (number_word member, tt)
fields_are (refusals.MissingApproval member) = (number_word member, tt)
fields_are (refusals.ApprovalOrder at) = (number_word at, tt)
fields_are (refusals.MemberNumber next) = (number_word next, tt)
fields_are refusals.MembersFull = tt
fields_are (refusals.NoJournal size) = (number_word size, tt)
fields_are (refusals.Purged point) = (number_word point, tt)
fields_are (refusals.NotData kind) = (number_word kind, tt)
fields_are (refusals.NotTime kind) = (number_word kind, tt)
fields_are (refusals.AlreadyOcculted by) = (number_word by, tt)
fields_are (refusals.LeafDiffers kept) = (hex_word kept.0, tt)
fields_are (refusals.RootDiffers kept) = (hex_word kept.0, tt)
fields_are refusals.NotaryFault = tt
fields_are refusals.NotaryFull = tt
fields_are (refusals.Full kept size) = (number_word kept, (number_word size, tt))
fields_are (refusals.BadSize size) = (number_word size, tt)
fields_are refusals.CluesFull = tt
fields_are (refusals.NumberTaken jsn) = (number_word jsn, tt)
fields_are (refusals.ClueDiffers count) = (number_word count, tt)
fields_are refusals.NothingToHide = tt

reply_are : (given : Reply) → AreWords (reply_words given)
reply_are reply.Yes = (literal (codes "yes") refl, tt)
reply_are (reply.No why) = (literal (codes "no") refl, no_are why)
reply_are reply.True = (literal (codes "true") refl, tt)
reply_are (reply.Unaccepted why) = (literal (codes "unaccepted") refl, no_are why)
reply_are (reply.Clash told truth) = (literal (codes "clash") refl, (hex_dash_word told, (hex_dash_word truth, tt)))
reply_are (reply.Refused refusal) = (literal (codes "no") refl, (number_word (refusal_code refusal), fields_are refusal))

-- ---- lines

word_unbroken : (word : List ℕ) → IsWord word → IsUnbroken word
word_unbroken [] w = All-nil (λ b. b ≢ 10)
word_unbroken (b ∷ word) w = All-cons (λ b. b ≢ 10) b word w.1 (word_unbroken word w.2)

spaced_unbroken : (words : List (List ℕ)) → AreWords words → IsUnbroken (spaced_words words)
spaced_unbroken [] are = All-nil (λ b. b ≢ 10)
spaced_unbroken (word ∷ words) are =
    All-cons (λ b. b ≢ 10) 32 (word ++ spaced_words words) (λ is. omega (arith, is))
    (All-append (λ b. b ≢ 10) word (spaced_words words) (word_unbroken word are.0) (spaced_unbroken words are.1))

-- the words of a reply behind its number
abbrev pub words_of : ℕ → Reply → List ℕ
words_of number given = decimal number ++ spaced_words (reply_words given)

reply_unbroken : (number : ℕ) (given : Reply) → IsUnbroken (words_of number given)
reply_unbroken number given = All-append (λ b. b ≢ 10) (decimal number) (spaced_words (reply_words given)) (word_unbroken (decimal number) (number_word number)) (spaced_unbroken (reply_words given) (reply_are given))

pub reply_line : (number : ℕ) (given : Reply) → IsOneLine (reply_text number given)
reply_line number given = record { front = words_of number given; is = refl; unbroken = reply_unbroken number given }

-- a reply in front of a text is its first line
first_line : (number : ℕ) (given : Reply) (rest : List ℕ) → lines_of (reply_text number given ++ rest) ≡ words_of number given ∷ lines_of rest
first_line number given rest = ap lines_of (append_assoc (words_of number given) (codes "\n") rest) ∙ lines_of-line (words_of number given) rest (reply_unbroken number given)

-- the line of a text that answers a line of a script
pub text_line : (hash : Hash) (trust : Trust) (number : ℕ) (before : List (List ℕ)) (line : List ℕ) (rest : List (List ℕ))
    → get_or (lines_of (text_from hash trust number (before ++ line ∷ rest))) (length before) []
    ≡ words_of (length before + number) (answer_to hash (trust_through hash trust before) line)
text_line hash trust number [] line rest =
    let given = answer_to hash trust line in
    let none : number ≡ 0 + number = omega arith in
    ap (λ (ls : List (List ℕ)). get_or ls 0 []) (first_line number given (text_from hash (trust_after hash trust line) (number + 1) rest)) ∙ ap (λ n. words_of n given) none
text_line hash trust number (first ∷ before) line rest =
    let behind = trust_after hash trust first in
    let one : length before + (number + 1) ≡ length (first ∷ before) + number = omega arith in
    ap (λ (ls : List (List ℕ)). get_or ls (length (first ∷ before)) []) (first_line number (answer_to hash trust first) (text_from hash behind (number + 1) (before ++ line ∷ rest)))
    ∙ text_line hash behind (number + 1) before line rest
    ∙ ap (λ n. words_of n (answer_to hash (trust_through hash behind before) line)) one

pub text_lines : (hash : Hash) (trust : Trust) (number : ℕ) (lines : List (List ℕ)) → length (lines_of (text_from hash trust number lines)) ≡ length lines
text_lines hash trust number [] = refl
text_lines hash trust number (line ∷ lines) =
    let behind = trust_after hash trust line in
    let more = first_line number (answer_to hash trust line) (text_from hash behind (number + 1) lines) in
    omega (arith, ap length more, text_lines hash behind (number + 1) lines)

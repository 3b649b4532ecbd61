-- Each whole line that is a receipt is that of one of the replies that were written.
use Rattle.std.specs.Prelude.{codes, decimal, ◌==◌, not}
use Rattle.std.specs.List.{list_all}
use Rattle.std.proofs.Common.{◌≡◌, ◌≢◌, ◌⊎◌, inl, inr, ℕ, ◌+◌, ◌%◌, ◌^◌, ◌<◌, ◌≤◌, Bool, true, false, cond, List, [], ◌∷◌, ◌++◌, length, get_or, drop, Option, refl, sym, ◌∙◌, ap, subst, arith, eq-eqb, append_assoc, append-nil}
use Rattle.std.proofs.lemmas.Bool.{eqb-true, false_from_ne_true, and_parts, true≢false}
use Rattle.std.proofs.lemmas.Fmt.{decimal_by_steps, decimal_injective}
use Rattle.hex.specs.Hex.{IsBytes, encode_lower, decode_of}
use Rattle.hex.proofs.HexLemmas.{decode_of-encode_lower, decode_of-same}
use Rattle.ledger_bytes.specs.declared.digest.Digest.{Digest}
use Rattle.script_lines.specs.Replies.{reply_words, refusal_words, stamp_words, time_mark}
use Rattle.script_lines.specs.Words.{spaced_words, hex_of, hex_or_dash, mark_text, which_text, list_text}
use Rattle.script_lines.specs.declared.reply.Reply.{Reply}
use Rattle.script_lines.specs.declared.reply.Reply.TheVariants.{Placed, Whole, Occulted, Proof, Extension, Clue, Head, Refused}
use Rattle.ledger_bytes.specs.Digests.{digest}
use Rattle.script_lines.specs.Receipts.{lines_after, whole_lines, IsAmong, reply_line, IsReceipted, Told, told_text, OfReceipt, EachReceipt, IsWord, AreWords, ReplyFits, FitsReply, AllFit, IsLineOf}
use Rattle.script_lines.proofs.WordLaws.{word_more, literal, hex_word, decimal_word, reply_are}

abbrev IsUnbroken : List ℕ → Type 0
IsUnbroken [] = Unit {0}
IsUnbroken (b ∷ bs) = (b ≢ 10) × IsUnbroken bs

unbroken_more : (xs ys : List ℕ) → IsUnbroken xs → IsUnbroken ys → IsUnbroken (xs ++ ys)
unbroken_more [] ys x y = y
unbroken_more (b ∷ bs) ys x y = (x.0, unbroken_more bs ys x.1 y)

word_unbroken : (xs : List ℕ) → IsWord xs → IsUnbroken xs
word_unbroken [] x = tt
word_unbroken (b ∷ bs) x = (x.1, word_unbroken bs x.2)

-- the first word of a line
first_word : (lane index : ℕ) → IsWord (decimal lane ++ codes "." ++ decimal index)
first_word lane index = word_more (decimal lane ++ codes ".") (decimal index) (word_more (decimal lane) (codes ".") (decimal_word lane) (literal (codes ".") refl)) (decimal_word index)

-- a word before a space
words_same : (a b c : List ℕ) (ws : List (List ℕ)) → IsWord a → IsWord b → a ++ 32 ∷ c ≡ b ++ spaced_words ws → (a ≡ b) × (32 ∷ c ≡ spaced_words ws)
words_same [] [] c ws x y is = (refl, is)
words_same [] (b ∷ bs) c ws x y is = absurd (y.0 (sym (ap (λ (l : List ℕ). get_or l 0 0) is)))
words_same (a ∷ as_) [] c [] x y is = absurd cc
words_same (a ∷ as_) [] c (w ∷ ws) x y is = absurd (x.0 (ap (λ (l : List ℕ). get_or l 0 0) is))
words_same (a ∷ as_) (b ∷ bs) c ws x y is =
    let more = words_same as_ bs c ws x.2 y.2 (ap (λ (l : List ℕ). drop 1 l) is) in
    (ap (λ (n : ℕ). n ∷ as_) (ap (λ (l : List ℕ). get_or l 0 0) is) ∙ ap (λ (l : List ℕ). b ∷ l) more.0, more.1)

spaced_unbroken : (ws : List (List ℕ)) → AreWords ws → IsUnbroken (spaced_words ws)
spaced_unbroken [] a = tt
spaced_unbroken (w ∷ ws) a = (λ is. cc, unbroken_more w (spaced_words ws) (word_unbroken w a.0) (spaced_unbroken ws a.1))

line_unbroken : (t : Told) → IsUnbroken (reply_line t.lane t.index t.reply)
line_unbroken t = unbroken_more (decimal t.lane ++ codes "." ++ decimal t.index) (spaced_words (reply_words t.reply)) (word_unbroken (decimal t.lane ++ codes "." ++ decimal t.index) (first_word t.lane t.index)) (spaced_unbroken (reply_words t.reply) (reply_are t.reply))

lines_line : (l begun rest : List ℕ) → IsUnbroken l → lines_after begun (l ++ 10 ∷ rest) ≡ (begun ++ l) ∷ lines_after [] rest
lines_line [] begun rest u = ap (λ (m : List ℕ). m ∷ lines_after [] rest) (sym (append-nil begun))
lines_line (b ∷ bs) begun rest u =
    ap (λ (v : Bool). cond v (begun ∷ lines_after [] (bs ++ 10 ∷ rest)) (lines_after (begun ++ b ∷ []) (bs ++ 10 ∷ rest))) (false_from_ne_true (b == 10) (λ is. u.0 (eqb-true b 10 is)))
    ∙ lines_line bs (begun ++ b ∷ []) rest u.1 ∙ ap (λ (m : List ℕ). m ∷ lines_after [] rest) (append_assoc begun (b ∷ []) bs)

has_prefix : (p q begun x : List ℕ) → IsAmong (lines_after begun p) x → IsAmong (lines_after begun (p ++ q)) x
has_prefix [] q begun x h = absurd h
has_prefix (b ∷ bs) q begun x h = by_byte (λ m. has_prefix bs q [] x m) (λ m. has_prefix bs q (begun ++ b ∷ []) x m) (b == 10) h where
  by_byte : (IsAmong (lines_after [] bs) x → IsAmong (lines_after [] (bs ++ q)) x) → (IsAmong (lines_after (begun ++ b ∷ []) bs) x → IsAmong (lines_after (begun ++ b ∷ []) (bs ++ q)) x) → (v : Bool) → IsAmong (cond v (begun ∷ lines_after [] bs) (lines_after (begun ++ b ∷ []) bs)) x → IsAmong (cond v (begun ∷ lines_after [] (bs ++ q)) (lines_after (begun ++ b ∷ []) (bs ++ q))) x
  by_byte f g true (inl same) = inl same
  by_byte f g true (inr more) = inr (f more)
  by_byte f g false h = g h

-- the line of a reply that is a receipt
module _ (P : ℕ → Digest → Type 0) (lane index jsn : ℕ) (leaf : Digest) (block size : ℕ) (root : Digest) (stamp : Option (ℕ × ℕ)) (ll : lane < 2 ^ 64) (ii : index < 2 ^ 64) (jj : jsn < 2 ^ 64) (bytes : IsBytes leaf.0) where
  abbrev receipt : Reply
  receipt = Placed jsn leaf block size root stamp

  abbrev line : List ℕ
  line = reply_line lane index receipt

  -- its words behind the first
  behind_first : (t : Told) → FitsReply t → reply_line t.lane t.index t.reply ≡ line → spaced_words (reply_words receipt) ≡ spaced_words (reply_words t.reply)
  behind_first t f is = (words_same (decimal lane ++ codes "." ++ decimal index) (decimal t.lane ++ codes "." ++ decimal t.index) (codes "ok" ++ spaced_words (decimal jsn ∷ hex_of leaf ∷ decimal block ∷ decimal size ∷ hex_of root ∷ stamp_words stamp)) (reply_words t.reply) (first_word lane index) (first_word t.lane t.index) (sym is)).1

  ok_word : IsWord (codes "ok")
  ok_word = literal (codes "ok") refl

  -- another word stands where "ok" does
  not_ok : (w : List ℕ) (ws : List (List ℕ)) → IsWord w → codes "ok" ≢ w → spaced_words (reply_words receipt) ≡ spaced_words (w ∷ ws) → P jsn leaf
  not_ok w ws ww other is = absurd (other (words_same (codes "ok") w (decimal jsn ++ spaced_words (hex_of leaf ∷ decimal block ∷ decimal size ∷ hex_of root ∷ stamp_words stamp)) ws ok_word ww (ap (λ (l : List ℕ). drop 1 l) is)).0)

  placed_same : (j : ℕ) (l : Digest) (ws : List (List ℕ)) → P j l → (j < 2 ^ 64) × IsBytes l.0 → spaced_words (reply_words receipt) ≡ spaced_words (codes "ok" ∷ decimal j ∷ hex_of l ∷ ws) → P jsn leaf
  placed_same j l ws p fits is =
      let one = words_same (codes "ok") (codes "ok") (decimal jsn ++ spaced_words (hex_of leaf ∷ decimal block ∷ decimal size ∷ hex_of root ∷ stamp_words stamp)) (decimal j ∷ hex_of l ∷ ws) ok_word ok_word (ap (λ (l : List ℕ). drop 1 l) is) in
      let two = words_same (decimal jsn) (decimal j) (hex_of leaf ++ spaced_words (decimal block ∷ decimal size ∷ hex_of root ∷ stamp_words stamp)) (hex_of l ∷ ws) (decimal_word jsn) (decimal_word j) (ap (λ (l : List ℕ). drop 1 l) one.1) in
      let three = words_same (encode_lower leaf.0) (encode_lower l.0) (decimal block ++ spaced_words (decimal size ∷ hex_of root ∷ stamp_words stamp)) ws (hex_word leaf.0) (hex_word l.0) (ap (λ (l : List ℕ). drop 1 l) two.1) in
      let number : j ≡ jsn = sym (decimal_injective jsn j jj fits.0 two.0) in
      let same : l.0 ≡ leaf.0 = sym (decode_of-same (encode_lower leaf.0) leaf.0 l.0 (decode_of-encode_lower leaf.0 bytes) (ap decode_of three.0 ∙ decode_of-encode_lower l.0 fits.1)) in
      subst (λ (m : ℕ). P m leaf) number (subst (λ (x : List ℕ). P j (digest x)) same p)

  other_at : (i k : ℕ) (w : List ℕ) (ws : List (List ℕ)) → IsWord w → get_or w i 0 ≡ k → (get_or (codes "ok") i 0 ≡ k → ⊥) → spaced_words (reply_words receipt) ≡ spaced_words (w ∷ ws) → P jsn leaf
  other_at i k w ws ww at other is = not_ok w ws ww (λ same. other (ap (λ (l : List ℕ). get_or l i 0) same ∙ at)) is

  by_reply : (r : Reply) → OfReceipt P r → ReplyFits r → spaced_words (reply_words receipt) ≡ spaced_words (reply_words r) → AreWords (reply_words r) → P jsn leaf
  by_reply (Placed j l b s r st) p fits is ws = placed_same j l (decimal b ∷ decimal s ∷ hex_of r ∷ stamp_words st) p (fits.0, fits.1) is
  by_reply (Whole header content who) p fits is ws = other_at 0 119 (codes "whole") (hex_or_dash header ∷ hex_or_dash content ∷ hex_or_dash who ∷ []) ws.0 refl (λ e. omega (arith, e)) is
  by_reply (Occulted header who) p fits is ws = other_at 1 99 (codes "occulted") (hex_or_dash header ∷ hex_or_dash who ∷ []) ws.0 refl (λ e. omega (arith, e)) is
  by_reply (Proof n l lo hi proof) p fits is ws = other_at 0 112 (codes "proof") (decimal n ∷ hex_of l ∷ mark_text (time_mark lo) ∷ mark_text (time_mark hi) ∷ hex_or_dash proof ∷ []) ws.0 refl (λ e. omega (arith, e)) is
  by_reply (Extension which m s r proof) p fits is ws = other_at 0 101 (codes "extension") (which_text which ∷ decimal m ∷ decimal s ∷ hex_of r ∷ hex_or_dash proof ∷ []) ws.0 refl (λ e. omega (arith, e)) is
  by_reply (Clue count kept) p fits is ws = other_at 0 99 (codes "clue") (decimal count ∷ list_text kept ∷ []) ws.0 refl (λ e. omega (arith, e)) is
  by_reply (Head id s r blocks point notary_size notary_root) p fits is ws = other_at 0 104 (codes "head") (hex_of id ∷ decimal s ∷ hex_of r ∷ decimal blocks ∷ decimal point ∷ decimal notary_size ∷ hex_of notary_root ∷ []) ws.0 refl (λ e. omega (arith, e)) is
  by_reply (Refused refusal) p fits is ws = other_at 0 110 (codes "no") (refusal_words refusal) ws.0 refl (λ e. omega (arith, e)) is

  among : (ts : List Told) (tail : List ℕ) → AllFit ts → EachReceipt P ts → (IsAmong (whole_lines tail) line → P jsn leaf) → IsAmong (whole_lines (told_text ts ++ tail)) line → P jsn leaf
  among [] tail f e behind h = behind h
  among (t ∷ ts) tail f e behind h = pick (λ m. among ts tail f.1 e.1 behind m) (subst (λ (ls : List (List ℕ)). IsAmong ls line) parted h) where
    parted : whole_lines (told_text (t ∷ ts) ++ tail) ≡ reply_line t.lane t.index t.reply ∷ whole_lines (told_text ts ++ tail)
    parted =
        ap (λ (l : List ℕ). lines_after [] l) (append_assoc (reply_line t.lane t.index t.reply ++ codes "\n") (told_text ts) tail ∙ append_assoc (reply_line t.lane t.index t.reply) (codes "\n") (told_text ts ++ tail))
        ∙ lines_line (reply_line t.lane t.index t.reply) [] (told_text ts ++ tail) (line_unbroken t)

    pick : (IsAmong (whole_lines (told_text ts ++ tail)) line → P jsn leaf) → IsAmong (reply_line t.lane t.index t.reply ∷ whole_lines (told_text ts ++ tail)) line → P jsn leaf
    pick go (inl same) = by_reply t.reply e.0 f.0.reply (behind_first t f.0 same) (reply_are t.reply)
    pick go (inr more) = go more

-- Where replies were written, and then maybe a tail in which no line is a receipt: each whole line that is a receipt is one of the replies', so what is said of each of their receipts is true of it.
pub receipted : (P : ℕ → Digest → Type 0) (ts : List Told) (tail part rest : List ℕ) (jsn : ℕ) (leaf : Digest) → part ++ rest ≡ told_text ts ++ tail → AllFit ts → EachReceipt P ts → (IsReceipted tail jsn leaf → ⊥) → IsReceipted part jsn leaf → P jsn leaf
receipted P ts tail part rest jsn leaf is f e none r =
    among P r.lane r.index jsn leaf r.block r.size r.root r.stamp r.lane_fits r.index_fits r.jsn_fits r.leaf_fits ts tail f e
    (λ h. absurd (none (record {
      lane = r.lane;
      index = r.index;
      block = r.block;
      size = r.size;
      root = r.root;
      stamp = r.stamp;
      line = h;
      lane_fits = r.lane_fits;
      index_fits = r.index_fits;
      jsn_fits = r.jsn_fits;
      leaf_fits = r.leaf_fits;
    })))
    (subst (λ (l : List ℕ). IsAmong (whole_lines l) (reply_line r.lane r.index (Placed jsn leaf r.block r.size r.root r.stamp))) is
    (has_prefix part rest [] (reply_line r.lane r.index (Placed jsn leaf r.block r.size r.root r.stamp)) r.line))

-- Where replies were written, and then maybe a tail: each whole line of it is that of one of the replies, or one of the tail.
written_among : (ts : List Told) (tail found : List ℕ) → IsAmong (whole_lines (told_text ts ++ tail)) found → IsLineOf ts found ⊎ IsAmong (whole_lines tail) found
written_among [] tail found h = inr h
written_among (t ∷ ts) tail found h = pick (λ m. written_among ts tail found m) (subst (λ (ls : List (List ℕ)). IsAmong ls found) parted h) where
  parted : whole_lines (told_text (t ∷ ts) ++ tail) ≡ reply_line t.lane t.index t.reply ∷ whole_lines (told_text ts ++ tail)
  parted =
      ap (λ (l : List ℕ). lines_after [] l) (append_assoc (reply_line t.lane t.index t.reply ++ codes "\n") (told_text ts) tail ∙ append_assoc (reply_line t.lane t.index t.reply) (codes "\n") (told_text ts ++ tail))
      ∙ lines_line (reply_line t.lane t.index t.reply) [] (told_text ts ++ tail) (line_unbroken t)

  behind : IsLineOf ts found ⊎ IsAmong (whole_lines tail) found → IsLineOf (t ∷ ts) found ⊎ IsAmong (whole_lines tail) found
  behind (inl x) = inl (record { told = x.told; one = inr x.one; line_is = x.line_is })
  behind (inr x) = inr x

  pick : (IsAmong (whole_lines (told_text ts ++ tail)) found → IsLineOf ts found ⊎ IsAmong (whole_lines tail) found) → IsAmong (reply_line t.lane t.index t.reply ∷ whole_lines (told_text ts ++ tail)) found → IsLineOf (t ∷ ts) found ⊎ IsAmong (whole_lines tail) found
  pick go (inl same) = inl (record { told = t; one = inl refl; line_is = same })
  pick go (inr more) = behind (go more)

pub line_written : (ts : List Told) (tail part rest found : List ℕ) → part ++ rest ≡ told_text ts ++ tail → IsAmong (whole_lines part) found → IsLineOf ts found ⊎ IsAmong (whole_lines tail) found
line_written ts tail part rest found is h = written_among ts tail found (subst (λ (l : List ℕ). IsAmong (whole_lines l) found) is (has_prefix part rest [] found h))

-- no bytes have a receipt
pub none_receipted : (jsn : ℕ) (leaf : Digest) → IsReceipted [] jsn leaf → ⊥
none_receipted jsn leaf r = r.line

-- a number's first digit
abbrev StartsLow : List ℕ → Type 0
StartsLow ds = (1 ≤ length ds) × (get_or ds 0 0 ≤ 57)

low_more : (ds more : List ℕ) → StartsLow ds → StartsLow (ds ++ more)
low_more [] more s = absurd (omega (arith, s.0))
low_more (d ∷ ds) more s = (omega (arith), s.1)

decimal_low : (n : ℕ) → n < 2 ^ 64 → StartsLow (decimal n)
decimal_low n lt = decimal_by_steps (λ k ds. StartsLow ds) (λ k small. (omega arith, omega (arith, small))) (λ k ds big s. low_more ds ((48 + k % 10) ∷ []) s) n lt

line_unbroken_by : (text : List ℕ) → list_all (λ b. not (b == 10)) text ≡ true → IsUnbroken text
line_unbroken_by [] is = tt
line_unbroken_by (b ∷ bs) is =
    let parts = and_parts (not (b == 10)) (list_all (λ c. not (c == 10)) bs) is in
    (λ same. true≢false (sym parts.0 ∙ ap not (eq-eqb b 10 same)), line_unbroken_by bs parts.1)

line_low : (lane index : ℕ) (reply : Reply) → lane < 2 ^ 64 → StartsLow (reply_line lane index reply)
line_low lane index reply lt = low_more (decimal lane ++ codes "." ++ decimal index) (spaced_words (reply_words reply)) (low_more (decimal lane ++ codes ".") (decimal index) (low_more (decimal lane) (codes ".") (decimal_low lane lt)))

not_low : (first : ℕ) (text line : List ℕ) → 57 < first → StartsLow line → IsAmong ((first ∷ text) ∷ []) line → ⊥
not_low first text line high low (inr more) = more
not_low first text line high low (inl same) = let at : first ≡ get_or line 0 0 = ap (λ (l : List ℕ). get_or l 0 0) same in omega (arith, high, low.1, at)

-- a line that begins with no digit is no receipt
pub no_receipt : (first : ℕ) (text : List ℕ) (jsn : ℕ) (leaf : Digest) → 57 < first → list_all (λ b. not (b == 10)) (first ∷ text) ≡ true → IsReceipted (first ∷ text ++ 10 ∷ []) jsn leaf → ⊥
no_receipt first text jsn leaf high one r =
    not_low first text (reply_line r.lane r.index (Placed jsn leaf r.block r.size r.root r.stamp)) high (line_low r.lane r.index (Placed jsn leaf r.block r.size r.root r.stamp) r.lane_fits)
    (subst (λ (ls : List (List ℕ)). IsAmong ls (reply_line r.lane r.index (Placed jsn leaf r.block r.size r.root r.stamp))) (lines_line (first ∷ text) [] [] (line_unbroken_by (first ∷ text) one)) r.line)

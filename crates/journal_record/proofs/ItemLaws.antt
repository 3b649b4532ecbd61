-- What is read as a journal of a dump is spelled so and keeps the rules, and what does is read.
use Rattle.std.proofs.Common.{◌≡◌, ◌≢◌, ℕ, ◌<◌, ◌≤◌, ◌^◌, true, false, eqb, List, [], ◌∷◌, ◌++◌, length, take, arith, Result, Ok, Err, Option, Some, None, refl, sym, subst, ◌∙◌, zero, suc}
use Rattle.std.specs.Int.{w8, w32, to_be_bytes}
use Rattle.std.specs.Prelude.{nat_le, IfOk}
use Rattle.std.proofs.lemmas.Bool.{le-leb, leb-true, ne_eqb, false≢true}
use Rattle.std.proofs.lemmas.List.{append-nil}
use Rattle.ledger_bytes.specs.declared.failure.Bad.{Bad}
use Rattle.ledger_bytes.specs.declared.failure.Bad.TheVariants.{Short, Trailing}
use Rattle.ledger_bytes.specs.Fields.{Unread, ◌>>=◌, bytes_at, number_at, IsBytes, Took, ReadsBack}
use Rattle.ledger_bytes.proofs.Fields.{bind_ok, ok_is, Took-then, wide32, byte_back, bytes_takes, IsTextOf, text_none, text_then, byte_text, number_text, bytes_text, cut_told, trailing_told}
use Rattle.journal_record.specs.declared.approval.TheConstants.{WHO_LIMIT}
use Rattle.journal_record.specs.declared.header.Header.{Header}
use Rattle.journal_record.specs.Header.{spelling}
use Rattle.journal_record.specs.Reading.{header_at}
use Rattle.journal_record.specs.Items.{Item, IsItem, FitsHeader, body_text, who_text, item_text, state_ok, content_at, body_at, who_place, who_at, item_at, item_of}
use Rattle.journal_record.proofs.ReadingLaws.{back32, at_place, regroup3, IsWhole, header_is, header_back}
use Rattle.journal_record.proofs.ReadingSteps.{plain_takes, field_takes, field_text, answered, whole_takes, whole_told}

-- ---- the content

-- what a state and what follows say of a content
content_takes : (h : Header) (state : ℕ) (l : Unread) (b : Option (List ℕ)) (after : Unread) → IsBytes l.rest → state_ok h state ≡ true → content_at h state l ≡ Ok (b, after)
    → (text : List ℕ) × Took l text after × (body_text b ≡ state ∷ text) × FitsHeader h b
content_takes h zero l b after bytes ok e =
    let a = bind_ok (bytes_at h.content_len l) (λ x. Ok (Some x.0, x.1)) (b, after) e in
    let t = bytes_takes h.content_len l a.0.0 a.0.1 bytes a.1 in
    let is = ok_is (Some a.0.0, a.0.1) (b, after) a.2 in
    subst (λ (p : Option (List ℕ) × Unread). (text : List ℕ) × Took l text p.1 × (body_text p.0 ≡ 0 ∷ text) × FitsHeader h p.0) is (a.0.0, t.0, refl, t.1)
content_takes h (suc zero) l b after bytes ok e =
    let is = ok_is (None, l) (b, after) e in
    subst (λ (p : Option (List ℕ) × Unread). (text : List ℕ) × Took l text p.1 × (body_text p.0 ≡ 1 ∷ text) × FitsHeader h p.0) is ([], record { whole = refl; parts = refl; bytes = bytes }, refl, ok)
content_takes h (suc (suc state)) l b after bytes ok e =
    let n0 : eqb (suc (suc state)) 0 ≡ false = ne_eqb (suc (suc state)) 0 (λ e. omega (arith, e)) in
    let n1 : eqb (suc (suc state)) 1 ≡ false = ne_eqb (suc (suc state)) 1 (λ e. omega (arith, e)) in
    let never : state_ok h (suc (suc state)) ≡ false = rw (n0, n1) refl in
    absurd (false≢true (sym never ∙ ok))

body_takes : (h : Header) (l : Unread) (b : Option (List ℕ)) (after : Unread) → IsBytes l.rest → body_at h l ≡ Ok (b, after) → Took l (body_text b) after × FitsHeader h b
unfolding body_at
body_takes h l b after bytes e =
    let s = field_takes (number_at w8) (λ n. n ∷ []) (λ n. n < 2 ^ 8) byte_back (state_ok h) (at_place 174) (λ v. content_at h v.0 v.1) l (b, after) bytes e in
    let c = content_takes h s.0.0 s.0.1 b after s.1.bytes s.3 s.4 in
    (subst (λ (t : List ℕ). Took l t after) (sym c.2) (Took-then l (s.0.0 ∷ []) s.0.1 c.0 after s.1 c.1), c.3)

-- a content that is there is read from its bytes
content_is : (h : Header) (content : List ℕ) (whole : ℕ) → length content ≡ h.content_len → IsTextOf (content_at h 0) whole content (Some content)
content_is h content whole fits =
    subst (λ (t : List ℕ). IsTextOf (content_at h 0) whole t (Some content)) (append-nil content)
    (text_then (bytes_at h.content_len) (λ x. Ok (Some x.0, x.1)) whole content [] content (Some content) (bytes_text h.content_len whole content fits) (text_none whole (Some content)))

body_is : (h : Header) (b : Option (List ℕ)) (whole : ℕ) → FitsHeader h b → IsTextOf (body_at h) whole (body_text b) b
unfolding body_at
body_is h (Some content) whole fits =
    field_text (number_at w8) (state_ok h) (at_place 174) (λ v. content_at h v.0 v.1) whole (0 ∷ []) content 0 (Some content) (byte_text 0 whole) refl (content_is h content whole fits)
body_is h None whole fits =
    field_text (number_at w8) (state_ok h) (at_place 174) (λ v. content_at h v.0 v.1) whole (1 ∷ []) [] 1 None (byte_text 1 whole) fits (text_none whole None)

-- ---- the who

who_takes : (at : ℕ) (l : Unread) (who : List ℕ) (after : Unread) → IsBytes l.rest → who_at at l ≡ Ok (who, after) → Took l (who_text who) after × (length who ≤ WHO_LIMIT)
unfolding who_at
who_takes at l who after bytes e =
    let s = field_takes (number_at w32) (to_be_bytes w32) (λ n. n < 2 ^ 32) back32 (λ n. nat_le n WHO_LIMIT) (at_place at) (λ v. bytes_at v.0 v.1) l (who, after) bytes e in
    let t = bytes_takes s.0.0 s.0.1 who after s.1.bytes s.4 in
    let count : length who ≡ s.0.0 = t.1 in (
      subst (λ (n : ℕ). Took l (to_be_bytes w32 n ++ who) after) (sym count) (Took-then l (to_be_bytes w32 s.0.0) s.0.1 who after s.1 t.0),
      omega (arith, count, leb-true s.0.0 WHO_LIMIT s.3),
    )

who_is : (at : ℕ) (who : List ℕ) (whole : ℕ) → length who ≤ WHO_LIMIT → IsTextOf (who_at at) whole (who_text who) who
unfolding who_at
who_is at who whole few =
    field_text (number_at w32) (λ n. nat_le n WHO_LIMIT) (at_place at) (λ v. bytes_at v.0 v.1) whole (to_be_bytes w32 (length who)) who (length who) who
    (number_text w32 (2 ^ 32) wide32 (length who) whole (omega (arith, few))) (le-leb (length who) WHO_LIMIT few) (bytes_text (length who) whole who refl)

-- ---- the whole journal

-- behind header and body
abbrev from_who : Header → Option (List ℕ) → List ℕ × Unread → Result (Item × Unread) Bad
from_who h b w = Ok (record { header = h; body = b; who = w.0 }, w.1)

abbrev from_body : Header → Option (List ℕ) × Unread → Result (Item × Unread) Bad
from_body h b = who_at (who_place h b.0) b.1 >>= from_who h b.0

abbrev from_header : Header × Unread → Result (Item × Unread) Bad
from_header h = body_at h.0 h.1 >>= from_body h.0

item_takes : (l : Unread) (x : Item) (after : Unread) → IsBytes l.rest → item_at l ≡ Ok (x, after) → Took l (item_text x) after × IsItem x
unfolding item_at item_text
item_takes l x after bytes e =
    let h = plain_takes header_at spelling IsWhole header_back from_header l (x, after) bytes e in
    let b = bind_ok (body_at h.0.0 h.0.1) (from_body h.0.0) (x, after) h.3 in
    let bt = body_takes h.0.0 h.0.1 b.0.0 b.0.1 h.1.bytes b.1 in
    let w = bind_ok (who_at (who_place h.0.0 b.0.0) b.0.1) (from_who h.0.0 b.0.0) (x, after) b.2 in
    let wt = who_takes (who_place h.0.0 b.0.0) b.0.1 w.0.0 w.0.1 bt.0.bytes w.1 in
    let t1 = Took-then l (spelling h.0.0) h.0.1 (body_text b.0.0) b.0.1 h.1 bt.0 in
    let t2 = Took-then l (spelling h.0.0 ++ body_text b.0.0) b.0.1 (who_text w.0.0) w.0.1 t1 wt.0 in
    answered item_text IsItem l (record { header = h.0.0; body = b.0.0; who = w.0.0 }) x w.0.1 after w.2 t2 (record { rules = h.2.rules; widths = h.2.widths; body = bt.1; who = wt.1 })

item_is : (x : Item) (whole : ℕ) → IsItem x → IsTextOf item_at whole (item_text x) x
unfolding item_at item_text
item_is x whole fits =
    let r2 : List ℕ = who_text x.who ++ [] in
    let r1 : List ℕ = body_text x.body ++ r2 in
    let who = text_then (who_at (who_place x.header x.body)) (from_who x.header x.body) whole (who_text x.who) [] x.who x (who_is (who_place x.header x.body) x.who whole fits.who) (text_none whole x) in
    let body = text_then (body_at x.header) (from_body x.header) whole (body_text x.body) r2 x.body x (body_is x.header x.body whole fits.body) who in
    let header = text_then header_at from_header whole (spelling x.header) r1 x.header x (header_is x.header whole (record { rules = fits.rules; widths = fits.widths })) body in
    subst (λ (t : List ℕ). IsTextOf item_at whole t x) (sym (regroup3 (spelling x.header) (body_text x.body) (who_text x.who))) header

-- reading a journal of a dump is the inverse of spelling it
pub item_back : ReadsBack item_at item_text IsItem
item_back = record { again = λ x whole rest fits. (item_is x whole fits).again rest; takes = item_takes }

-- ---- all of the bytes

pub item_of_only : (bytes : List ℕ) (x : Item) → IsItem x → bytes ≡ item_text x → item_of bytes ≡ Ok x
unfolding item_of
item_of_only bytes x fits e = whole_told item_at bytes (item_text x) x (item_is x (length bytes) fits) e

item_of_takes : (bytes : List ℕ) (x : Item) → IsBytes bytes → item_of bytes ≡ Ok x → IsItem x × (bytes ≡ item_text x)
unfolding item_of
item_of_takes bytes x plain e = whole_takes item_at item_text IsItem item_back bytes x plain e

pub item_of_found : (bytes : List ℕ) (read : Result Item Bad) → IsBytes bytes → read ≡ item_of bytes → IfOk read (λ x. IsItem x × (bytes ≡ item_text x))
item_of_found bytes (Ok x) plain e = item_of_takes bytes x plain (sym e)
item_of_found bytes (Err bad) plain e = tt

pub item_of_cut : (bytes : List ℕ) (x : Item) (k : ℕ) → IsItem x → k < length (item_text x) → bytes ≡ take k (item_text x) → item_of bytes ≡ Err (Short k)
unfolding item_of
item_of_cut bytes x k fits lt e = cut_told item_at bytes (item_text x) x k (item_is x (length bytes) fits) lt e

pub item_of_trailing : (bytes : List ℕ) (x : Item) (rest : List ℕ) → IsItem x → rest ≢ [] → bytes ≡ item_text x ++ rest → item_of bytes ≡ Err (Trailing (length (item_text x)))
unfolding item_of
item_of_trailing bytes x rest fits some e = trailing_told item_at bytes (item_text x) rest x (item_is x (length bytes) fits) some e

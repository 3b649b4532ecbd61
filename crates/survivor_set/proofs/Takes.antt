-- What is read of a set: its bytes are taken, in order, and none is passed over.
use Rattle.std.specs.Int.{w8, w64, to_be_bytes}
use Rattle.std.specs.Prelude.{nat_le, bytes_eq, ◌&&◌}
use Rattle.std.proofs.Common.{◌≡◌, ℕ, zero, suc, ◌+◌, ◌-◌, ◌*◌, ◌/◌, ◌<◌, ◌≤◌, ◌^◌, Bool, true, false, List, [], ◌∷◌, ◌++◌, length, Option, Some, Result, Ok, Err, refl, sym, ap, ◌∙◌, subst, arith, append_assoc}
use Rattle.std.proofs.lemmas.Bool.{leb-true, le-leb, and_parts, and_from}
use Rattle.std.proofs.lemmas.Nat.{from_be_bytes-to_be_bytes_8}
use Rattle.ledger_bytes.specs.declared.failure.Bad.{Bad}
use Rattle.ledger_bytes.specs.declared.failure.Bad.TheVariants.{BadFixedField}
use Rattle.ledger_bytes.specs.Fields.{Unread, left_from, ◌>>=◌, number_at, digest_at, bytes_at, IsBytes, Took}
use Rattle.std.proofs.lemmas.Slice.Eq.{bytes_eq-Decides}
use Rattle.ledger_bytes.specs.declared.digest.Digest.{Digest}
use Rattle.ledger_bytes.proofs.Fields.{bind_ok, guard_ok, ok_is, Took-then, bytes_takes, byte_takes, bytes_back, byte_back, digest_back, number_back, wide64, IsTextOf, text_none, text_then, bytes_text, digest_text, number_text, byte_text, bytes_again, byte_again}
use Rattle.journal_record.proofs.ReadingSteps.{plain_takes, field_takes, field_text, ruled}
use Rattle.journal_record.specs.Items.{Item, IsItem, item_at, item_text}
use Rattle.journal_record.specs.Header.{spelling}
use Rattle.journal_record.specs.Records.{number_8}
use Rattle.journal_record.proofs.ItemLaws.{item_back}
use Rattle.survivor_set.specs.Sets.{Saved, IsSaved, AreSaved, is_low, magic, saved_text, survivors_text, front_text}
use Rattle.survivor_set.specs.Reading.{front_at, shows_low, in_order, saved_at, survivor_at, survivors_at}
use Rattle.survivor_set.specs.declared.reading.Front.{Front}

-- ---- a journal's number ahead

-- the number that stands ahead of a journal is its own
number_ahead : (x : Item) (rest : List ℕ) → IsItem x → number_8 2 (item_text x ++ rest) ≡ x.header.jsn
unfolding item_text spelling
number_ahead x rest fits = from_be_bytes-to_be_bytes_8 x.header.jsn fits.widths.jsn

long_enough : (x : Item) (rest : List ℕ) → nat_le 10 (length (item_text x ++ rest)) ≡ true
unfolding item_text spelling
long_enough x rest = le-leb 10 (length (item_text x ++ rest)) (omega arith)

-- a journal's number ahead is out of order where it's out of order
pub low_ahead : (last : Option ℕ) (x : Saved) (rest : List ℕ) → IsItem x.item → shows_low last (saved_text x ++ rest) ≡ is_low last x.item.header.jsn
unfolding saved_text
low_ahead last x rest fits =
    let behind = length x.path / 32 ∷ x.path in
    let is : saved_text x ++ rest ≡ item_text x.item ++ (behind ++ rest) = append_assoc (item_text x.item) behind rest in
    ap (shows_low last) is ∙ ap (λ b. b && is_low last (number_8 2 (item_text x.item ++ (behind ++ rest)))) (long_enough x.item (behind ++ rest))
    ∙ ap (is_low last) (number_ahead x.item (behind ++ rest) fits)

-- ---- a survivor

ordered : {A : Type 0} (at : ℕ) (low : Bool) (r : Result A Bad) (x : A) → in_order at low r ≡ Ok x → (low ≡ false) × (r ≡ Ok x)
ordered at low (Ok y) x e = let p = guard_ok low (BadFixedField (at + 2)) y x e in (p.0, ap Ok p.1)
ordered at low (Err bad) x e = absurd cc

abbrev from_path : Item → List ℕ × Unread → Result (Saved × Unread) Bad
from_path i p = Ok (record { item = i; path = p.0 }, p.1)

abbrev from_count : Item → ℕ × Unread → Result (Saved × Unread) Bad
from_count i n = bytes_at (n.0 * 32) n.1 >>= from_path i

abbrev from_item : Item × Unread → Result (Saved × Unread) Bad
from_item i = number_at w8 i.1 >>= from_count i.0

pub saved_takes : (at : ℕ) (low : Bool) (l : Unread) (x : Saved) (after : Unread) → IsBytes l.rest → saved_at at low l ≡ Ok (x, after) → Took l (saved_text x) after × IsSaved x × (low ≡ false)
unfolding saved_at saved_text
saved_takes at low l x after bytes e =
    let i = bind_ok (in_order at low (item_at l)) from_item (x, after) e in
    let o = ordered at low (item_at l) i.0 i.1 in
    let it = item_back.takes l i.0.0 i.0.1 bytes o.1 in
    let n = bind_ok (number_at w8 i.0.1) (from_count i.0.0) (x, after) i.2 in
    let nt = byte_takes i.0.1 n.0.0 n.0.1 it.0.bytes n.1 in
    let p = bind_ok (bytes_at (n.0.0 * 32) n.0.1) (from_path i.0.0) (x, after) n.2 in
    let pt = bytes_takes (n.0.0 * 32) n.0.1 p.0.0 p.0.1 nt.0.bytes p.1 in
    let count : n.0.0 ≡ length p.0.0 / 32 = omega (arith, pt.1) in
    let t1 = Took-then i.0.1 (n.0.0 ∷ []) n.0.1 p.0.0 p.0.1 nt.0 pt.0 in
    let t2 = subst (λ (k : ℕ). Took i.0.1 (k ∷ p.0.0) p.0.1) count t1 in
    let t3 = Took-then l (item_text i.0.0) i.0.1 (length p.0.0 / 32 ∷ p.0.0) p.0.1 it.0 t2 in
    let fits : IsSaved (record { item = i.0.0; path = p.0.0 }) = record { item = it.1; whole = omega (arith, pt.1); few = omega (arith, pt.1, nt.1) } in
    let is = ok_is (record { item = i.0.0; path = p.0.0 }, p.0.1) (x, after) p.2 in
    subst (λ z. Took l (saved_text z.0) z.1 × IsSaved z.0 × (low ≡ false)) is (t3, fits, o.0)

pub survivor_takes : (last : Option ℕ) (l : Unread) (x : Saved) (after : Unread) → IsBytes l.rest → survivor_at last l ≡ Ok (x, after)
    → Took l (saved_text x) after × IsSaved x × (is_low last x.item.header.jsn ≡ false)
survivor_takes last l x after bytes e =
    let s = saved_takes (l.whole - length l.rest) (shows_low last l.rest) l x after bytes e in
    (s.0, s.1, sym (ap (shows_low last) s.0.parts ∙ low_ahead last x after.rest s.1.item) ∙ s.2)

-- ---- all survivors

pub record TookAll (count : ℕ) (last : Option ℕ) (l : Unread) (xs : List Saved) (after : Unread) : Type 0 where
  pub took : Took l (survivors_text xs) after
  pub are : AreSaved last xs
  pub number : length xs ≡ count

took_none : (l : Unread) → IsBytes l.rest → Took l [] l
took_none l bytes = record { whole = refl; parts = refl; bytes = bytes }

abbrev from_rest : Saved → List Saved × Unread → Result (List Saved × Unread) Bad
from_rest x xs = Ok (x ∷ xs.0, xs.1)

abbrev from_first : ℕ → Saved × Unread → Result (List Saved × Unread) Bad
from_first count x = survivors_at count (Some x.0.item.header.jsn) x.1 >>= from_rest x.0

pub survivors_take : (count : ℕ) (last : Option ℕ) (l : Unread) (xs : List Saved) (after : Unread) → IsBytes l.rest → survivors_at count last l ≡ Ok (xs, after) → TookAll count last l xs after
survivors_take zero last l xs after bytes e =
    subst (λ z. TookAll 0 last l z.0 z.1) (ok_is ([], l) (xs, after) e) (record { took = took_none l bytes; are = tt; number = refl })
survivors_take (suc count) last l xs after bytes e =
    let x = bind_ok (survivor_at last l) (from_first count) (xs, after) e in
    let xt = survivor_takes last l x.0.0 x.0.1 bytes x.1 in
    let r = bind_ok (survivors_at count (Some x.0.0.item.header.jsn) x.0.1) (from_rest x.0.0) (xs, after) x.2 in
    let rt = survivors_take count (Some x.0.0.item.header.jsn) x.0.1 r.0.0 r.0.1 xt.0.bytes r.1 in
    subst (λ z. TookAll (suc count) last l z.0 z.1) (ok_is (x.0.0 ∷ r.0.0, r.0.1) (xs, after) r.2)
    (record { took = Took-then l (saved_text x.0.0) x.0.1 (survivors_text r.0.0) r.0.1 xt.0 rt.took; are = (xt.1, xt.2, rt.are); number = ap suc rt.number })

-- ---- the fields in front

pub record IsFront (x : Front) : Type 0 where
  pub id : length x.id.0 ≡ 32
  pub point : x.point < 2 ^ 64
  pub root : length x.root.0 ≡ 32
  pub some : 1 ≤ x.count
  pub few : x.count ≤ 64

abbrev pub fields_text : Front → List ℕ
fields_text x = front_text x.id x.point x.root x.count

abbrev has_magic : List ℕ → Bool
has_magic first = bytes_eq first magic

abbrev counts : ℕ → Bool
counts count = nat_le 1 count && nat_le count 64

abbrev to_place : {A : Type 0} → ℕ → A → Bad
to_place at x = BadFixedField at

abbrev from_last : Digest → ℕ → Digest → ℕ × Unread → Result (Front × Unread) Bad
from_last id point root count = Ok (record { id = id; point = point; root = root; count = count.0 }, count.1)

abbrev from_root : Digest → ℕ → Digest × Unread → Result (Front × Unread) Bad
from_root id point root = number_at w8 root.1 >>= ruled counts (to_place 80) (from_last id point root.0)

abbrev from_point : Digest → ℕ × Unread → Result (Front × Unread) Bad
from_point id point = digest_at point.1 >>= from_root id point.0

abbrev from_id : Digest × Unread → Result (Front × Unread) Bad
from_id id = number_at w64 id.1 >>= from_point id.0

abbrev from_magic : List ℕ × Unread → Result (Front × Unread) Bad
from_magic first = digest_at first.1 >>= from_id

counted : (count : ℕ) → counts count ≡ true → (1 ≤ count) × (count ≤ 64)
counted count e = let both = and_parts (nat_le 1 count) (nat_le count 64) e in (leb-true 1 count both.0, leb-true count 64 both.1)

pub front_takes : (l : Unread) (x : Front) (after : Unread) → IsBytes l.rest → front_at l ≡ Ok (x, after) → Took l (fields_text x) after × IsFront x
unfolding front_at front_text
front_takes l x after bytes e =
    let m = field_takes (bytes_at 8) (λ b. b) (λ b. length b ≡ 8) (bytes_back 8) has_magic (to_place 0) from_magic l (x, after) bytes e in
    let i = plain_takes digest_at (λ d. d.0) (λ d. length d.0 ≡ 32) digest_back from_id m.0.1 (x, after) m.1.bytes m.4 in
    let p = plain_takes (number_at w64) (to_be_bytes w64) (λ n. n < 2 ^ 64) (number_back w64 (2 ^ 64) wide64) (from_point i.0.0) i.0.1 (x, after) i.1.bytes i.3 in
    let r = plain_takes digest_at (λ d. d.0) (λ d. length d.0 ≡ 32) digest_back (from_root i.0.0 p.0.0) p.0.1 (x, after) p.1.bytes p.3 in
    let c = field_takes (number_at w8) (λ n. n ∷ []) (λ n. n < 2 ^ 8) byte_back counts (to_place 80) (from_last i.0.0 p.0.0 r.0.0) r.0.1 (x, after) r.1.bytes r.3 in
    let same : m.0.0 ≡ magic = (bytes_eq-Decides m.0.0 magic).0 m.3 in
    let few = counted c.0.0 c.3 in
    let t4 = Took-then p.0.1 r.0.0.0 r.0.1 (c.0.0 ∷ []) c.0.1 r.1 c.1 in
    let t3 = Took-then i.0.1 (to_be_bytes w64 p.0.0) p.0.1 (r.0.0.0 ++ (c.0.0 ∷ [])) c.0.1 p.1 t4 in
    let t2 = Took-then m.0.1 i.0.0.0 i.0.1 (to_be_bytes w64 p.0.0 ++ (r.0.0.0 ++ (c.0.0 ∷ []))) c.0.1 i.1 t3 in
    let t1 = Took-then l magic m.0.1 (i.0.0.0 ++ (to_be_bytes w64 p.0.0 ++ (r.0.0.0 ++ (c.0.0 ∷ [])))) c.0.1 (subst (λ (b : List ℕ). Took l b m.0.1) same m.1) t2 in
    let fits : IsFront (record { id = i.0.0; point = p.0.0; root = r.0.0; count = c.0.0 }) = record { id = i.2; point = p.2; root = r.2; some = few.0; few = few.1 } in
    subst (λ z. Took l (fields_text z.0) z.1 × IsFront z.0) (ok_is (record { id = i.0.0; point = p.0.0; root = r.0.0; count = c.0.0 }, c.0.1) (x, after) c.4) (t1, fits)

front_is : (x : Front) (whole : ℕ) → IsFront x → IsTextOf front_at whole (fields_text x) x
unfolding front_at front_text
front_is x whole fits =
    let count = field_text (number_at w8) counts (to_place 80) (from_last x.id x.point x.root) whole (x.count ∷ []) [] x.count x (byte_text x.count whole)
    (and_from (nat_le 1 x.count) (nat_le x.count 64) (le-leb 1 x.count fits.some) (le-leb x.count 64 fits.few)) (text_none whole x) in
    let root = text_then digest_at (from_root x.id x.point) whole x.root.0 (x.count ∷ []) x.root x (digest_text x.root whole fits.root) count in
    let point = text_then (number_at w64) (from_point x.id) whole (to_be_bytes w64 x.point) (x.root.0 ++ (x.count ∷ [])) x.point x (number_text w64 (2 ^ 64) wide64 x.point whole fits.point) root in
    let id = text_then digest_at from_id whole x.id.0 (to_be_bytes w64 x.point ++ (x.root.0 ++ (x.count ∷ []))) x.id x (digest_text x.id whole fits.id) point in
    field_text (bytes_at 8) has_magic (to_place 0) from_magic whole magic (x.id.0 ++ (to_be_bytes w64 x.point ++ (x.root.0 ++ (x.count ∷ [])))) magic x (bytes_text 8 whole magic refl)
    ((bytes_eq-Decides magic magic).1 refl) id

pub front_again : (x : Front) (whole : ℕ) (rest : List ℕ) → IsFront x → front_at (left_from whole (fields_text x ++ rest)) ≡ Ok (x, left_from whole rest)
front_again x whole rest fits = (front_is x whole fits).again rest

-- ---- read again

saved_again : (at whole : ℕ) (rest : List ℕ) (x : Saved) → IsSaved x → saved_at at false (left_from whole (saved_text x ++ rest)) ≡ Ok (x, left_from whole rest)
unfolding saved_at saved_text
saved_again at whole rest x fits =
    let count = length x.path / 32 in
    let len : length x.path ≡ count * 32 = omega (arith, fits.whole) in
    ap (λ (s : List ℕ). in_order at false (item_at (left_from whole s)) >>= from_item) (append_assoc (item_text x.item) (count ∷ x.path) rest)
    ∙ (ap (λ r. in_order at false r >>= from_item) (item_back.again x.item whole (count ∷ (x.path ++ rest)) fits.item)
    ∙ (ap (λ r. r >>= from_count x.item) (byte_again count whole (x.path ++ rest))
    ∙ ap (λ r. r >>= from_path x.item) (bytes_again (count * 32) x.path whole rest len)))

survivor_again : (last : Option ℕ) (whole : ℕ) (rest : List ℕ) (x : Saved) → IsSaved x → is_low last x.item.header.jsn ≡ false → survivor_at last (left_from whole (saved_text x ++ rest)) ≡ Ok (x, left_from whole rest)
survivor_again last whole rest x fits high =
    let at = whole - length (saved_text x ++ rest) in
    ap (λ low. saved_at at low (left_from whole (saved_text x ++ rest))) (low_ahead last x rest fits.item ∙ high) ∙ saved_again at whole rest x fits

pub survivors_again : (xs : List Saved) (last : Option ℕ) (whole : ℕ) (rest : List ℕ) → AreSaved last xs → survivors_at (length xs) last (left_from whole (survivors_text xs ++ rest)) ≡ Ok (xs, left_from whole rest)
survivors_again [] last whole rest are = refl
survivors_again (x ∷ xs) last whole rest are =
    ap (λ (s : List ℕ). survivor_at last (left_from whole s) >>= from_first (length xs)) (append_assoc (saved_text x) (survivors_text xs) rest)
    ∙ (ap (λ r. r >>= from_first (length xs)) (survivor_again last whole (survivors_text xs ++ rest) x are.0 are.1)
    ∙ ap (λ r. r >>= from_rest x) (survivors_again xs (Some x.item.header.jsn) whole rest are.2))

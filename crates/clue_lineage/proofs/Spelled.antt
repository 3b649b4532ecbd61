-- What is read as a lineage is spelled so, and what is spelled so is read.
use Rattle.std.proofs.Common.{◌≡◌, ℕ, zero, suc, ◌+◌, ◌-◌, ◌^◌, ◌<◌, ◌≤◌, Bool, true, false, cond, eqb, List, [], ◌∷◌, ◌++◌, length, drop, Result, Ok, Err, refl, sym, ap, subst, ◌∙◌, append-nil, length-append, arith}
use Rattle.std.specs.Prelude.{All, nat_le}
use Rattle.std.specs.Int.{w8, w16, w64, to_be_bytes}
use Rattle.std.proofs.lemmas.Bool.{eqb-true, leb-true, le-leb, and_parts}
use Rattle.std.proofs.lemmas.List.{drop_at, nil_from_length}
use Rattle.std.proofs.lemmas.List.Elements.{All-nil, All-cons, All-head, All-tail}
use Rattle.ledger_bytes.specs.declared.digest.Digest.{Digest}
use Rattle.ledger_bytes.specs.declared.failure.Bad.{Bad}
use Rattle.ledger_bytes.specs.declared.failure.Bad.TheVariants.{Short, Trailing, BadKind, BadFixedField, NewerFormat, TooLong}
use Rattle.ledger_bytes.specs.Fields.{Unread, left_from, ◌>>=◌, number_at, digest_at, end_at, IsBytes, Took, ReadsBack}
use Rattle.ledger_bytes.proofs.Fields.{bind_ok, check_ok, ok_is, Took-then, wide16, wide64, number_back, byte_back, digest_back, IsTextOf, text_none, text_then, digest_text, number_text, byte_text}
use Rattle.journal_record.specs.declared.header.Header.{Header}
use Rattle.journal_record.specs.Header as headers
use Rattle.journal_record.specs.Reading.{header_at}
use Rattle.journal_record.proofs.ReadingSteps.{ruled, plain_takes, field_takes, field_text, answered, whole_takes, whole_told}
use Rattle.journal_record.proofs.ReadingLaws.{header_is, header_back}
use Rattle.journal_record.proofs.Spelling.{length-spelling}
use Rattle.proof_codec.specs.Proofs.{with_count, IsDigests}
use Rattle.proof_codec.specs.Reading.{digests_at, header_break}
use Rattle.proof_codec.proofs.Parts.{text_last, digests_text, digests_back}
use Rattle.clue_lineage.specs.Lineages.{LineageItem, Lineage, item_text, items_text, front_text, spelling, IsItem, IsLineage}
use Rattle.clue_lineage.specs.Reading.{item_at, behind, items_at, count_ok, front_at, lineage_at, lineage_of, HasItems, read_items, items_in}

abbrev back16 : ReadsBack (number_at w16) (to_be_bytes w16) (λ n. n < 2 ^ 16)
back16 = number_back w16 (2 ^ 16) wide16

abbrev back64 : ReadsBack (number_at w64) (to_be_bytes w64) (λ n. n < 2 ^ 64)
back64 = number_back w64 (2 ^ 64) wide64

-- ---- a journal

placed_ok : {A : Type 0} (at : ℕ) (r : Result A Bad) (x : A) → header_break at r ≡ Ok x → r ≡ Ok x
placed_ok at (Ok y) x e = e
placed_ok at (Err (Short whole)) x e = absurd cc
placed_ok at (Err (Trailing place)) x e = absurd cc
placed_ok at (Err (BadKind found)) x e = absurd cc
placed_ok at (Err (BadFixedField place)) x e = absurd cc
placed_ok at (Err (NewerFormat found)) x e = absurd cc
placed_ok at (Err TooLong) x e = absurd cc

abbrev item_from : Header → List ℕ → LineageItem
item_from header path = record { header = header; path = path }

abbrev from_path : Header → List ℕ × Unread → Result (LineageItem × Unread) Bad
from_path header path = Ok (item_from header path.0, path.1)

abbrev from_header : Header × Unread → Result (LineageItem × Unread) Bad
from_header header = digests_at header.1 >>= from_path header.0

item_takes : (at : ℕ) (l : Unread) (x : LineageItem) (after : Unread) → IsBytes l.rest → item_at at l ≡ Ok (x, after) → Took l (item_text x) after × IsItem x
unfolding item_at item_text
item_takes at l x after bytes e =
    let a = bind_ok (header_break at (header_at l)) from_header (x, after) e in
    let t = header_back.takes l a.0.0 a.0.1 bytes (placed_ok at (header_at l) a.0 a.1) in
    let p = plain_takes digests_at with_count IsDigests digests_back (from_path a.0.0) a.0.1 (x, after) t.0.bytes a.2 in
    let took = Took-then l (headers.spelling a.0.0) a.0.1 (with_count p.0.0) p.0.1 t.0 p.1 in
    answered item_text IsItem l (item_from a.0.0 p.0.0) x p.0.1 after p.3 took (record { rules = t.1.rules; widths = t.1.widths; path = p.2 })

item_is : (at whole : ℕ) (x : LineageItem) → IsItem x → IsTextOf (item_at at) whole (item_text x) x
unfolding item_at item_text
item_is at whole x fits =
    let is = header_is x.header whole (record { rules = fits.rules; widths = fits.widths }) in
    let placed : IsTextOf (λ l. header_break at (header_at l)) whole (headers.spelling x.header) x.header =
    record { again = λ rest. ap (header_break at) (is.again rest); cut = λ k lt. ap (header_break at) (is.cut k lt) } in
    let path = text_last digests_at (from_path x.header) whole (with_count x.path) x.path x (digests_text x.path whole fits.path) (text_none whole x) in
    text_then (λ l. header_break at (header_at l)) from_header whole (headers.spelling x.header) (with_count x.path) x.header x placed path

-- ---- journals

abbrev from_rest : LineageItem → List LineageItem × Unread → Result (List LineageItem × Unread) Bad
from_rest item more = Ok (item ∷ more.0, more.1)

abbrev from_item : ℕ → ℕ → LineageItem × Unread → Result (List LineageItem × Unread) Bad
from_item n at item = items_at n (behind at item.0) item.1 >>= from_rest item.0

pub items_takes : (n at : ℕ) (l : Unread) (items : List LineageItem) (after : Unread) → IsBytes l.rest → items_at n at l ≡ Ok (items, after) → Took l (items_text items) after × All IsItem items × (length items ≡ n)
items_takes zero at l items after bytes e =
    subst (λ (y : List LineageItem × Unread). Took l (items_text y.0) y.1 × All IsItem y.0 × (length y.0 ≡ 0)) (ok_is ([], l) (items, after) e)
    (record { whole = refl; parts = refl; bytes = bytes }, All-nil IsItem, refl)
items_takes (suc n) at l items after bytes e =
    let first = bind_ok (item_at at l) (from_item n at) (items, after) e in
    let took = item_takes at l first.0.0 first.0.1 bytes first.1 in
    let rest = bind_ok (items_at n (behind at first.0.0) first.0.1) (from_rest first.0.0) (items, after) first.2 in
    let more = items_takes n (behind at first.0.0) first.0.1 rest.0.0 rest.0.1 took.0.bytes rest.1 in
    subst (λ (y : List LineageItem × Unread). Took l (items_text y.0) y.1 × All IsItem y.0 × (length y.0 ≡ suc n)) (ok_is (first.0.0 ∷ rest.0.0, rest.0.1) (items, after) rest.2)
    (Took-then l (item_text first.0.0) first.0.1 (items_text rest.0.0) rest.0.1 took.0 more.0, All-cons IsItem first.0.0 rest.0.0 took.1 more.1, ap suc more.2)

pub items_is : (at whole : ℕ) (items : List LineageItem) → All IsItem items → IsTextOf (items_at (length items) at) whole (items_text items) items
items_is at whole [] all = text_none whole []
items_is at whole (x ∷ xs) all =
    let more = text_last (items_at (length xs) (behind at x)) (from_rest x) whole (items_text xs) xs (x ∷ xs) (items_is (behind at x) whole xs (All-tail IsItem x xs all)) (text_none whole (x ∷ xs)) in
    text_then (item_at at) (from_item (length xs) at) whole (item_text x) (items_text xs) x (x ∷ xs) (item_is at whole x (All-head IsItem x xs all)) more

-- ---- the front

abbrev Front : Type 0
Front = ℕ × Digest × ℕ

pub record IsFront (f : Front) : Type 0 where
  pub size : f.0 < 2 ^ 64
  pub clue : length f.1.0 ≡ 32
  pub width : f.2 < 2 ^ 16
  pub count : count_ok f.2 ≡ true

abbrev front_of : Front → List ℕ
front_of f = 1 ∷ (to_be_bytes w64 f.0 ++ (f.1.0 ++ to_be_bytes w16 f.2))

abbrev at_place : {A : Type 0} → ℕ → A → Bad
at_place at v = BadFixedField at

abbrev version_is : ℕ → Bool
version_is version = eqb version 1

abbrev from_count : ℕ → Digest → ℕ × Unread → Result (Front × Unread) Bad
from_count size clue count = Ok ((size, clue, count.0), count.1)

abbrev from_clue : ℕ → Digest × Unread → Result (Front × Unread) Bad
from_clue size clue = number_at w16 clue.1 >>= ruled count_ok (at_place 41) (from_count size clue.0)

abbrev from_size : ℕ × Unread → Result (Front × Unread) Bad
from_size size = digest_at size.1 >>= from_clue size.0

abbrev from_version : ℕ × Unread → Result (Front × Unread) Bad
from_version version = number_at w64 version.1 >>= from_size

-- a field that keeps its rule and is followed by nothing
field_end : {A B : Type 0} (read : Unread → Result (A × Unread) Bad) (ok : A → Bool) (bad : A → Bad) (f : A × Unread → Result (B × Unread) Bad) (whole : ℕ) (t : List ℕ) (x : A) (y : B)
    → IsTextOf read whole t x → ok x ≡ true → IsTextOf (λ l. f (x, l)) whole [] y → IsTextOf (λ l. read l >>= ruled ok bad f) whole t y
field_end read ok bad f whole t x y first rule second =
    subst (λ (s : List ℕ). IsTextOf (λ l. read l >>= ruled ok bad f) whole s y) (append-nil t) (field_text read ok bad f whole t [] x y first rule second)

pub front_takes : (l : Unread) (f : Front) (after : Unread) → IsBytes l.rest → front_at l ≡ Ok (f, after) → Took l (front_of f) after × IsFront f
unfolding front_at
front_takes l f after bytes e =
    let v = field_takes (number_at w8) (λ n. n ∷ []) (λ n. n < 2 ^ 8) byte_back version_is (at_place 0) from_version l (f, after) bytes e in
    let s = plain_takes (number_at w64) (to_be_bytes w64) (λ n. n < 2 ^ 64) back64 from_size v.0.1 (f, after) v.1.bytes v.4 in
    let k = plain_takes digest_at (λ d. d.0) (λ d. length d.0 ≡ 32) digest_back (from_clue s.0.0) s.0.1 (f, after) s.1.bytes s.3 in
    let n = field_takes (number_at w16) (to_be_bytes w16) (λ n. n < 2 ^ 16) back16 count_ok (at_place 41) (from_count s.0.0 k.0.0) k.0.1 (f, after) k.1.bytes k.3 in
    let one : Took l (1 ∷ []) v.0.1 = subst (λ n. Took l (n ∷ []) v.0.1) (eqb-true v.0.0 1 v.3) v.1 in
    let t3 = Took-then s.0.1 k.0.0.0 k.0.1 (to_be_bytes w16 n.0.0) n.0.1 k.1 n.1 in
    let t2 = Took-then v.0.1 (to_be_bytes w64 s.0.0) s.0.1 (k.0.0.0 ++ to_be_bytes w16 n.0.0) n.0.1 s.1 t3 in
    let t1 = Took-then l (1 ∷ []) v.0.1 (to_be_bytes w64 s.0.0 ++ (k.0.0.0 ++ to_be_bytes w16 n.0.0)) n.0.1 one t2 in
    let value : Front = (s.0.0, k.0.0, n.0.0) in
    let fits : IsFront value = record { size = s.2; clue = k.2; width = n.2; count = n.3 } in
    answered front_of IsFront l value f n.0.1 after n.4 t1 fits

front_is : (f : Front) (whole : ℕ) → IsFront f → IsTextOf front_at whole (front_of f) f
unfolding front_at
front_is f whole fits =
    let count_text : List ℕ = to_be_bytes w16 f.2 in
    let count = field_end (number_at w16) count_ok (at_place 41) (from_count f.0 f.1) whole count_text f.2 f (number_text w16 (2 ^ 16) wide16 f.2 whole fits.width) fits.count (text_none whole f) in
    let clue = text_then digest_at (from_clue f.0) whole f.1.0 count_text f.1 f (digest_text f.1 whole fits.clue) count in
    let size = text_then (number_at w64) from_size whole (to_be_bytes w64 f.0) (f.1.0 ++ count_text) f.0 f (number_text w64 (2 ^ 64) wide64 f.0 whole fits.size) clue in
    field_text (number_at w8) version_is (at_place 0) from_version whole (1 ∷ []) (to_be_bytes w64 f.0 ++ (f.1.0 ++ count_text)) 1 f (byte_text 1 whole) refl size

pub front_length : (f : Front) → IsFront f → length (front_of f) ≡ 43
front_length f fits = simp length-append (omega (arith, fits.clue))

-- ---- a lineage

abbrev lineage_from : Front → List LineageItem → Lineage
lineage_from f items = record { size = f.0; clue = f.1; items = items }

abbrev from_items : Front → List LineageItem × Unread → Result (Lineage × Unread) Bad
from_items f items = Ok (lineage_from f items.0, items.1)

abbrev pub from_front : Front × Unread → Result (Lineage × Unread) Bad
from_front front = items_at front.0.2 43 front.1 >>= from_items front.0

count_means : (n : ℕ) → count_ok n ≡ true → (1 ≤ n) × (n ≤ 1024)
count_means n e =
    let both = and_parts (nat_le 1 n) (nat_le n 1024) e in
    (leb-true 1 n both.0, leb-true n 1024 both.1)

count_kept : (n : ℕ) → 1 ≤ n → n ≤ 1024 → count_ok n ≡ true
count_kept n some most = rw (le-leb 1 n some, le-leb n 1024 most) refl

lineage_takes : (l : Unread) (x : Lineage) (after : Unread) → IsBytes l.rest → lineage_at l ≡ Ok (x, after) → Took l (spelling x) after × IsLineage x
unfolding lineage_at spelling front_text
lineage_takes l x after bytes e =
    let f = plain_takes front_at front_of IsFront (record { again = λ v whole rest fits. (front_is v whole fits).again rest; takes = front_takes }) from_front l (x, after) bytes e in
    let i = bind_ok (items_at f.0.0.2 43 f.0.1) (from_items f.0.0) (x, after) f.3 in
    let t = items_takes f.0.0.2 43 f.0.1 i.0.0 i.0.1 f.1.bytes i.1 in
    let both = Took-then l (front_of f.0.0) f.0.1 (items_text i.0.0) i.0.1 f.1 t.0 in
    let value : Lineage = lineage_from f.0.0 i.0.0 in
    let counted : Took l (front_of (f.0.0.0, f.0.0.1, length i.0.0) ++ items_text i.0.0) i.0.1 = subst (λ n. Took l (front_of (f.0.0.0, f.0.0.1, n) ++ items_text i.0.0) i.0.1) (sym t.2) both in
    let range = count_means f.0.0.2 f.2.count in
    let fits : IsLineage value = record { size = f.2.size; clue = f.2.clue; some = omega (arith, t.2, range.0); most = omega (arith, t.2, range.1); items = t.1 } in
    answered spelling IsLineage l value x i.0.1 after i.2 counted fits

lineage_is : (x : Lineage) (whole : ℕ) → IsLineage x → IsTextOf lineage_at whole (spelling x) x
unfolding lineage_at spelling front_text
lineage_is x whole fits =
    let f : Front = (x.size, x.clue, length x.items) in
    let front : IsFront f = record { size = fits.size; clue = fits.clue; width = omega (arith, fits.most); count = count_kept (length x.items) fits.some fits.most } in
    let items = text_last (items_at (length x.items) 43) (from_items f) whole (items_text x.items) x.items x (items_is 43 whole x.items fits.items) (text_none whole x) in
    text_then front_at from_front whole (front_of f) (items_text x.items) f x (front_is f whole front) items

pub lineage_back : ReadsBack lineage_at spelling IsLineage
lineage_back = record { again = λ x whole rest fits. (lineage_is x whole fits).again rest; takes = lineage_takes }

-- ---- all bytes

pub lineage_of_found : (bytes : List ℕ) (x : Lineage) → IsBytes bytes → lineage_of bytes ≡ Ok x → IsLineage x × (bytes ≡ spelling x)
unfolding lineage_of
lineage_of_found bytes x plain e = whole_takes lineage_at spelling IsLineage lineage_back bytes x plain e

pub lineage_of_only : (bytes : List ℕ) (x : Lineage) → IsLineage x → bytes ≡ spelling x → lineage_of bytes ≡ Ok x
unfolding lineage_of
lineage_of_only bytes x fits e = whole_told lineage_at bytes (spelling x) x (lineage_is x (length bytes) fits) e

-- ---- journals that are gone over again

pub items_are : (n : ℕ) (bytes : List ℕ) (h : HasItems n bytes) → items_at n 0 (left_from (length bytes) bytes) ≡ Ok (h.items, left_from (length bytes) [])
items_are n bytes h =
    ap (λ k. items_at k 0 (left_from (length bytes) bytes)) (sym h.count)
    ∙ ap (λ (t : List ℕ). items_at (length h.items) 0 (left_from (length bytes) t)) (h.text ∙ sym (append-nil (items_text h.items)))
    ∙ (items_is 0 (length bytes) h.items h.fit).again []

pub items_in_is : (n : ℕ) (bytes : List ℕ) (h : HasItems n bytes) → items_in n bytes ≡ h.items
unfolding items_in
items_in_is n bytes h = ap read_items (items_are n bytes h)

pub item_again : (at whole : ℕ) (x : LineageItem) (rest : List ℕ) → IsItem x → item_at at (left_from whole (item_text x ++ rest)) ≡ Ok (x, left_from whole rest)
item_again at whole x rest fits = (item_is at whole x fits).again rest

pub item_length : (x : LineageItem) → IsItem x → length (item_text x) ≡ 175 + length x.path
unfolding item_text
item_length x fits = simp length-append (omega (arith, length-spelling x.header fits.widths))

pub none_in : (n : ℕ) (bytes : List ℕ) → n ≡ 0 → HasItems n bytes → items_in n bytes ≡ []
none_in n bytes none h = items_in_is n bytes h ∙ nil_from_length h.items (h.count ∙ none)

-- the first journal of some, and the bytes of the others
pub record FirstOf (n : ℕ) (bytes : List ℕ) : Type 0 where
  pub item : LineageItem
  pub rest : List ℕ
  pub fits : IsItem item
  pub text : bytes ≡ item_text item ++ rest
  pub read : item_at 0 (left_from (length bytes) bytes) ≡ Ok (item, left_from (length bytes) rest)
  pub others : HasItems (n - 1) rest
  pub all : items_in n bytes ≡ item ∷ items_in (n - 1) rest

pub first_of : (n : ℕ) (bytes : List ℕ) → 0 < n → HasItems n bytes → FirstOf n bytes
first_of n bytes some h = by h.items refl where
  by : (items : List LineageItem) → h.items ≡ items → FirstOf n bytes
  by [] e = absurd (omega (arith, some, h.count, ap length e))
  by (x ∷ xs) e =
      let fit : All IsItem (x ∷ xs) = subst (λ (ys : List LineageItem). All IsItem ys) e h.fit in
      let text : bytes ≡ item_text x ++ items_text xs = h.text ∙ ap items_text e in
      let others : HasItems (n - 1) (items_text xs) = record { items = xs; count = omega (arith, h.count, ap length e); fit = All-tail IsItem x xs fit; text = refl } in
      record {
        item = x;
        rest = items_text xs;
        fits = All-head IsItem x xs fit;
        text = text;
        read = ap (λ (t : List ℕ). item_at 0 (left_from (length bytes) t)) text ∙ item_again 0 (length bytes) x (items_text xs) (All-head IsItem x xs fit);
        others = others;
        all = items_in_is n bytes h ∙ e ∙ ap (λ (ys : List LineageItem). x ∷ ys) (sym (items_in_is (n - 1) (items_text xs) others));
      }

-- what stands behind the first journal
pub rest_of : (bytes : List ℕ) (x : LineageItem) (rest : List ℕ) (k : ℕ) → IsItem x → bytes ≡ item_text x ++ rest → k ≡ 175 + length x.path → drop k bytes ≡ rest
rest_of bytes x rest k fits text is = ap (drop k) text ∙ drop_at (item_text x) rest k (item_length x fits ∙ sym is)

not_both : {A : Type 0} (r : Result A Bad) (bad : Bad) (x : A) → r ≡ Err bad → r ≡ Ok x → ⊥
not_both (Ok y) bad x e f = absurd cc
not_both (Err other) bad x e f = absurd cc

module _ (n : ℕ) (bytes : List ℕ) (some : 0 < n) (h : HasItems n bytes) where
  abbrev first : FirstOf n bytes
  first = first_of n bytes some h

  pub never_broken : (l : Unread) (bad : Bad) → l ≡ left_from (length bytes) bytes → item_at 0 l ≡ Err bad → ⊥
  never_broken l bad at e =
      not_both (item_at 0 l) bad (first.item, left_from (length bytes) first.rest) e (ap (item_at 0) at ∙ first.read)

  module _ (l after : Unread) (item : LineageItem) (at : l ≡ left_from (length bytes) bytes) (read : item_at 0 l ≡ Ok (item, after)) where
    pub read_first : first.item ≡ item
    read_first = ap (λ (y : LineageItem × Unread). y.0) (ok_is (first.item, left_from (length bytes) first.rest) (item, after) (sym first.read ∙ ap (item_at 0) (sym at) ∙ read))

    module _ (path : List ℕ) (path_is : path ≡ item.path) where
      path_len : length path ≡ length first.item.path
      path_len = ap length path_is ∙ ap (λ (i : LineageItem). length i.path) (sym read_first)

      pub long_enough : 175 + length path ≤ length bytes
      long_enough = omega (arith, path_len, ap length first.text, length-append (item_text first.item) first.rest, item_length first.item first.fits)

      left_is : drop (175 + length path) bytes ≡ first.rest
      left_is = rest_of bytes first.item first.rest (175 + length path) first.fits first.text (ap (λ k. 175 + k) path_len)

      pub others_left : HasItems (n - 1) (drop (175 + length path) bytes)
      others_left = subst (λ (t : List ℕ). HasItems (n - 1) t) (sym left_is) first.others

      pub first_taken : items_in n bytes ≡ item ∷ items_in (n - 1) (drop (175 + length path) bytes)
      first_taken = first.all ∙ ap (λ (i : LineageItem). i ∷ items_in (n - 1) first.rest) read_first ∙ ap (λ (t : List ℕ). item ∷ items_in (n - 1) t) (sym left_is)

-- ---- the steps of reading all bytes

-- nothing is left
abbrev pub at_end : Unread → Result (Unit {0}) Bad
at_end l = end_at tt l

abbrev ending : Bool → Bad → Result (Unit {0}) Bad
ending b other = cond b (Ok tt) (Err other)

abbrev failed : {A : Type 0} → Bad → Result A Bad
failed bad = Err bad

failed_same : (a b : Bad) → ending false a ≡ Err b → a ≡ b
failed_same a b e = cc

end_broken_of : {A : Type 0} (b : Bool) (other bad : Bad) (x : A) → ending b other ≡ Err bad → cond b (Ok x) (Err other) ≡ Err bad
end_broken_of true other bad x e = absurd cc
end_broken_of false other bad x e = ap failed (failed_same other bad e)

end_empty : (l : Unread) → at_end l ≡ Ok tt → l.rest ≡ []
end_empty l e = nil_from_length l.rest (eqb-true _ _ (check_ok (eqb (length l.rest) 0) (Trailing (l.whole - length l.rest)) tt tt e).0)

module _ (bytes : List ℕ) (start : Unread) (begins : start ≡ left_from (length bytes) bytes) where
  pub broken_front : (bad : Bad) → front_at start ≡ Err bad → Err bad ≡ lineage_of bytes
  unfolding lineage_of lineage_at
  broken_front bad e = sym (ap (λ r. r >>= from_front >>= λ read. end_at read.0 read.1) (ap front_at (sym begins) ∙ e))

  module _ (f : Front) (l : Unread) (front : front_at start ≡ Ok (f, l)) where
    begun : lineage_of bytes ≡ (items_at f.2 43 l >>= from_items f >>= λ read. end_at read.0 read.1)
    unfolding lineage_of lineage_at
    begun = ap (λ r. r >>= from_front >>= λ read. end_at read.0 read.1) (ap front_at (sym begins) ∙ front)

    pub broken_items : (bad : Bad) → items_at f.2 43 l ≡ Err bad → Err bad ≡ lineage_of bytes
    broken_items bad e = sym (begun ∙ ap (λ r. r >>= from_items f >>= λ read. end_at read.0 read.1) e)

    module _ (items : List LineageItem) (after : Unread) (read : items_at f.2 43 l ≡ Ok (items, after)) where
      ended_so : lineage_of bytes ≡ end_at (lineage_from f items) after
      ended_so = begun ∙ ap (λ r. r >>= from_items f >>= λ read. end_at read.0 read.1) read

      pub broken_end : (bad : Bad) → at_end after ≡ Err bad → Err bad ≡ lineage_of bytes
      broken_end bad e = sym (ended_so ∙ end_broken_of (eqb (length after.rest) 0) (Trailing (after.whole - length after.rest)) bad (lineage_from f items) e)

      module _ (plain : IsBytes bytes) (ends : at_end after ≡ Ok tt) where
        pub whole_read : Ok (lineage_from f items) ≡ lineage_of bytes
        whole_read =
            let none : eqb (length after.rest) 0 ≡ true = (check_ok (eqb (length after.rest) 0) (Trailing (after.whole - length after.rest)) tt tt ends).0 in
            sym (ended_so ∙ ap (λ b. cond b (Ok (lineage_from f items)) (Err (Trailing (after.whole - length after.rest)))) none)

        took_front : Took (left_from (length bytes) bytes) (front_of f) l × IsFront f
        took_front = front_takes (left_from (length bytes) bytes) f l plain (ap front_at (sym begins) ∙ front)

        took_items : Took l (items_text items) after × All IsItem items × (length items ≡ f.2)
        took_items = items_takes f.2 43 l items after took_front.0.bytes read

        pub front_within : 43 ≤ length bytes
        front_within = omega (arith, ap length took_front.0.parts, length-append (front_of f) l.rest, front_length f took_front.1)

        behind_front : drop 43 bytes ≡ items_text items
        behind_front =
            ap (drop 43) took_front.0.parts ∙ drop_at (front_of f) l.rest 43 (front_length f took_front.1)
            ∙ took_items.0.parts ∙ ap (λ (t : List ℕ). items_text items ++ t) (end_empty after ends) ∙ append-nil (items_text items)

        pub has_items : HasItems f.2 (drop 43 bytes)
        has_items = record { items = items; count = took_items.2; fit = took_items.1; text = behind_front }

        pub items_kept : items_in f.2 (drop 43 bytes) ≡ items
        unfolding has_items
        items_kept = items_in_is f.2 (drop 43 bytes) has_items

abbrev pub read_so : Lineage → Result Lineage Bad
read_so l = Ok l

-- journals that are seen are as many as are left
pub items_counted : (n : ℕ) (bytes : List ℕ) (items : List LineageItem) → items_in n bytes ≡ items → HasItems n bytes → n ≡ length items
items_counted n bytes items seen h = sym h.count ∙ ap length (sym (items_in_is n bytes h) ∙ seen)

-- What is read as a part of a proof is spelled so, and what is spelled so is read.
use Rattle.std.proofs.Common.{◌≡◌, ℕ, suc, zero, ◌+◌, ◌*◌, ◌/◌, ◌^◌, ◌<◌, Bool, true, false, cond, eqb, nat_le, List, [], ◌∷◌, ◌++◌, length, Option, Some, None, Result, Ok, Err, refl, sym, ap, subst, ◌∙◌, arith}
use Rattle.std.specs.Int.{w8, w64, to_be_bytes}
use Rattle.std.specs.Prelude.{IfSome, ⊤}
use Rattle.std.proofs.lemmas.Bool.{leb-true}
use Rattle.std.proofs.lemmas.List.{append-nil}
use Rattle.ledger_bytes.specs.declared.digest.Digest.{Digest}
use Rattle.ledger_bytes.specs.declared.failure.Bad.{Bad}
use Rattle.ledger_bytes.specs.declared.failure.Bad.TheVariants.{Short, Trailing, BadKind, BadFixedField, NewerFormat, TooLong}
use Rattle.ledger_bytes.specs.Fields.{Unread, left_from, ◌>>=◌, bytes_at, number_at, digest_at, check, IsBytes, Took, ReadsBack}
use Rattle.ledger_bytes.proofs.Fields.{bind_ok, check_ok, ok_is, Took-then, wide64, number_back, byte_back, digest_back, byte_takes, bytes_takes, IsTextOf, text_none, text_then, bytes_text, digest_text, number_text, byte_text}
use Rattle.journal_record.specs.declared.header.Header.{Header}
use Rattle.journal_record.specs.declared.header.Kind.{Kind}
use Rattle.journal_record.specs.declared.header.Kind.TheVariants.{Genesis, Content, Member, Time, Occult, Purge, ClueOccult}
use Rattle.journal_record.specs.Header as headers
use Rattle.journal_record.specs.Reading.{header_at}
use Rattle.journal_record.proofs.ReadingSteps.{plain_takes, field_takes, field_text, answered, ended}
use Rattle.journal_record.proofs.ReadingLaws.{header_is, header_back}
use Rattle.ledger_bytes.specs.declared.mark.TimeMark.{TimeMark}
use Rattle.proof_codec.specs.Proofs.{ShownLower, ShownUpper, with_count, lower_text, mark_text, upper_text, text_if, IsDigests, IsTimeHeader, IsMark, HasLower, HasUpper, IsSizeIf, IsPathIf}
use Rattle.proof_codec.specs.Reading.{digests_at, flag_at, header_break, is_time, time_at, some_lower_at, lower_at, mark_at, some_upper_at, upper_at, size_if, path_if}

-- ---- steps

-- a text whose reading ends the whole reading
pub text_last : {A B : Type 0} (read : Unread → Result (A × Unread) Bad) (f : A × Unread → Result (B × Unread) Bad) (whole : ℕ) (t : List ℕ) (x : A) (y : B)
    → IsTextOf read whole t x → IsTextOf (λ l. f (x, l)) whole [] y → IsTextOf (λ l. read l >>= f) whole t y
text_last read f whole t x y first second =
    subst (λ (s : List ℕ). IsTextOf (λ l. read l >>= f) whole s y) (append-nil t) (text_then read f whole t [] x y first second)

pub check_holds : (ok : Bool) (at : ℕ) (x : Unit {0}) → check ok at ≡ Ok x → ok ≡ true
check_holds ok at x e = (check_ok ok (BadFixedField at) tt x e).0

-- what was taken is what is answered as being there
there_answered : {A : Type 0} (text : A → List ℕ) (fits : A → Type 0) (l : Unread) (x : A) (b : Unread) (o : Option A) (after : Unread) → ended (Some x) b ≡ ended o after
    → Took l (text x) b → fits x → (y : A) × (o ≡ Some y) × Took l (text y) after × fits y
there_answered {A} text fits l x b o after e took fit =
    let same = ok_is (Some x, b) (o, after) e in
    (x, sym (ap (λ (y : Option A × Unread). y.0) same), subst (λ (y : Option A × Unread). Took l (text x) y.1) same took, fit)

abbrev pub back64 : ReadsBack (number_at w64) (to_be_bytes w64) (λ n. n < 2 ^ 64)
back64 = number_back w64 (2 ^ 64) wide64

-- ---- digests behind their count

digests_takes : (l : Unread) (path : List ℕ) (after : Unread) → IsBytes l.rest → digests_at l ≡ Ok (path, after) → Took l (with_count path) after × IsDigests path
unfolding digests_at
digests_takes l path after fits e =
    let a = bind_ok (number_at w8 l) (λ count. bytes_at (32 * count.0) count.1) (path, after) e in
    let count = byte_takes l a.0.0 a.0.1 fits a.1 in
    let digests = bytes_takes (32 * a.0.0) a.0.1 path after count.0.bytes a.2 in
    let number : a.0.0 ≡ length path / 32 = omega (arith, digests.1) in
    let both : Took l (a.0.0 ∷ [] ++ path) after = Took-then l (a.0.0 ∷ []) a.0.1 path after count.0 digests.0 in
    (subst (λ (k : ℕ). Took l (k ∷ path) after) number both, record { whole = omega (arith, digests.1); count = omega (arith, digests.1, count.1) })

pub digests_text : (path : List ℕ) (whole : ℕ) → IsDigests path → IsTextOf digests_at whole (with_count path) path
unfolding digests_at
digests_text path whole fits =
    let count : ℕ = length path / 32 in
    let size : length path ≡ 32 * count = omega (arith, fits.whole) in
    text_then (number_at w8) (λ count. bytes_at (32 * count.0) count.1) whole (count ∷ []) path count path (byte_text count whole) (bytes_text (32 * count) whole path size)

pub digests_back : ReadsBack digests_at with_count IsDigests
digests_back = record { again = λ path whole rest fits. (digests_text path whole fits).again rest; takes = digests_takes }

-- ---- flags

abbrev pub flag_byte : Bool → ℕ
flag_byte true = 1
flag_byte false = 0

flag_is : (k : ℕ) → nat_le k 1 ≡ true → flag_byte (eqb k 1) ≡ k
flag_is zero low = refl
flag_is (suc zero) low = refl
flag_is (suc (suc k)) low = absurd (omega (arith, leb-true (suc (suc k)) 1 low))

abbrev at_place : {A : Type 0} → ℕ → A → Bad
at_place at v = BadFixedField at

abbrev from_byte : ℕ × Unread → Result (Bool × Unread) Bad
from_byte flag = Ok (eqb flag.0 1, flag.1)

flag_takes : (at : ℕ) (l : Unread) (flag : Bool) (after : Unread) → IsBytes l.rest → flag_at at l ≡ Ok (flag, after) → Took l (flag_byte flag ∷ []) after × ⊤
unfolding flag_at
flag_takes at l flag after bytes e =
    let v = field_takes (number_at w8) (λ n. n ∷ []) (λ n. n < 2 ^ 8) byte_back (λ k. nat_le k 1) (at_place at) from_byte l (flag, after) bytes e in
    let took : Took l (flag_byte (eqb v.0.0 1) ∷ []) v.0.1 = subst (λ (k : ℕ). Took l (k ∷ []) v.0.1) (sym (flag_is v.0.0 v.3)) v.1 in
    (subst (λ (p : Bool × Unread). Took l (flag_byte p.0 ∷ []) p.1) (ok_is (eqb v.0.0 1, v.0.1) (flag, after) v.4) took, tt)

pub flag_text : (at whole : ℕ) (flag : Bool) → IsTextOf (flag_at at) whole (flag_byte flag ∷ []) flag
unfolding flag_at
flag_text at whole true =
    field_text (number_at w8) (λ k. nat_le k 1) (at_place at) from_byte whole (1 ∷ []) [] 1 true (byte_text 1 whole) refl (text_none whole true)
flag_text at whole false =
    field_text (number_at w8) (λ k. nat_le k 1) (at_place at) from_byte whole (0 ∷ []) [] 0 false (byte_text 0 whole) refl (text_none whole false)

flag_back : (at : ℕ) → ReadsBack (flag_at at) (λ flag. flag_byte flag ∷ []) (λ flag. ⊤)
flag_back at = record { again = λ flag whole rest fits. (flag_text at whole flag).again rest; takes = flag_takes at }

-- ---- the header of a time journal

placed_ok : {A : Type 0} (at : ℕ) (r : Result A Bad) (x : A) → header_break at r ≡ Ok x → r ≡ Ok x
placed_ok at (Ok y) x e = e
placed_ok at (Err (Short whole)) x e = absurd cc
placed_ok at (Err (Trailing place)) x e = absurd cc
placed_ok at (Err (BadKind found)) x e = absurd cc
placed_ok at (Err (BadFixedField place)) x e = absurd cc
placed_ok at (Err (NewerFormat found)) x e = absurd cc
placed_ok at (Err TooLong) x e = absurd cc

time_kind : (kind : Kind) → is_time kind ≡ true → kind ≡ Time
time_kind Genesis e = absurd cc
time_kind Content e = absurd cc
time_kind Member e = absurd cc
time_kind Time e = refl
time_kind Occult e = absurd cc
time_kind Purge e = absurd cc
time_kind ClueOccult e = absurd cc

abbrev from_kind : ℕ → Header × Unread → Result (Header × Unread) Bad
from_kind at header = check (is_time header.0.kind) at >>= λ _. Ok header

time_takes : (at : ℕ) (l : Unread) (h : Header) (after : Unread) → IsBytes l.rest → time_at at l ≡ Ok (h, after) → Took l (headers.spelling h) after × IsTimeHeader h
unfolding time_at
time_takes at l h after bytes e =
    let a = bind_ok (header_break at (header_at l)) (from_kind at) (h, after) e in
    let b = bind_ok (check (is_time a.0.0.kind) at) (λ _. Ok a.0) (h, after) a.2 in
    let t = header_back.takes l a.0.0 a.0.1 bytes (placed_ok at (header_at l) a.0 a.1) in
    let kind = time_kind a.0.0.kind (check_holds (is_time a.0.0.kind) at b.0 b.1) in
    answered headers.spelling IsTimeHeader l a.0.0 h a.0.1 after b.2 t.0 (record { rules = t.1.rules; widths = t.1.widths; kind = kind })

time_text : (at whole : ℕ) (h : Header) → IsTimeHeader h → IsTextOf (time_at at) whole (headers.spelling h) h
unfolding time_at
time_text at whole h fits =
    let is = header_is h whole (record { rules = fits.rules; widths = fits.widths }) in
    let kind : is_time h.kind ≡ true = ap is_time fits.kind in
    record {
      again = λ rest. ap (λ r. header_break at r >>= from_kind at) (is.again rest) ∙ ap (λ ok. check ok at >>= λ _. ended h (left_from whole rest)) kind;
      cut = λ k lt. ap (λ r. header_break at r >>= from_kind at) (is.cut k lt);
    }

time_back : (at : ℕ) → ReadsBack (time_at at) headers.spelling IsTimeHeader
time_back at = record { again = λ h whole rest fits. (time_text at whole h fits).again rest; takes = time_takes at }

-- ---- the lower bound

abbrev some_lower_text : ShownLower → List ℕ
some_lower_text x = headers.spelling x.header ++ (with_count x.path ++ (x.root.0 ++ with_count x.ext))

abbrev lower_from : Header → List ℕ → Digest → List ℕ → ShownLower
lower_from header path root ext = record { header = header; path = path; root = root; ext = ext }

abbrev from_ext : Header → List ℕ → Digest → List ℕ × Unread → Result (Option ShownLower × Unread) Bad
from_ext header path root ext = Ok (Some (lower_from header path root ext.0), ext.1)

abbrev from_root : Header → List ℕ → Digest × Unread → Result (Option ShownLower × Unread) Bad
from_root header path root = digests_at root.1 >>= from_ext header path root.0

abbrev from_path : Header → List ℕ × Unread → Result (Option ShownLower × Unread) Bad
from_path header path = digest_at path.1 >>= from_root header path.0

abbrev from_header : Header × Unread → Result (Option ShownLower × Unread) Bad
from_header header = digests_at header.1 >>= from_path header.0

some_lower_takes : (at : ℕ) (l : Unread) (o : Option ShownLower) (after : Unread) → IsBytes l.rest → some_lower_at at l ≡ Ok (o, after) → (x : ShownLower) × (o ≡ Some x) × Took l (some_lower_text x) after × HasLower x
unfolding some_lower_at
some_lower_takes at l o after bytes e =
    let h = plain_takes (time_at at) headers.spelling IsTimeHeader (time_back at) from_header l (o, after) bytes e in
    let p = plain_takes digests_at with_count IsDigests digests_back (from_path h.0.0) h.0.1 (o, after) h.1.bytes h.3 in
    let r = plain_takes digest_at (λ d. d.0) (λ d. length d.0 ≡ 32) digest_back (from_root h.0.0 p.0.0) p.0.1 (o, after) p.1.bytes p.3 in
    let x = plain_takes digests_at with_count IsDigests digests_back (from_ext h.0.0 p.0.0 r.0.0) r.0.1 (o, after) r.1.bytes r.3 in
    let t3 = Took-then p.0.1 r.0.0.0 r.0.1 (with_count x.0.0) x.0.1 r.1 x.1 in
    let t2 = Took-then h.0.1 (with_count p.0.0) p.0.1 (r.0.0.0 ++ with_count x.0.0) x.0.1 p.1 t3 in
    let t1 = Took-then l (headers.spelling h.0.0) h.0.1 (with_count p.0.0 ++ (r.0.0.0 ++ with_count x.0.0)) x.0.1 h.1 t2 in
    let value : ShownLower = lower_from h.0.0 p.0.0 r.0.0 x.0.0 in
    let fits : HasLower value = record { header = h.2; path = p.2; root = r.2; ext = x.2 } in
    there_answered some_lower_text HasLower l value x.0.1 o after x.3 t1 fits

some_lower_is : (at whole : ℕ) (x : ShownLower) → HasLower x → IsTextOf (some_lower_at at) whole (some_lower_text x) (Some x)
unfolding some_lower_at
some_lower_is at whole x fits =
    let ext = text_last digests_at (from_ext x.header x.path x.root) whole (with_count x.ext) x.ext (Some x) (digests_text x.ext whole fits.ext) (text_none whole (Some x)) in
    let root = text_then digest_at (from_root x.header x.path) whole x.root.0 (with_count x.ext) x.root (Some x) (digest_text x.root whole fits.root) ext in
    let path = text_then digests_at (from_path x.header) whole (with_count x.path) (x.root.0 ++ with_count x.ext) x.path (Some x) (digests_text x.path whole fits.path) root in
    text_then (time_at at) from_header whole (headers.spelling x.header) (with_count x.path ++ (x.root.0 ++ with_count x.ext)) x.header (Some x) (time_text at whole x.header fits.header) path

abbrev pub lower_from_flag : ℕ → Bool × Unread → Result (Option ShownLower × Unread) Bad
lower_from_flag at flag = cond flag.0 (some_lower_at (at + 1) flag.1) (Ok (None, flag.1))

lower_by : (at : ℕ) (flag : Bool) (l b : Unread) (o : Option ShownLower) (after : Unread) → Took l (flag_byte flag ∷ []) b → lower_from_flag at (flag, b) ≡ Ok (o, after) → Took l (lower_text o) after × IfSome o HasLower
unfolding lower_text
lower_by at true l b o after took e =
    let x = some_lower_takes (at + 1) b o after took.bytes e in
    subst (λ (y : Option ShownLower). Took l (lower_text y) after × IfSome y HasLower) (sym x.1) (Took-then l (1 ∷ []) b (some_lower_text x.0) after took x.2, x.3)
lower_by at false l b o after took e =
    subst (λ (y : Option ShownLower × Unread). Took l (lower_text y.0) y.1 × IfSome y.0 HasLower) (ok_is (None, b) (o, after) e) (took, tt)

pub lower_takes : (at : ℕ) (l : Unread) (o : Option ShownLower) (after : Unread) → IsBytes l.rest → lower_at at l ≡ Ok (o, after) → Took l (lower_text o) after × IfSome o HasLower
unfolding lower_at
lower_takes at l o after bytes e =
    let f = plain_takes (flag_at at) (λ flag. flag_byte flag ∷ []) (λ flag. ⊤) (flag_back at) (lower_from_flag at) l (o, after) bytes e in
    lower_by at f.0.0 l f.0.1 o after f.1 f.3

pub lower_is : (at whole : ℕ) (o : Option ShownLower) → IfSome o HasLower → IsTextOf (lower_at at) whole (lower_text o) o
unfolding lower_at lower_text
lower_is at whole None fits =
    text_then (flag_at at) (lower_from_flag at) whole (0 ∷ []) [] false None (flag_text at whole false) (text_none whole None)
lower_is at whole (Some x) fits =
    text_then (flag_at at) (lower_from_flag at) whole (1 ∷ []) (some_lower_text x) true (Some x) (flag_text at whole true) (some_lower_is (at + 1) whole x fits)

-- ---- the upper bound

abbrev mark_from : ℕ → ℕ → ℕ → TimeMark
mark_from jsn index time = record { jsn = jsn; index = index; time = time }

abbrev from_time : ℕ → ℕ → ℕ × Unread → Result (TimeMark × Unread) Bad
from_time jsn index time = Ok (mark_from jsn index time.0, time.1)

abbrev from_index : ℕ → ℕ × Unread → Result (TimeMark × Unread) Bad
from_index jsn index = number_at w64 index.1 >>= from_time jsn index.0

abbrev from_jsn : ℕ × Unread → Result (TimeMark × Unread) Bad
from_jsn jsn = number_at w64 jsn.1 >>= from_index jsn.0

mark_takes : (l : Unread) (m : TimeMark) (after : Unread) → IsBytes l.rest → mark_at l ≡ Ok (m, after) → Took l (mark_text m) after × IsMark m
unfolding mark_at mark_text
mark_takes l m after bytes e =
    let j = plain_takes (number_at w64) (to_be_bytes w64) (λ n. n < 2 ^ 64) back64 from_jsn l (m, after) bytes e in
    let i = plain_takes (number_at w64) (to_be_bytes w64) (λ n. n < 2 ^ 64) back64 (from_index j.0.0) j.0.1 (m, after) j.1.bytes j.3 in
    let t = plain_takes (number_at w64) (to_be_bytes w64) (λ n. n < 2 ^ 64) back64 (from_time j.0.0 i.0.0) i.0.1 (m, after) i.1.bytes i.3 in
    let t2 = Took-then j.0.1 (to_be_bytes w64 i.0.0) i.0.1 (to_be_bytes w64 t.0.0) t.0.1 i.1 t.1 in
    let t1 = Took-then l (to_be_bytes w64 j.0.0) j.0.1 (to_be_bytes w64 i.0.0 ++ to_be_bytes w64 t.0.0) t.0.1 j.1 t2 in
    answered mark_text IsMark l (mark_from j.0.0 i.0.0 t.0.0) m t.0.1 after t.3 t1 (record { jsn = j.2; index = i.2; time = t.2 })

mark_is : (m : TimeMark) (whole : ℕ) → IsMark m → IsTextOf mark_at whole (mark_text m) m
unfolding mark_at mark_text
mark_is m whole fits =
    let time = text_last (number_at w64) (from_time m.jsn m.index) whole (to_be_bytes w64 m.time) m.time m (number_text w64 (2 ^ 64) wide64 m.time whole fits.time) (text_none whole m) in
    let index = text_then (number_at w64) (from_index m.jsn) whole (to_be_bytes w64 m.index) (to_be_bytes w64 m.time) m.index m (number_text w64 (2 ^ 64) wide64 m.index whole fits.index) time in
    text_then (number_at w64) from_jsn whole (to_be_bytes w64 m.jsn) (to_be_bytes w64 m.index ++ to_be_bytes w64 m.time) m.jsn m (number_text w64 (2 ^ 64) wide64 m.jsn whole fits.jsn) index

mark_back : ReadsBack mark_at mark_text IsMark
mark_back = record { again = λ m whole rest fits. (mark_is m whole fits).again rest; takes = mark_takes }

abbrev some_upper_text : ShownUpper → List ℕ
some_upper_text x = mark_text x.mark ++ (x.salt.0 ++ (x.root.0 ++ with_count x.ext))

abbrev upper_from : TimeMark → Digest → Digest → List ℕ → ShownUpper
upper_from mark salt root ext = record { mark = mark; salt = salt; root = root; ext = ext }

abbrev upper_from_ext : TimeMark → Digest → Digest → List ℕ × Unread → Result (Option ShownUpper × Unread) Bad
upper_from_ext mark salt root ext = Ok (Some (upper_from mark salt root ext.0), ext.1)

abbrev upper_from_root : TimeMark → Digest → Digest × Unread → Result (Option ShownUpper × Unread) Bad
upper_from_root mark salt root = digests_at root.1 >>= upper_from_ext mark salt root.0

abbrev from_salt : TimeMark → Digest × Unread → Result (Option ShownUpper × Unread) Bad
from_salt mark salt = digest_at salt.1 >>= upper_from_root mark salt.0

abbrev from_mark : TimeMark × Unread → Result (Option ShownUpper × Unread) Bad
from_mark mark = digest_at mark.1 >>= from_salt mark.0

some_upper_takes : (l : Unread) (o : Option ShownUpper) (after : Unread) → IsBytes l.rest → some_upper_at l ≡ Ok (o, after) → (x : ShownUpper) × (o ≡ Some x) × Took l (some_upper_text x) after × HasUpper x
unfolding some_upper_at
some_upper_takes l o after bytes e =
    let m = plain_takes mark_at mark_text IsMark mark_back from_mark l (o, after) bytes e in
    let s = plain_takes digest_at (λ d. d.0) (λ d. length d.0 ≡ 32) digest_back (from_salt m.0.0) m.0.1 (o, after) m.1.bytes m.3 in
    let r = plain_takes digest_at (λ d. d.0) (λ d. length d.0 ≡ 32) digest_back (upper_from_root m.0.0 s.0.0) s.0.1 (o, after) s.1.bytes s.3 in
    let x = plain_takes digests_at with_count IsDigests digests_back (upper_from_ext m.0.0 s.0.0 r.0.0) r.0.1 (o, after) r.1.bytes r.3 in
    let t3 = Took-then s.0.1 r.0.0.0 r.0.1 (with_count x.0.0) x.0.1 r.1 x.1 in
    let t2 = Took-then m.0.1 s.0.0.0 s.0.1 (r.0.0.0 ++ with_count x.0.0) x.0.1 s.1 t3 in
    let t1 = Took-then l (mark_text m.0.0) m.0.1 (s.0.0.0 ++ (r.0.0.0 ++ with_count x.0.0)) x.0.1 m.1 t2 in
    let value : ShownUpper = upper_from m.0.0 s.0.0 r.0.0 x.0.0 in
    let fits : HasUpper value = record { mark = m.2; salt = s.2; root = r.2; ext = x.2 } in
    there_answered some_upper_text HasUpper l value x.0.1 o after x.3 t1 fits

some_upper_is : (whole : ℕ) (x : ShownUpper) → HasUpper x → IsTextOf some_upper_at whole (some_upper_text x) (Some x)
unfolding some_upper_at
some_upper_is whole x fits =
    let ext = text_last digests_at (upper_from_ext x.mark x.salt x.root) whole (with_count x.ext) x.ext (Some x) (digests_text x.ext whole fits.ext) (text_none whole (Some x)) in
    let root = text_then digest_at (upper_from_root x.mark x.salt) whole x.root.0 (with_count x.ext) x.root (Some x) (digest_text x.root whole fits.root) ext in
    let salt = text_then digest_at (from_salt x.mark) whole x.salt.0 (x.root.0 ++ with_count x.ext) x.salt (Some x) (digest_text x.salt whole fits.salt) root in
    text_then mark_at from_mark whole (mark_text x.mark) (x.salt.0 ++ (x.root.0 ++ with_count x.ext)) x.mark (Some x) (mark_is x.mark whole fits.mark) salt

abbrev pub upper_from_flag : Bool × Unread → Result (Option ShownUpper × Unread) Bad
upper_from_flag flag = cond flag.0 (some_upper_at flag.1) (Ok (None, flag.1))

upper_by : (flag : Bool) (l b : Unread) (o : Option ShownUpper) (after : Unread) → Took l (flag_byte flag ∷ []) b → upper_from_flag (flag, b) ≡ Ok (o, after) → Took l (upper_text o) after × IfSome o HasUpper
unfolding upper_text
upper_by true l b o after took e =
    let x = some_upper_takes b o after took.bytes e in
    subst (λ (y : Option ShownUpper). Took l (upper_text y) after × IfSome y HasUpper) (sym x.1) (Took-then l (1 ∷ []) b (some_upper_text x.0) after took x.2, x.3)
upper_by false l b o after took e =
    subst (λ (y : Option ShownUpper × Unread). Took l (upper_text y.0) y.1 × IfSome y.0 HasUpper) (ok_is (None, b) (o, after) e) (took, tt)

pub upper_takes : (at : ℕ) (l : Unread) (o : Option ShownUpper) (after : Unread) → IsBytes l.rest → upper_at at l ≡ Ok (o, after) → Took l (upper_text o) after × IfSome o HasUpper
unfolding upper_at
upper_takes at l o after bytes e =
    let f = plain_takes (flag_at at) (λ flag. flag_byte flag ∷ []) (λ flag. ⊤) (flag_back at) upper_from_flag l (o, after) bytes e in
    upper_by f.0.0 l f.0.1 o after f.1 f.3

pub upper_is : (at whole : ℕ) (o : Option ShownUpper) → IfSome o HasUpper → IsTextOf (upper_at at) whole (upper_text o) o
unfolding upper_at upper_text
upper_is at whole None fits =
    text_then (flag_at at) upper_from_flag whole (0 ∷ []) [] false None (flag_text at whole false) (text_none whole None)
upper_is at whole (Some x) fits =
    text_then (flag_at at) upper_from_flag whole (1 ∷ []) (some_upper_text x) true (Some x) (flag_text at whole true) (some_upper_is whole x fits)

-- ---- what is there only with a bound

pub size_takes : (there : Bool) (l : Unread) (size : ℕ) (after : Unread) → IsBytes l.rest → size_if there l ≡ Ok (size, after) → Took l (text_if there (to_be_bytes w64 size)) after × IsSizeIf there size
unfolding size_if
size_takes true l size after bytes e = back64.takes l size after bytes e
size_takes false l size after bytes e =
    subst (λ (y : ℕ × Unread). Took l [] y.1 × (y.0 ≡ 0)) (ok_is (0, l) (size, after) e) (record { whole = refl; parts = refl; bytes = bytes }, refl)

pub size_is : (there : Bool) (whole size : ℕ) → IsSizeIf there size → IsTextOf (size_if there) whole (text_if there (to_be_bytes w64 size)) size
unfolding size_if
size_is true whole size fits = number_text w64 (2 ^ 64) wide64 size whole fits
size_is false whole size fits = subst (λ (n : ℕ). IsTextOf (λ l. Ok (0, l)) whole [] n) (sym fits) (text_none whole 0)

pub path_takes : (there : Bool) (l : Unread) (path : List ℕ) (after : Unread) → IsBytes l.rest → path_if there l ≡ Ok (path, after) → Took l (text_if there (with_count path)) after × IsPathIf there path
unfolding path_if
path_takes true l path after bytes e = digests_takes l path after bytes e
path_takes false l path after bytes e =
    subst (λ (y : List ℕ × Unread). Took l [] y.1 × (y.0 ≡ [])) (ok_is ([], l) (path, after) e) (record { whole = refl; parts = refl; bytes = bytes }, refl)

pub path_is : (there : Bool) (whole : ℕ) (path : List ℕ) → IsPathIf there path → IsTextOf (path_if there) whole (text_if there (with_count path)) path
unfolding path_if
path_is true whole path fits = digests_text path whole fits
path_is false whole path fits = subst (λ (p : List ℕ). IsTextOf (λ l. Ok ([], l)) whole [] p) (sym fits) (text_none whole [])

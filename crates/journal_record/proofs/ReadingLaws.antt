-- What is read as a header is spelled so and keeps the rules, and what does is read.
use Rattle.std.proofs.Common.{◌≡◌, ◌≢◌, ℕ, ◌^◌, ◌<◌, true, List, [], ◌∷◌, ◌++◌, length, length-append, take, arith, Result, Ok, Err, sym, ap, subst, ◌∙◌, append_assoc, ◌&&◌, Bool, false, cond, eqb, inl, inr}
use Rattle.std.specs.Int.{w8, w32, w64, to_be_bytes}
use Rattle.std.specs.Prelude.{IfOk}
use Rattle.std.proofs.lemmas.List.{append-nil}
use Rattle.ledger_bytes.specs.declared.digest.Digest.{Digest}
use Rattle.ledger_bytes.specs.declared.failure.Bad.{Bad}
use Rattle.ledger_bytes.specs.declared.failure.Bad.TheVariants.{BadFixedField, BadKind, NewerFormat, Short, Trailing}
use Rattle.ledger_bytes.specs.Fields.{Unread, ◌>>=◌, number_at, digest_at, IsBytes, Took, ReadsBack, left_from, bytes_at}
use Rattle.ledger_bytes.proofs.Fields.{bind_ok, Took-then, wide32, wide64, number_back, byte_back, digest_back, IsTextOf, text_none, text_then, digest_text, number_text, byte_text, cut_told, trailing_told, check_ok, bytes_again, number_again, byte_again, bytes_text}
use Rattle.journal_record.specs.declared.header.Header.{Header}
use Rattle.journal_record.specs.declared.header.Kind.{Kind}
use Rattle.journal_record.specs.declared.reading.Front.{Front}
use Rattle.journal_record.specs.declared.reading.ClueFields.{ClueFields}
use Rattle.journal_record.specs.declared.reading.OwnFields.{OwnFields}
use Rattle.journal_record.specs.declared.reading.Parts.{Parts}
use Rattle.journal_record.specs.Header.{code_of, spelling, HasWidths}
use Rattle.journal_record.specs.Rules.{version_ok, jsn_ok, member_ok, clue_ok, clue_ord_ok, clue_prev_ok, a_ok, b_ok, content_len_ok, IsHeader, version_of, is_version, is_kind_in, link_ok, carries_a, carries_len}
use Rattle.journal_record.specs.Reading.{known_kind, front_at, clue_at, own_at, parts_at, header_at, header_of, carried_at, layout_at, fields_at}
use Rattle.journal_record.proofs.ReadingSteps.{ruled, plain_takes, field_takes, field_text, kind_takes, kind_again, ended, answered, whole_takes, whole_told, test, guard_text}
use Rattle.std.proofs.lemmas.Bool.{eqb-true, and_parts, and_from}
use Rattle.journal_record.proofs.Versions.{bool_cases, version_has_kind, version_known, version_carries_a, version_carries_len, first_own, second_own, own_second}

abbrev pub back32 : ReadsBack (number_at w32) (to_be_bytes w32) (λ n. n < 2 ^ 32)
back32 = number_back w32 (2 ^ 32) wide32

abbrev back64 : ReadsBack (number_at w64) (to_be_bytes w64) (λ n. n < 2 ^ 64)
back64 = number_back w64 (2 ^ 64) wide64

abbrev pub at_place : {A : Type 0} → ℕ → A → Bad
at_place at v = BadFixedField at

-- ---- version, kind, number and member

abbrev front_text : Front → List ℕ
front_text x = x.version ∷ [] ++ code_of x.kind ∷ [] ++ to_be_bytes w64 x.jsn ++ to_be_bytes w32 x.member

record IsFront (x : Front) : Type 0 where
  version_width : x.version < 2 ^ 8
  jsn_width : x.jsn < 2 ^ 64
  member_width : x.member < 2 ^ 32
  version : is_version x.version ≡ true
  jsn : jsn_ok x.kind x.jsn ≡ true
  member : member_ok x.kind x.member ≡ true

abbrev from_member : ℕ → Kind → ℕ → ℕ × Unread → Result (Front × Unread) Bad
from_member version kind jsn member = Ok (record { version = version; kind = kind; jsn = jsn; member = member.0 }, member.1)

abbrev from_jsn : ℕ → Kind → ℕ × Unread → Result (Front × Unread) Bad
from_jsn version kind jsn = number_at w32 jsn.1 >>= ruled (member_ok kind) (at_place 10) (from_member version kind jsn.0)

abbrev from_kind : ℕ → Unread → Kind → Result (Front × Unread) Bad
from_kind version l kind = number_at w64 l >>= ruled (jsn_ok kind) (at_place 2) (from_jsn version kind)

abbrev from_code : ℕ → ℕ × Unread → Result (Front × Unread) Bad
from_code version code = known_kind code.0 >>= from_kind version code.1

abbrev from_version : ℕ × Unread → Result (Front × Unread) Bad
from_version version = number_at w8 version.1 >>= from_code version.0

front_takes : (l : Unread) (x : Front) (after : Unread) → IsBytes l.rest → front_at l ≡ Ok (x, after) → Took l (front_text x) after × IsFront x
unfolding front_at
front_takes l x after bytes e =
    let v = field_takes (number_at w8) (λ n. n ∷ []) (λ n. n < 2 ^ 8) byte_back is_version NewerFormat from_version l (x, after) bytes e in
    let c = plain_takes (number_at w8) (λ n. n ∷ []) (λ n. n < 2 ^ 8) byte_back (from_code v.0.0) v.0.1 (x, after) v.1.bytes v.4 in
    let k = bind_ok (known_kind c.0.0) (from_kind v.0.0 c.0.1) (x, after) c.3 in
    let j = field_takes (number_at w64) (to_be_bytes w64) (λ n. n < 2 ^ 64) back64 (jsn_ok k.0) (at_place 2) (from_jsn v.0.0 k.0) c.0.1 (x, after) c.1.bytes k.2 in
    let m = field_takes (number_at w32) (to_be_bytes w32) (λ n. n < 2 ^ 32) back32 (member_ok k.0) (at_place 10) (from_member v.0.0 k.0 j.0.0) j.0.1 (x, after) j.1.bytes j.4 in
    let code : Took v.0.1 (code_of k.0 ∷ []) c.0.1 = subst (λ (n : ℕ). Took v.0.1 (n ∷ []) c.0.1) (sym (kind_takes c.0.0 k.0 k.1)) c.1 in
    let t1 = Took-then l (v.0.0 ∷ []) v.0.1 (code_of k.0 ∷ []) c.0.1 v.1 code in
    let t2 = Took-then l (v.0.0 ∷ [] ++ code_of k.0 ∷ []) c.0.1 (to_be_bytes w64 j.0.0) j.0.1 t1 j.1 in
    let t3 = Took-then l (v.0.0 ∷ [] ++ code_of k.0 ∷ [] ++ to_be_bytes w64 j.0.0) j.0.1 (to_be_bytes w32 m.0.0) m.0.1 t2 m.1 in
    let fits : IsFront (record { version = v.0.0; kind = k.0; jsn = j.0.0; member = m.0.0 }) = record { version_width = v.2; jsn_width = j.2; member_width = m.2; version = v.3; jsn = j.3; member = m.3 } in
    answered front_text (IsFront) l (record { version = v.0.0; kind = k.0; jsn = j.0.0; member = m.0.0 }) x m.0.1 after m.4 t3 fits

regroup4 : (a b c d : List ℕ) → a ++ b ++ c ++ d ≡ a ++ (b ++ (c ++ (d ++ [])))
regroup4 a b c d = sym (append-nil (a ++ b ++ c ++ d)) ∙ simp append_assoc

front_is : (x : Front) (whole : ℕ) → IsFront x → IsTextOf front_at whole (front_text x) x
unfolding front_at
front_is x whole fits =
    let r3 : List ℕ = to_be_bytes w32 x.member ++ [] in
    let r2 : List ℕ = to_be_bytes w64 x.jsn ++ r3 in
    let r1 : List ℕ = code_of x.kind ∷ [] ++ r2 in
    let member = field_text (number_at w32) (member_ok x.kind) (at_place 10) (from_member x.version x.kind x.jsn) whole (to_be_bytes w32 x.member) [] x.member x (number_text w32 (2 ^ 32) wide32 x.member whole fits.member_width) fits.member (text_none whole x) in
    let jsn = field_text (number_at w64) (jsn_ok x.kind) (at_place 2) (from_jsn x.version x.kind) whole (to_be_bytes w64 x.jsn) r3 x.jsn x (number_text w64 (2 ^ 64) wide64 x.jsn whole fits.jsn_width) fits.jsn member in
    let kind : IsTextOf (λ l. known_kind (code_of x.kind) >>= from_kind x.version l) whole r2 x =
    subst (λ (k : Result Kind Bad). IsTextOf (λ l. k >>= from_kind x.version l) whole r2 x) (sym (kind_again x.kind)) jsn in
    let code = text_then (number_at w8) (from_code x.version) whole (code_of x.kind ∷ []) r2 (code_of x.kind) x (byte_text (code_of x.kind) whole) kind in
    let version = field_text (number_at w8) is_version NewerFormat from_version whole (x.version ∷ []) r1 x.version x (byte_text x.version whole) fits.version code in
    subst (λ (t : List ℕ). IsTextOf front_at whole t x) (sym (regroup4 (x.version ∷ []) (code_of x.kind ∷ []) (to_be_bytes w64 x.jsn) (to_be_bytes w32 x.member))) version

-- ---- the clue

abbrev clue_text : ClueFields → List ℕ
clue_text x = x.clue.0 ++ to_be_bytes w32 x.ordinal ++ to_be_bytes w64 x.previous

record IsClue (kind : Kind) (jsn : ℕ) (x : ClueFields) : Type 0 where
  clue_width : length x.clue.0 ≡ 32
  ord_width : x.ordinal < 2 ^ 32
  prev_width : x.previous < 2 ^ 64
  clue : clue_ok kind x.clue ≡ true
  ord : clue_ord_ok x.clue x.ordinal ≡ true
  prev : clue_prev_ok jsn x.ordinal x.previous ≡ true

abbrev from_prev : Digest → ℕ → ℕ × Unread → Result (ClueFields × Unread) Bad
from_prev clue ord prev = Ok (record { clue = clue; ordinal = ord; previous = prev.0 }, prev.1)

abbrev from_ord : ℕ → Digest → ℕ × Unread → Result (ClueFields × Unread) Bad
from_ord jsn clue ord = number_at w64 ord.1 >>= ruled (clue_prev_ok jsn ord.0) (at_place 50) (from_prev clue ord.0)

abbrev from_clue : ℕ → Digest × Unread → Result (ClueFields × Unread) Bad
from_clue jsn clue = number_at w32 clue.1 >>= ruled (clue_ord_ok clue.0) (at_place 46) (from_ord jsn clue.0)

clue_takes : (kind : Kind) (jsn : ℕ) (l : Unread) (x : ClueFields) (after : Unread) → IsBytes l.rest → clue_at kind jsn l ≡ Ok (x, after) → Took l (clue_text x) after × IsClue kind jsn x
unfolding clue_at
clue_takes kind jsn l x after bytes e =
    let c = field_takes digest_at (λ d. d.0) (λ d. length d.0 ≡ 32) digest_back (clue_ok kind) (at_place 14) (from_clue jsn) l (x, after) bytes e in
    let o = field_takes (number_at w32) (to_be_bytes w32) (λ n. n < 2 ^ 32) back32 (clue_ord_ok c.0.0) (at_place 46) (from_ord jsn c.0.0) c.0.1 (x, after) c.1.bytes c.4 in
    let p = field_takes (number_at w64) (to_be_bytes w64) (λ n. n < 2 ^ 64) back64 (clue_prev_ok jsn o.0.0) (at_place 50) (from_prev c.0.0 o.0.0) o.0.1 (x, after) o.1.bytes o.4 in
    let t1 = Took-then l c.0.0.0 c.0.1 (to_be_bytes w32 o.0.0) o.0.1 c.1 o.1 in
    let t2 = Took-then l (c.0.0.0 ++ to_be_bytes w32 o.0.0) o.0.1 (to_be_bytes w64 p.0.0) p.0.1 t1 p.1 in
    let fits : IsClue kind jsn (record { clue = c.0.0; ordinal = o.0.0; previous = p.0.0 }) = record { clue_width = c.2; ord_width = o.2; prev_width = p.2; clue = c.3; ord = o.3; prev = p.3 } in
    answered clue_text (IsClue kind jsn) l (record { clue = c.0.0; ordinal = o.0.0; previous = p.0.0 }) x p.0.1 after p.4 t2 fits

pub regroup3 : (a b c : List ℕ) → a ++ b ++ c ≡ a ++ (b ++ (c ++ []))
regroup3 a b c = sym (append-nil (a ++ b ++ c)) ∙ simp append_assoc

clue_is : (kind : Kind) (jsn : ℕ) (x : ClueFields) (whole : ℕ) → IsClue kind jsn x → IsTextOf (clue_at kind jsn) whole (clue_text x) x
unfolding clue_at
clue_is kind jsn x whole fits =
    let r2 : List ℕ = to_be_bytes w64 x.previous ++ [] in
    let r1 : List ℕ = to_be_bytes w32 x.ordinal ++ r2 in
    let prev = field_text (number_at w64) (clue_prev_ok jsn x.ordinal) (at_place 50) (from_prev x.clue x.ordinal) whole (to_be_bytes w64 x.previous) [] x.previous x (number_text w64 (2 ^ 64) wide64 x.previous whole fits.prev_width) fits.prev (text_none whole x) in
    let ord = field_text (number_at w32) (clue_ord_ok x.clue) (at_place 46) (from_ord jsn x.clue) whole (to_be_bytes w32 x.ordinal) r2 x.ordinal x (number_text w32 (2 ^ 32) wide32 x.ordinal whole fits.ord_width) fits.ord prev in
    let clue = field_text digest_at (clue_ok kind) (at_place 14) (from_clue jsn) whole x.clue.0 r1 x.clue x (digest_text x.clue whole fits.clue_width) fits.clue ord in
    subst (λ (t : List ℕ). IsTextOf (clue_at kind jsn) whole t x) (sym (regroup3 x.clue.0 (to_be_bytes w32 x.ordinal) (to_be_bytes w64 x.previous))) clue

-- ---- what goes by the kind

abbrev own_text : OwnFields → List ℕ
own_text x = to_be_bytes w64 x.a ++ to_be_bytes w64 x.b ++ x.link.0

record IsOwn (version : ℕ) (kind : Kind) (jsn : ℕ) (x : OwnFields) : Type 0 where
  a_width : x.a < 2 ^ 64
  b_width : x.b < 2 ^ 64
  link_width : length x.link.0 ≡ 32
  a : (a_ok kind jsn x.a && carries_a version kind x.a) ≡ true
  b : b_ok kind x.b ≡ true
  link : link_ok kind x.link ≡ true

abbrev from_link : ℕ → ℕ → Digest × Unread → Result (OwnFields × Unread) Bad
from_link a b link = Ok (record { a = a; b = b; link = link.0 }, link.1)

abbrev from_b : Kind → ℕ → ℕ × Unread → Result (OwnFields × Unread) Bad
from_b kind a b = digest_at b.1 >>= ruled (link_ok kind) (at_place 74) (from_link a b.0)

abbrev from_a : Kind → ℕ × Unread → Result (OwnFields × Unread) Bad
from_a kind a = number_at w64 a.1 >>= ruled (b_ok kind) (at_place 66) (from_b kind a.0)

own_takes : (version : ℕ) (kind : Kind) (jsn : ℕ) (l : Unread) (x : OwnFields) (after : Unread) → IsBytes l.rest → own_at version kind jsn l ≡ Ok (x, after) → Took l (own_text x) after × IsOwn version kind jsn x
unfolding own_at
own_takes version kind jsn l x after bytes e =
    let a = field_takes (number_at w64) (to_be_bytes w64) (λ n. n < 2 ^ 64) back64 (λ n. a_ok kind jsn n && carries_a version kind n) (at_place 58) (from_a kind) l (x, after) bytes e in
    let b = field_takes (number_at w64) (to_be_bytes w64) (λ n. n < 2 ^ 64) back64 (b_ok kind) (at_place 66) (from_b kind a.0.0) a.0.1 (x, after) a.1.bytes a.4 in
    let k = field_takes digest_at (λ d. d.0) (λ d. length d.0 ≡ 32) digest_back (link_ok kind) (at_place 74) (from_link a.0.0 b.0.0) b.0.1 (x, after) b.1.bytes b.4 in
    let t1 = Took-then l (to_be_bytes w64 a.0.0) a.0.1 (to_be_bytes w64 b.0.0) b.0.1 a.1 b.1 in
    let t2 = Took-then l (to_be_bytes w64 a.0.0 ++ to_be_bytes w64 b.0.0) b.0.1 k.0.0.0 k.0.1 t1 k.1 in
    let fits : IsOwn version kind jsn (record { a = a.0.0; b = b.0.0; link = k.0.0 }) = record { a_width = a.2; b_width = b.2; link_width = k.2; a = a.3; b = b.3; link = k.3 } in
    answered own_text (IsOwn version kind jsn) l (record { a = a.0.0; b = b.0.0; link = k.0.0 }) x k.0.1 after k.4 t2 fits

own_is : (version : ℕ) (kind : Kind) (jsn : ℕ) (x : OwnFields) (whole : ℕ) → IsOwn version kind jsn x → IsTextOf (own_at version kind jsn) whole (own_text x) x
unfolding own_at
own_is version kind jsn x whole fits =
    let r2 : List ℕ = x.link.0 ++ [] in
    let r1 : List ℕ = to_be_bytes w64 x.b ++ r2 in
    let link = field_text digest_at (link_ok kind) (at_place 74) (from_link x.a x.b) whole x.link.0 [] x.link x (digest_text x.link whole fits.link_width) fits.link (text_none whole x) in
    let b = field_text (number_at w64) (b_ok kind) (at_place 66) (from_b kind x.a) whole (to_be_bytes w64 x.b) r2 x.b x (number_text w64 (2 ^ 64) wide64 x.b whole fits.b_width) fits.b link in
    let a = field_text (number_at w64) (λ n. a_ok kind jsn n && carries_a version kind n) (at_place 58) (from_a kind) whole (to_be_bytes w64 x.a) r1 x.a x (number_text w64 (2 ^ 64) wide64 x.a whole fits.a_width) fits.a b in
    subst (λ (t : List ℕ). IsTextOf (own_at version kind jsn) whole t x) (sym (regroup3 (to_be_bytes w64 x.a) (to_be_bytes w64 x.b) x.link.0)) a

-- ---- the content's length and the digests

abbrev parts_text : Parts → List ℕ
parts_text x = to_be_bytes w32 x.content_len ++ x.content_digest.0 ++ x.who_digest.0

record IsParts (version : ℕ) (kind : Kind) (x : Parts) : Type 0 where
  len_width : x.content_len < 2 ^ 32
  content_width : length x.content_digest.0 ≡ 32
  who_width : length x.who_digest.0 ≡ 32
  len : (content_len_ok kind x.content_len && carries_len version kind x.content_len) ≡ true

abbrev from_who : ℕ → Digest → Digest × Unread → Result (Parts × Unread) Bad
from_who len content who = Ok (record { content_len = len; content_digest = content; who_digest = who.0 }, who.1)

abbrev from_content : ℕ → Digest × Unread → Result (Parts × Unread) Bad
from_content len content = digest_at content.1 >>= from_who len content.0

abbrev from_len : ℕ × Unread → Result (Parts × Unread) Bad
from_len len = digest_at len.1 >>= from_content len.0

parts_takes : (version : ℕ) (kind : Kind) (l : Unread) (x : Parts) (after : Unread) → IsBytes l.rest → parts_at version kind l ≡ Ok (x, after) → Took l (parts_text x) after × IsParts version kind x
unfolding parts_at
parts_takes version kind l x after bytes e =
    let n = field_takes (number_at w32) (to_be_bytes w32) (λ n. n < 2 ^ 32) back32 (λ n. content_len_ok kind n && carries_len version kind n) (at_place 106) from_len l (x, after) bytes e in
    let c = plain_takes digest_at (λ d. d.0) (λ d. length d.0 ≡ 32) digest_back (from_content n.0.0) n.0.1 (x, after) n.1.bytes n.4 in
    let w = plain_takes digest_at (λ d. d.0) (λ d. length d.0 ≡ 32) digest_back (from_who n.0.0 c.0.0) c.0.1 (x, after) c.1.bytes c.3 in
    let t1 = Took-then l (to_be_bytes w32 n.0.0) n.0.1 c.0.0.0 c.0.1 n.1 c.1 in
    let t2 = Took-then l (to_be_bytes w32 n.0.0 ++ c.0.0.0) c.0.1 w.0.0.0 w.0.1 t1 w.1 in
    let fits : IsParts version kind (record { content_len = n.0.0; content_digest = c.0.0; who_digest = w.0.0 }) = record { len_width = n.2; content_width = c.2; who_width = w.2; len = n.3 } in
    answered parts_text (IsParts version kind) l (record { content_len = n.0.0; content_digest = c.0.0; who_digest = w.0.0 }) x w.0.1 after w.3 t2 fits

parts_is : (version : ℕ) (kind : Kind) (x : Parts) (whole : ℕ) → IsParts version kind x → IsTextOf (parts_at version kind) whole (parts_text x) x
unfolding parts_at
parts_is version kind x whole fits =
    let r2 : List ℕ = x.who_digest.0 ++ [] in
    let r1 : List ℕ = x.content_digest.0 ++ r2 in
    let who = text_then digest_at (from_who x.content_len x.content_digest) whole x.who_digest.0 [] x.who_digest x (digest_text x.who_digest whole fits.who_width) (text_none whole x) in
    let content = text_then digest_at (from_content x.content_len) whole x.content_digest.0 r2 x.content_digest x (digest_text x.content_digest whole fits.content_width) who in
    let len = field_text (number_at w32) (λ n. content_len_ok kind n && carries_len version kind n) (at_place 106) from_len whole (to_be_bytes w32 x.content_len) r1 x.content_len x (number_text w32 (2 ^ 32) wide32 x.content_len whole fits.len_width) fits.len content in
    subst (λ (t : List ℕ). IsTextOf (parts_at version kind) whole t x) (sym (regroup3 (to_be_bytes w32 x.content_len) x.content_digest.0 x.who_digest.0)) len

-- ---- the whole

-- the header of four groups
abbrev header_from : Front → ClueFields → OwnFields → Parts → Header
header_from f c o p = record {
  version = f.version;
  kind = f.kind;
  jsn = f.jsn;
  member = f.member;
  clue = c.clue;
  clue_ord = c.ordinal;
  clue_prev = c.previous;
  a = o.a;
  b = o.b;
  link = o.link;
  content_len = p.content_len;
  content_digest = p.content_digest;
  who_digest = p.who_digest;
}

abbrev from_parts : Front → ClueFields → OwnFields → Parts × Unread → Result (Header × Unread) Bad
from_parts front clue own parts = Ok (header_from front clue own parts.0, parts.1)

abbrev from_own : Front → ClueFields → OwnFields × Unread → Result (Header × Unread) Bad
from_own front clue own = parts_at front.version front.kind own.1 >>= from_parts front clue own.0

abbrev from_clue_on : Front → ClueFields × Unread → Result (Header × Unread) Bad
from_clue_on front clue = own_at front.version front.kind front.jsn clue.1 >>= from_own front clue.0

abbrev from_front : Front × Unread → Result (Header × Unread) Bad
from_front front = clue_at front.0.kind front.0.jsn front.1 >>= from_clue_on front.0

abbrev front_of : Header → Front
front_of h = record { version = h.version; kind = h.kind; jsn = h.jsn; member = h.member }

abbrev clue_of : Header → ClueFields
clue_of h = record { clue = h.clue; ordinal = h.clue_ord; previous = h.clue_prev }

abbrev own_of : Header → OwnFields
own_of h = record { a = h.a; b = h.b; link = h.link }

abbrev parts_of : Header → Parts
parts_of h = record { content_len = h.content_len; content_digest = h.content_digest; who_digest = h.who_digest }

-- the groups one after the other are the whole spelling
abbrev groups : Header → List ℕ
groups h = front_text (front_of h) ++ clue_text (clue_of h) ++ own_text (own_of h) ++ parts_text (parts_of h)

regroup : (a b c d e f g h i j k l m : List ℕ) → a ++ b ++ c ++ d ++ e ++ f ++ g ++ h ++ i ++ j ++ k ++ l ++ m ≡ (a ++ b ++ c ++ d) ++ (e ++ f ++ g) ++ (h ++ i ++ j) ++ (k ++ l ++ m)
regroup a b c d e f g h i j k l m = simp append_assoc

spelling_groups : (h : Header) → spelling h ≡ groups h
unfolding spelling
spelling_groups h =
    regroup (h.version ∷ []) (code_of h.kind ∷ []) (to_be_bytes w64 h.jsn) (to_be_bytes w32 h.member) h.clue.0 (to_be_bytes w32 h.clue_ord) (to_be_bytes w64 h.clue_prev) (to_be_bytes w64 h.a) (to_be_bytes w64 h.b) h.link.0 (to_be_bytes w32 h.content_len) h.content_digest.0 h.who_digest.0

-- a header that keeps every rule and whose fields have their widths
pub record IsWhole (h : Header) : Type 0 where
  pub rules : IsHeader h
  pub widths : HasWidths h

-- a header as its fields are judged one by one: nothing is said of its version but that it is known, and carries them
record IsFields (h : Header) : Type 0 where
  front : IsFront (front_of h)
  clue : IsClue h.kind h.jsn (clue_of h)
  own : IsOwn h.version h.kind h.jsn (own_of h)
  parts : IsParts h.version h.kind (parts_of h)

fields_widths : (h : Header) → IsFields h → HasWidths h
fields_widths h x = record {
  version = x.front.version_width;
  jsn = x.front.jsn_width;
  member = x.front.member_width;
  clue_ord = x.clue.ord_width;
  clue_prev = x.clue.prev_width;
  a = x.own.a_width;
  b = x.own.b_width;
  content_len = x.parts.len_width;
  clue = x.clue.clue_width;
  link = x.own.link_width;
  content_digest = x.parts.content_width;
  who_digest = x.parts.who_width;
}

-- fields that were judged one by one are a header, where the version is its own
whole_from : (h : Header) → IsFields h → version_ok h.version h.kind h.a h.content_len ≡ true → IsWhole h
whole_from h x own = record {
  rules = record {
    version = own;
    jsn = x.front.jsn;
    member = x.front.member;
    clue = x.clue.clue;
    clue_ord = x.clue.ord;
    clue_prev = x.clue.prev;
    a = (and_parts (a_ok h.kind h.jsn h.a) (carries_a h.version h.kind h.a) x.own.a).0;
    b = x.own.b;
    link = x.own.link;
    content_len = (and_parts (content_len_ok h.kind h.content_len) (carries_len h.version h.kind h.content_len) x.parts.len).0;
  };
  widths = fields_widths h x;
}

-- a header's own version is known, and carries its fields
fields_from : (h : Header) → IsWhole h → IsFields h
fields_from h x =
    let r = x.rules in
    let w = x.widths in
    let is : h.version ≡ version_of h.kind h.a h.content_len = eqb-true _ _ r.version in record {
      front = record { version_width = w.version; jsn_width = w.jsn; member_width = w.member; version = ap is_version is ∙ version_known h.kind h.a h.content_len; jsn = r.jsn; member = r.member };
      clue = record { clue_width = w.clue; ord_width = w.clue_ord; prev_width = w.clue_prev; clue = r.clue; ord = r.clue_ord; prev = r.clue_prev };
      own = record { a_width = w.a; b_width = w.b; link_width = w.link; a = and_from _ _ r.a (subst (λ v. carries_a v h.kind h.a ≡ true) (sym is) (version_carries_a h.kind h.a h.content_len)); b = r.b; link = r.link };
      parts = record { len_width = w.content_len; content_width = w.content_digest; who_width = w.who_digest; len = and_from _ _ r.content_len (subst (λ v. carries_len v h.kind h.content_len ≡ true) (sym is) (version_carries_len h.kind h.a h.content_len)) };
    }

fields_answered : (l : Unread) (f : Front) (c : ClueFields) (o : OwnFields) (p : Parts) (b : Unread) (h : Header) (after : Unread) → ended (header_from f c o p) b ≡ ended h after → Took l (front_text f ++ clue_text c ++ own_text o ++ parts_text p) b → IsFields (header_from f c o p) → Took l (spelling h) after × IsFields h
fields_answered l f c o p b h after e took fits =
    answered spelling IsFields l (header_from f c o p) h b after e
    (subst (λ (t : List ℕ). Took l t b) (sym (spelling_groups (header_from f c o p))) took)
    fits

fields_takes : (l : Unread) (h : Header) (after : Unread) → IsBytes l.rest → fields_at l ≡ Ok (h, after) → Took l (spelling h) after × IsFields h
unfolding fields_at
fields_takes l h after bytes e =
    let f = bind_ok (front_at l) from_front (h, after) e in
    let front = front_takes l f.0.0 f.0.1 bytes f.1 in
    let c = bind_ok (clue_at f.0.0.kind f.0.0.jsn f.0.1) (from_clue_on f.0.0) (h, after) f.2 in
    let clue = clue_takes f.0.0.kind f.0.0.jsn f.0.1 c.0.0 c.0.1 front.0.bytes c.1 in
    let o = bind_ok (own_at f.0.0.version f.0.0.kind f.0.0.jsn c.0.1) (from_own f.0.0 c.0.0) (h, after) c.2 in
    let own = own_takes f.0.0.version f.0.0.kind f.0.0.jsn c.0.1 o.0.0 o.0.1 clue.0.bytes o.1 in
    let p = bind_ok (parts_at f.0.0.version f.0.0.kind o.0.1) (from_parts f.0.0 c.0.0 o.0.0) (h, after) o.2 in
    let parts = parts_takes f.0.0.version f.0.0.kind o.0.1 p.0.0 p.0.1 own.0.bytes p.1 in
    let t1 = Took-then l (front_text f.0.0) f.0.1 (clue_text c.0.0) c.0.1 front.0 clue.0 in
    let t2 = Took-then l (front_text f.0.0 ++ clue_text c.0.0) c.0.1 (own_text o.0.0) o.0.1 t1 own.0 in
    let t3 = Took-then l (front_text f.0.0 ++ clue_text c.0.0 ++ own_text o.0.0) o.0.1 (parts_text p.0.0) p.0.1 t2 parts.0 in
    fields_answered l f.0.0 c.0.0 o.0.0 p.0.0 p.0.1 h after p.2 t3 (record { front = front.1; clue = clue.1; own = own.1; parts = parts.1 })

fields_are : (h : Header) (whole : ℕ) → IsFields h → IsTextOf fields_at whole (spelling h) h
unfolding fields_at
fields_are h whole x =
    let r3 : List ℕ = parts_text (parts_of h) ++ [] in
    let r2 : List ℕ = own_text (own_of h) ++ r3 in
    let r1 : List ℕ = clue_text (clue_of h) ++ r2 in
    let parts_text_is = text_then (parts_at h.version h.kind) (from_parts (front_of h) (clue_of h) (own_of h)) whole (parts_text (parts_of h)) [] (parts_of h) h (parts_is h.version h.kind (parts_of h) whole x.parts) (text_none whole h) in
    let own_text_is = text_then (own_at h.version h.kind h.jsn) (from_own (front_of h) (clue_of h)) whole (own_text (own_of h)) r3 (own_of h) h (own_is h.version h.kind h.jsn (own_of h) whole x.own) parts_text_is in
    let clue_text_is = text_then (clue_at h.kind h.jsn) (from_clue_on (front_of h)) whole (clue_text (clue_of h)) r2 (clue_of h) h (clue_is h.kind h.jsn (clue_of h) whole x.clue) own_text_is in
    let all = text_then front_at from_front whole (front_text (front_of h)) r1 (front_of h) h (front_is (front_of h) whole x.front) clue_text_is in
    let text : spelling h ≡ front_text (front_of h) ++ r1 =
    spelling_groups h ∙ regroup4 (front_text (front_of h)) (clue_text (clue_of h)) (own_text (own_of h)) (parts_text (parts_of h)) in
    subst (λ (t : List ℕ). IsTextOf fields_at whole t h) (sym text) all

-- ---- the version in front, which is judged by what stands behind

-- what stands between the kind and `a`, and between `a` and the content's length
abbrev middle : Header → List ℕ
middle h = to_be_bytes w64 h.jsn ++ to_be_bytes w32 h.member ++ h.clue.0 ++ to_be_bytes w32 h.clue_ord ++ to_be_bytes w64 h.clue_prev

abbrev between : Header → List ℕ
between h = to_be_bytes w64 h.b ++ h.link.0

length-middle : (h : Header) → HasWidths h → length (middle h) ≡ 56
length-middle h w = simp length-append (omega (arith, w.clue))

length-between : (h : Header) → HasWidths h → length (between h) ≡ 40
length-between h w = simp length-append (omega (arith, w.link))

-- what is looked at behind version and kind, where the version is the second
abbrev ahead : Header → List ℕ
ahead h = middle h ++ (to_be_bytes w64 h.a ++ (between h ++ (to_be_bytes w32 h.content_len ++ [])))

abbrev digests : Header → List ℕ
digests h = h.content_digest.0 ++ h.who_digest.0

abbrev behind_kind : Header → List ℕ
behind_kind h = ahead h ++ digests h

regroup_ahead : (v c j m k o p a b l n d w : List ℕ) → v ++ c ++ j ++ m ++ k ++ o ++ p ++ a ++ b ++ l ++ n ++ d ++ w ≡ v ++ (c ++ (((j ++ m ++ k ++ o ++ p) ++ (a ++ ((b ++ l) ++ (n ++ [])))) ++ (d ++ w)))
regroup_ahead v c j m k o p a b l n d w = ap (λ (x : List ℕ). v ++ c ++ j ++ m ++ k ++ o ++ p ++ a ++ b ++ l ++ x ++ d ++ w) (sym (append-nil n)) ∙ simp append_assoc

spelling_ahead : (h : Header) → spelling h ≡ h.version ∷ [] ++ (code_of h.kind ∷ [] ++ behind_kind h)
unfolding spelling
spelling_ahead h =
    regroup_ahead (h.version ∷ []) (code_of h.kind ∷ []) (to_be_bytes w64 h.jsn) (to_be_bytes w32 h.member) h.clue.0 (to_be_bytes w32 h.clue_ord) (to_be_bytes w64 h.clue_prev) (to_be_bytes w64 h.a) (to_be_bytes w64 h.b) h.link.0 (to_be_bytes w32 h.content_len) h.content_digest.0 h.who_digest.0

-- whether the second version is the header's own
abbrev is_second : Header → Bool
is_second h = eqb (version_of h.kind h.a h.content_len) 2

abbrev from_ahead_len : Kind → ℕ → ℕ × Unread → Result (Unit {0} × Unread) Bad
from_ahead_len kind a len = test (eqb (version_of kind a len.0) 2) (BadFixedField 0) >>= λ _. Ok (tt, len.1)

abbrev from_ahead_between : Kind → ℕ → List ℕ × Unread → Result (Unit {0} × Unread) Bad
from_ahead_between kind a skipped = number_at w32 skipped.1 >>= from_ahead_len kind a

abbrev from_ahead_a : Kind → ℕ × Unread → Result (Unit {0} × Unread) Bad
from_ahead_a kind a = bytes_at 40 a.1 >>= from_ahead_between kind a.0

abbrev from_ahead : Kind → List ℕ × Unread → Result (Unit {0} × Unread) Bad
from_ahead kind skipped = number_at w64 skipped.1 >>= from_ahead_a kind

abbrev look_ahead : Kind → Unread → Result (Unit {0} × Unread) Bad
look_ahead kind l = bytes_at 56 l >>= from_ahead kind

-- what is looked at tells whether the second version is the header's own, whatever stands behind
looked_ahead : (h : Header) (whole : ℕ) (rest : List ℕ) → HasWidths h → look_ahead h.kind (left_from whole (ahead h ++ rest)) ≡ (test (is_second h) (BadFixedField 0) >>= λ _. Ok (tt, left_from whole rest))
looked_ahead h whole rest w =
    let r3 : List ℕ = to_be_bytes w32 h.content_len ++ [] in
    let r2 : List ℕ = between h ++ r3 in
    let r1 : List ℕ = to_be_bytes w64 h.a ++ r2 in
    ap (λ (s : List ℕ). look_ahead h.kind (left_from whole s)) (append_assoc (middle h) r1 rest)
    ∙ (ap (λ r. r >>= from_ahead h.kind) (bytes_again 56 (middle h) whole (r1 ++ rest) (length-middle h w))
    ∙ (ap (λ (s : List ℕ). number_at w64 (left_from whole s) >>= from_ahead_a h.kind) (append_assoc (to_be_bytes w64 h.a) r2 rest)
    ∙ (ap (λ r. r >>= from_ahead_a h.kind) (number_again w64 (2 ^ 64) wide64 h.a whole (r2 ++ rest) w.a)
    ∙ (ap (λ (s : List ℕ). bytes_at 40 (left_from whole s) >>= from_ahead_between h.kind h.a) (append_assoc (between h) r3 rest)
    ∙ (ap (λ r. r >>= from_ahead_between h.kind h.a) (bytes_again 40 (between h) whole (r3 ++ rest) (length-between h w))
    ∙ (ap (λ (s : List ℕ). number_at w32 (left_from whole s) >>= from_ahead_len h.kind h.a) (append_assoc (to_be_bytes w32 h.content_len) [] rest)
    ∙ ap (λ r. r >>= from_ahead_len h.kind h.a) (number_again w32 (2 ^ 32) wide32 h.content_len whole rest w.content_len)))))))

-- .. and is too short where its end is cut off
looked_text : (h : Header) (whole : ℕ) → HasWidths h → is_second h ≡ true → IsTextOf (look_ahead h.kind) whole (ahead h) tt
looked_text h whole w own =
    let r3 : List ℕ = to_be_bytes w32 h.content_len ++ [] in
    let r2 : List ℕ = between h ++ r3 in
    let r1 : List ℕ = to_be_bytes w64 h.a ++ r2 in
    let len = field_text (number_at w32) (λ n. eqb (version_of h.kind h.a n) 2) (λ n. BadFixedField 0) (λ v. Ok (tt, v.1)) whole (to_be_bytes w32 h.content_len) [] h.content_len tt (number_text w32 (2 ^ 32) wide32 h.content_len whole w.content_len) own (text_none whole tt) in
    let skipped = text_then (bytes_at 40) (from_ahead_between h.kind h.a) whole (between h) r3 (between h) tt (bytes_text 40 whole (between h) (length-between h w)) len in
    let a = text_then (number_at w64) (from_ahead_a h.kind) whole (to_be_bytes w64 h.a) r2 h.a tt (number_text w64 (2 ^ 64) wide64 h.a whole w.a) skipped in
    text_then (bytes_at 56) (from_ahead h.kind) whole (middle h) r1 (middle h) tt (bytes_text 56 whole (middle h) (length-middle h w)) a

abbrev from_layout_kind : ℕ → Unread → Kind → Result (Unit {0} × Unread) Bad
from_layout_kind version l kind = carried_at version kind l

abbrev from_layout_in : ℕ → ℕ → Unread → Kind → Result (Unit {0} × Unread) Bad
from_layout_in version code l kind = test (is_kind_in version kind) (BadKind code) >>= λ _. from_layout_kind version l kind

abbrev from_layout_code : ℕ → ℕ × Unread → Result (Unit {0} × Unread) Bad
from_layout_code version code = known_kind code.0 >>= from_layout_in version code.0 code.1

abbrev from_layout : ℕ × Unread → Result (Unit {0} × Unread) Bad
from_layout version = number_at w8 version.1 >>= from_layout_code version.0

abbrev from_layout_version : ℕ × Unread → Result (Unit {0} × Unread) Bad
from_layout_version version = test (is_version version.0) (NewerFormat version.0) >>= λ _. from_layout version

-- behind a version and a kind that are known, the version is looked at
layout_told : (h : Header) (whole : ℕ) (rest : List ℕ) → is_version h.version ≡ true → layout_at (left_from whole (spelling h ++ rest)) ≡ from_layout_in h.version (code_of h.kind) (left_from whole (behind_kind h ++ rest)) h.kind
unfolding layout_at
layout_told h whole rest known =
    let r2 : List ℕ = behind_kind h in
    let r1 : List ℕ = code_of h.kind ∷ [] ++ r2 in
    ap (λ (s : List ℕ). number_at w8 (left_from whole (s ++ rest)) >>= from_layout_version) (spelling_ahead h)
    ∙ (ap (λ r. r >>= from_layout_version) (byte_again h.version whole (r1 ++ rest))
    ∙ (ap (λ b. test b (NewerFormat h.version) >>= λ _. from_layout (h.version, left_from whole (r1 ++ rest))) known
    ∙ (ap (λ r. r >>= from_layout_code h.version) (byte_again (code_of h.kind) whole (r2 ++ rest))
    ∙ ap (λ r. r >>= from_layout_in h.version (code_of h.kind) (left_from whole (r2 ++ rest))) (kind_again h.kind))))

-- where the version isn't the first, it is looked at further behind
carried_second : (version : ℕ) (kind : Kind) (l : Unread) → eqb version 1 ≡ false → carried_at version kind l ≡ look_ahead kind l
unfolding carried_at
carried_second version kind l other = ap (λ b. cond b (Ok (tt, l)) (look_ahead kind l)) other

-- a second version that was let through is the header's own
second_taken : (h : Header) (whole : ℕ) (rest : List ℕ) (u : Unit {0} × Unread) → HasWidths h → is_version h.version ≡ true → eqb h.version 1 ≡ false
    → layout_at (left_from whole (spelling h ++ rest)) ≡ Ok u → is_second h ≡ true
second_taken h whole rest u w known other e =
    let inside = bind_ok (test (is_kind_in h.version h.kind) (BadKind (code_of h.kind))) (λ _. carried_at h.version h.kind (left_from whole (behind_kind h ++ rest))) u (sym (layout_told h whole rest known) ∙ e) in
    let look : look_ahead h.kind (left_from whole (ahead h ++ (digests h ++ rest))) ≡ Ok u =
    ap (λ (s : List ℕ). look_ahead h.kind (left_from whole s)) (sym (append_assoc (ahead h) (digests h) rest))
    ∙ (sym (carried_second h.version h.kind (left_from whole (behind_kind h ++ rest)) other)
    ∙ inside.2) in
    let told = sym (looked_ahead h whole (digests h ++ rest) w) ∙ look in
    let b = bind_ok (test (is_second h) (BadFixedField 0)) (λ _. Ok (tt, left_from whole (digests h ++ rest))) u told in
    (check_ok (is_second h) (BadFixedField 0) tt b.0 b.1).0

-- the version of a header that was read is its own
own_version : (h : Header) (whole : ℕ) (rest : List ℕ) (u : Unit {0} × Unread) → IsFields h → layout_at (left_from whole (spelling h ++ rest)) ≡ Ok u → version_ok h.version h.kind h.a h.content_len ≡ true
own_version h whole rest u x e =
    elim (bool_cases (eqb h.version 1)) [
      | inl first ↦
          first_own h.version h.kind h.a h.content_len first
          (and_parts (a_ok h.kind h.jsn h.a) (carries_a h.version h.kind h.a) x.own.a).1
          (and_parts (content_len_ok h.kind h.content_len) (carries_len h.version h.kind h.content_len) x.parts.len).1
      | inr other ↦ second_own h.version h.kind h.a h.content_len x.front.version other (second_taken h whole rest u (fields_widths h x) x.front.version other e)
    ]

header_takes : (l : Unread) (h : Header) (after : Unread) → IsBytes l.rest → header_at l ≡ Ok (h, after) → Took l (spelling h) after × IsWhole h
unfolding header_at
header_takes l h after bytes e =
    let b = bind_ok (layout_at l) (λ _. fields_at l) (h, after) e in
    let f = fields_takes l h after bytes b.2 in
    let layout : layout_at (left_from l.whole (spelling h ++ after.rest)) ≡ Ok b.0 = ap (λ (s : List ℕ). layout_at (left_from l.whole s)) (sym f.0.parts) ∙ b.1 in
    (f.0, whole_from h f.1 (own_version h l.whole after.rest b.0 f.1 layout))

-- what is looked at of a header: its version, its kind, and as much behind them as the version asks for
carried_text : (h : Header) (whole : ℕ) → IsWhole h → (p q : List ℕ) × (spelling h ≡ (h.version ∷ [] ++ (code_of h.kind ∷ [] ++ p)) ++ q) × IsTextOf (carried_at h.version h.kind) whole p tt
unfolding carried_at
carried_text h whole x =
    elim (bool_cases (eqb h.version 1)) [
      | inl first ↦ (
        [],
        behind_kind h,
        spelling_ahead h,
        subst (λ b. IsTextOf (λ l. cond b (Ok (tt, l)) (look_ahead h.kind l)) whole [] tt) (sym first) (text_none whole tt),
      )
      | inr other ↦ (
        ahead h,
        digests h,
        spelling_ahead h,
        subst (λ b. IsTextOf (λ l. cond b (Ok (tt, l)) (look_ahead h.kind l)) whole (ahead h) tt) (sym other)
            (looked_text h whole x.widths (own_second h.version h.kind h.a h.content_len x.rules.version other)),
      )
    ]

layout_text : (h : Header) (whole : ℕ) → IsWhole h → (p q : List ℕ) × (spelling h ≡ p ++ q) × IsTextOf layout_at whole p tt
unfolding layout_at
layout_text h whole x =
    let c = carried_text h whole x in
    let r1 : List ℕ = code_of h.kind ∷ [] ++ c.0 in
    let fields = fields_from h x in
    let own : h.version ≡ version_of h.kind h.a h.content_len = eqb-true _ _ x.rules.version in
    let has : is_kind_in h.version h.kind ≡ true = ap (λ v. is_kind_in v h.kind) own ∙ version_has_kind h.kind h.a h.content_len in
    let inside : IsTextOf (λ l. from_layout_in h.version (code_of h.kind) l h.kind) whole c.0 tt =
    subst (λ (v : Bool). IsTextOf (λ l. test v (BadKind (code_of h.kind)) >>= λ _. carried_at h.version h.kind l) whole c.0 tt) (sym has) c.3 in
    let kind : IsTextOf (λ l. known_kind (code_of h.kind) >>= from_layout_in h.version (code_of h.kind) l) whole c.0 tt =
    subst (λ (k : Result Kind Bad). IsTextOf (λ l. k >>= from_layout_in h.version (code_of h.kind) l) whole c.0 tt) (sym (kind_again h.kind)) inside in
    let code = text_then (number_at w8) (from_layout_code h.version) whole (code_of h.kind ∷ []) c.0 (code_of h.kind) tt (byte_text (code_of h.kind) whole) kind in
    let version = field_text (number_at w8) is_version NewerFormat from_layout whole (h.version ∷ []) r1 h.version tt (byte_text h.version whole) fields.front.version code in
    (h.version ∷ [] ++ r1, c.1, c.2, version)

pub header_is : (h : Header) (whole : ℕ) → IsWhole h → IsTextOf header_at whole (spelling h) h
unfolding header_at
header_is h whole x =
    let l = layout_text h whole x in
    let fields : IsTextOf fields_at whole (l.0 ++ l.1) h = subst (λ (t : List ℕ). IsTextOf fields_at whole t h) l.2 (fields_are h whole (fields_from h x)) in
    subst (λ (t : List ℕ). IsTextOf header_at whole t h) (sym l.2) (guard_text layout_at fields_at whole l.0 l.1 tt h l.3 fields)

-- reading a header is the inverse of spelling it
pub header_back : ReadsBack header_at spelling IsWhole
header_back = record { again = λ h whole rest fits. (header_is h whole fits).again rest; takes = header_takes }

-- ---- all of the bytes

pub header_of_only : (bytes : List ℕ) (h : Header) → IsHeader h → HasWidths h → bytes ≡ spelling h → header_of bytes ≡ Ok h
unfolding header_of
header_of_only bytes h rules widths e = whole_told header_at bytes (spelling h) h (header_is h (length bytes) (record { rules = rules; widths = widths })) e

header_of_takes : (bytes : List ℕ) (h : Header) → IsBytes bytes → header_of bytes ≡ Ok h → IsHeader h × (bytes ≡ spelling h)
unfolding header_of
header_of_takes bytes h fits e = let w = whole_takes header_at spelling IsWhole header_back bytes h fits e in (w.0.rules, w.1)

pub header_of_found : (bytes : List ℕ) (read : Result Header Bad) → IsBytes bytes → read ≡ header_of bytes → IfOk read (λ h. IsHeader h × (bytes ≡ spelling h))
header_of_found bytes (Ok h) fits e = header_of_takes bytes h fits (sym e)
header_of_found bytes (Err d) fits e = tt

-- ---- where the end of a header is cut off, or bytes are left behind it

length-spelling : (h : Header) → HasWidths h → length (spelling h) ≡ 174
unfolding spelling
length-spelling h w = simp length-append (omega (arith, w.clue, w.link, w.content_digest, w.who_digest))

pub header_of_cut : (bytes : List ℕ) (h : Header) (k : ℕ) → IsHeader h → HasWidths h → k < 174 → bytes ≡ take k (spelling h) → header_of bytes ≡ Err (Short k)
unfolding header_of
header_of_cut bytes h k rules widths lt e =
    cut_told header_at bytes (spelling h) h k (header_is h (length bytes) (record { rules = rules; widths = widths })) (omega (arith, length-spelling h widths)) e

pub header_of_trailing : (bytes : List ℕ) (h : Header) (rest : List ℕ) → IsHeader h → HasWidths h → rest ≢ [] → bytes ≡ spelling h ++ rest → header_of bytes ≡ Err (Trailing 174)
unfolding header_of
header_of_trailing bytes h rest rules widths some e =
    trailing_told header_at bytes (spelling h) rest h (header_is h (length bytes) (record { rules = rules; widths = widths })) some e
    ∙ ap (λ (n : ℕ). Err (Trailing n)) (length-spelling h widths)

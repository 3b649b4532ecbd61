-- Reading looks at the next bytes alone.
use Rattle.std.proofs.Common.{◌≡◌, ℕ, ◌+◌, ◌≤◌, Bool, true, false, List, ◌++◌, length, length-append, length-drop, arith, Result, Ok, Err, Some, None, refl, ap, ◌∙◌, inl, inr}
use Rattle.std.specs.Int.{Width, byte_len, w8, w32, w64}
use Rattle.std.specs.Prelude.{nat_le}
use Rattle.std.proofs.lemmas.Bool.{cases_lt, lt-ltb, le-ltb, leb-true}
use Rattle.std.proofs.lemmas.List.{take-append-le, drop-append-le}
use Rattle.ledger_bytes.specs.declared.failure.Bad.{Bad}
use Rattle.ledger_bytes.specs.declared.limits.TheConstants.{CONTENT_LIMIT}
use Rattle.ledger_bytes.specs.Fields.{Unread, left_from, ◌>>=◌, bytes_at, number_at, digest_at, check, IsBytes}
use Rattle.journal_record.specs.declared.approval.TheConstants.{WHO_LIMIT}
use Rattle.journal_record.specs.declared.header.Header.{Header}
use Rattle.journal_record.specs.Reading.{carried_at, layout_at, front_at, clue_at, own_at, parts_at, fields_at, header_at, known_version, known_kind, kind_in}
use Rattle.journal_record.specs.Rules.{IsHeader, jsn_ok, member_ok, clue_ok, clue_ord_ok, clue_prev_ok, version_of, carries_a, carries_len, a_ok, b_ok, link_ok, content_len_ok}
use Rattle.journal_record.specs.declared.header.Kind.{Kind}
use Rattle.journal_record.specs.declared.header.Kind.TheVariants as kind
use Rattle.journal_record.proofs.ReadingLaws.{header_back}
use Rattle.std.specs.Prelude.{IsTrue, ◌&&◌, if◌then◌else◌, ◌==◌}
use Rattle.journal_record.specs.Items.{Item, with_more, TookFew, IsLocal, content_at, body_at, state_ok, who_place, who_at, item_at, most_bytes}

-- one field
pub bytes_local : (n : ℕ) → IsLocal (n) (bytes_at n)
bytes_local n = record {
  few = λ l. elim (cases_lt (length l.rest) (n)) [
    | inl short ↦ rw (lt-ltb (length l.rest) (n) short) tt
    | inr long ↦ rw (le-ltb (length l.rest) (n) long) (omega (arith, length-drop (n) l.rest))
  ];
  same = λ whole longer rest more long.
      rw (le-ltb (length rest) (n) long, le-ltb (length (rest ++ more)) (n) (omega (arith, long, length-append rest more)), take-append-le (n) rest more long, drop-append-le (n) rest more long) refl;
}

pub number_local : (w : Width) → IsLocal (byte_len w) (number_at w)
number_local w = record {
  few = λ l. elim (cases_lt (length l.rest) (byte_len w)) [
    | inl short ↦ rw (lt-ltb (length l.rest) (byte_len w) short) tt
    | inr long ↦ rw (le-ltb (length l.rest) (byte_len w) long) (omega (arith, length-drop (byte_len w) l.rest))
  ];
  same = λ whole longer rest more long.
      rw (le-ltb (length rest) (byte_len w) long, le-ltb (length (rest ++ more)) (byte_len w) (omega (arith, long, length-append rest more)), take-append-le (byte_len w) rest more long, drop-append-le (byte_len w) rest more long) refl;
}

pub digest_local : IsLocal (32) (digest_at)
digest_local = record {
  few = λ l. elim (cases_lt (length l.rest) (32)) [
    | inl short ↦ rw (lt-ltb (length l.rest) (32) short) tt
    | inr long ↦ rw (le-ltb (length l.rest) (32) long) (omega (arith, length-drop (32) l.rest))
  ];
  same = λ whole longer rest more long.
      rw (le-ltb (length rest) (32) long, le-ltb (length (rest ++ more)) (32) (omega (arith, long, length-append rest more)), take-append-le (32) rest more long, drop-append-le (32) rest more long) refl;
}

-- nothing is read
pub nothing_local : {A : Type 0} (x : A) → IsLocal 0 (λ l. Ok (x, l))
nothing_local x = record { few = λ l. omega arith; same = λ whole longer rest more le. refl }

-- fewer bytes are enough
pub local_more : {A : Type 0} (read : Unread → Result (A × Unread) Bad) (m n : ℕ) → m ≤ n → IsLocal m read → IsLocal n read
local_more {A} read m n le near = record { few = λ l. go l (read l) (near.few l); same = λ whole longer rest more long. near.same whole longer rest more (omega (arith, le, long)) }
  where
    go : (l : Unread) (r : Result (A × Unread) Bad) → TookFew m l r → TookFew n l r
    go l (Ok x) few = omega (arith, few, le)
    go l (Err bad) few = tt

-- one reading after the other
module _ {A B : Type 0} (read : Unread → Result (A × Unread) Bad) (f : A × Unread → Result (B × Unread) Bad) (m n : ℕ) (first : IsLocal m read) (second : (a : A) → IsLocal n (λ l. f (a, l))) where
  few_then : (l : Unread) (r : Result (A × Unread) Bad) → TookFew m l r → TookFew (m + n) l (r >>= f)
  few_then l (Ok x) few = go (f x) ((second x.0).few x.1)
    where
      go : (r : Result (B × Unread) Bad) → TookFew n x.1 r → TookFew (m + n) l r
      go (Ok y) less = omega (arith, few, less)
      go (Err bad) less = tt
  few_then l (Err bad) few = tt

  same_then : (whole longer : ℕ) (rest more : List ℕ) (r : Result (A × Unread) Bad) → m + n ≤ length rest → TookFew m (left_from whole rest) r
      → (with_more longer more r >>= f) ≡ with_more longer more (r >>= f)
  same_then whole longer rest more (Ok x) long few = (second x.0).same x.1.whole longer x.1.rest more (omega (arith, few, long))
  same_then whole longer rest more (Err bad) long few = refl

  pub local_then : IsLocal (m + n) (λ l. read l >>= f)
  local_then = record {
    few = λ l. few_then l (read l) (first.few l);
    same = λ whole longer rest more long. ap (λ r. r >>= f) (first.same whole longer rest more (omega (arith, long))) ∙ same_then whole longer rest more (read (left_from whole rest)) long (first.few (left_from whole rest));
  }

-- a test in front of a reading
pub local_after : {X B : Type 0} (r : Result X Bad) (f : X → Unread → Result (B × Unread) Bad) (n : ℕ) → ((x : X) → r ≡ Ok x → IsLocal n (f x)) → IsLocal n (λ l. r >>= λ x. f x l)
local_after (Ok x) f n near = near x refl
local_after (Err bad) f n near = record { few = λ l. tt; same = λ whole longer rest more long. refl }

-- a test of a field in front of a reading
pub local_check : {B : Type 0} (ok : Bool) (at : ℕ) (f : Unread → Result (B × Unread) Bad) (n : ℕ) → (ok ≡ true → IsLocal n f) → IsLocal n (λ l. check ok at >>= λ _. f l)
local_check true at f n near = near refl
local_check false at f n near = record { few = λ l. tt; same = λ whole longer rest more long. refl }

-- one reading or another
if_local : {A : Type 0} (test : Bool) (f g : Unread → Result (A × Unread) Bad) (n : ℕ) → IsLocal n f → IsLocal n g → IsLocal n (λ l. if test then f l else g l)
if_local true f g n yes_near no_near = yes_near
if_local false f g n yes_near no_near = no_near

-- ---- a header

front_local : IsLocal 14 front_at
unfolding front_at
front_local = local_then (number_at w8) _ 1 13 (number_local w8)
    (λ version. local_after (known_version version) _ 13 (λ _ _. local_then (number_at w8) _ 1 12 (number_local w8)
    (λ code. local_after (known_kind code) _ 12 (λ kind _. local_then (number_at w64) _ 8 4 (number_local w64)
    (λ jsn. local_check (jsn_ok kind jsn) 2 _ 4 (λ _. local_then (number_at w32) _ 4 0 (number_local w32)
    (λ member. local_check (member_ok kind member) 10 _ 0 (λ _. nothing_local _))))))))

clue_local : (kind : Kind) (jsn : ℕ) → IsLocal 44 (clue_at kind jsn)
unfolding clue_at
clue_local kind jsn = local_then digest_at _ 32 12 digest_local
    (λ clue. local_check (clue_ok kind clue) 14 _ 12 (λ _. local_then (number_at w32) _ 4 8 (number_local w32)
    (λ ord. local_check (clue_ord_ok clue ord) 46 _ 8 (λ _. local_then (number_at w64) _ 8 0 (number_local w64)
    (λ prev. local_check (clue_prev_ok jsn ord prev) 50 _ 0 (λ _. nothing_local _))))))

own_local : (version : ℕ) (kind : Kind) (jsn : ℕ) → IsLocal 48 (own_at version kind jsn)
unfolding own_at
own_local version kind jsn = local_then (number_at w64) _ 8 40 (number_local w64)
    (λ a. local_check (a_ok kind jsn a && carries_a version kind a) 58 _ 40 (λ _. local_then (number_at w64) _ 8 32 (number_local w64)
    (λ b. local_check (b_ok kind b) 66 _ 32 (λ _. local_then digest_at _ 32 0 digest_local
    (λ link. local_check (link_ok kind link) 74 _ 0 (λ _. nothing_local _))))))

parts_local : (version : ℕ) (kind : Kind) → IsLocal 68 (parts_at version kind)
unfolding parts_at
parts_local version kind = local_then (number_at w32) _ 4 64 (number_local w32)
    (λ len. local_check (content_len_ok kind len && carries_len version kind len) 106 _ 64 (λ _. local_then digest_at _ 32 32 digest_local
    (λ content. local_then digest_at _ 32 0 digest_local (λ who. nothing_local _))))

fields_local : IsLocal 174 fields_at
unfolding fields_at
fields_local = local_then front_at _ 14 160 front_local
    (λ front. local_then (clue_at front.kind front.jsn) _ 44 116 (clue_local front.kind front.jsn)
    (λ clue. local_then (own_at front.version front.kind front.jsn) _ 48 68 (own_local front.version front.kind front.jsn)
    (λ own. local_then (parts_at front.version front.kind) _ 68 0 (parts_local front.version front.kind) (λ parts. nothing_local _))))

-- what shows whether the version is the header's own
carried_local : (version : ℕ) (kind : Kind) → IsLocal 108 (carried_at version kind)
unfolding carried_at
carried_local version kind = if_local (version == 1) (λ l. Ok (tt, l)) _ 108 (local_more (λ l. Ok (tt, l)) 0 108 (omega arith) (nothing_local tt))
    (local_then (bytes_at 56) _ 56 52 (bytes_local 56)
    (λ skipped. local_then (number_at w64) _ 8 44 (number_local w64)
    (λ a. local_then (bytes_at 40) _ 40 4 (bytes_local 40)
    (λ between. local_then (number_at w32) _ 4 0 (number_local w32)
    (λ len. local_check (version_of kind a len == 2) 0 _ 0 (λ _. nothing_local tt))))))

layout_local : IsLocal 110 layout_at
unfolding layout_at
layout_local = local_then (number_at w8) _ 1 109 (number_local w8)
    (λ version. local_after (known_version version) _ 109 (λ _ _. local_then (number_at w8) _ 1 108 (number_local w8)
    (λ code. local_after (known_kind code) _ 108 (λ kind _. local_after (kind_in version kind code) _ 108 (λ _ _. carried_local version kind)))))

-- a reading behind a look at what it reads
local_guard : {A B : Type 0} (guard : Unread → Result (A × Unread) Bad) (read : Unread → Result (B × Unread) Bad) (m n : ℕ) → m ≤ n → IsLocal m guard → IsLocal n read → IsLocal n (λ l. guard l >>= λ _. read l)
local_guard {A} guard read m n le first second = record {
  few = λ l. few l (guard l);
  same = λ whole longer rest more long.
      ap (λ r. r >>= λ _. read (left_from longer (rest ++ more))) (first.same whole longer rest more (omega (arith, le, long)))
      ∙ same whole longer rest more long (guard (left_from whole rest));
}
  where
    few : (l : Unread) (r : Result (A × Unread) Bad) → TookFew n l (r >>= λ _. read l)
    few l (Ok x) = second.few l
    few l (Err bad) = tt

    same : (whole longer : ℕ) (rest more : List ℕ) → n ≤ length rest → (r : Result (A × Unread) Bad)
        → (with_more longer more r >>= λ _. read (left_from longer (rest ++ more))) ≡ with_more longer more (r >>= λ _. read (left_from whole rest))
    same whole longer rest more long (Ok x) = second.same whole longer rest more long
    same whole longer rest more long (Err bad) = refl

-- a header looks at its 174 bytes alone
pub header_local : IsLocal 174 header_at
unfolding header_at
header_local = local_guard layout_at fields_at 110 174 (omega arith) layout_local fields_local

-- ---- a journal of a dump

content_local : (h : Header) (state : ℕ) → IsLocal h.content_len (content_at h state)
content_local h state = if_local (state == 0) (λ l. bytes_at h.content_len l >>= λ content. Ok (Some content.0, content.1)) (λ l. Ok (None, l)) h.content_len
    (local_more (λ l. bytes_at h.content_len l >>= λ content. Ok (Some content.0, content.1)) (h.content_len + 0) h.content_len (omega arith)
    (local_then (bytes_at h.content_len) _ h.content_len 0 (bytes_local h.content_len) (λ content. nothing_local (Some content))))
    (local_more (λ l. Ok (None, l)) 0 h.content_len (omega arith) (nothing_local None))

body_local : (h : Header) → IsLocal (1 + h.content_len) (body_at h)
unfolding body_at
body_local h = local_then (number_at w8) _ 1 h.content_len (number_local w8) (λ state. local_check (state_ok h state) 174 _ h.content_len (λ _. content_local h state))

who_local : (at : ℕ) → IsLocal (4 + WHO_LIMIT) (who_at at)
unfolding who_at
who_local at = local_then (number_at w32) _ 4 WHO_LIMIT (number_local w32)
    (λ len. local_check (nat_le len WHO_LIMIT) at _ WHO_LIMIT (λ few. local_more (bytes_at len) len WHO_LIMIT (leb-true len WHO_LIMIT few) (bytes_local len)))

-- behind its header
abbrev behind : Header × Unread → Result (Item × Unread) Bad
behind h = body_at h.0 h.1 >>= λ b. who_at (who_place h.0 b.0) b.1 >>= λ w. Ok (record { header = h.0; body = b.0; who = w.0 }, w.1)

behind_local : (h : Header) → IsLocal ((1 + h.content_len) + (4 + WHO_LIMIT)) (λ l. behind (h, l))
behind_local h = local_then (body_at h) _ (1 + h.content_len) (4 + WHO_LIMIT) (body_local h)
    (λ body. local_then (who_at (who_place h body)) _ (4 + WHO_LIMIT) 0 (who_local (who_place h body)) (λ who. nothing_local _))

-- no header names a longer content
content_few : (h : Header) → IsHeader h → h.content_len ≤ CONTENT_LIMIT
content_few h rules = few h.kind h.content_len rules.content_len
  where
    few : (kind : Kind) (len : ℕ) → IsTrue (content_len_ok kind len) → len ≤ CONTENT_LIMIT
    few kind.Genesis len ok = grind (arith, ok)
    few kind.Content len ok = grind (arith, ok)
    few kind.Member len ok = grind (arith, ok)
    few kind.Time len ok = grind (arith, ok)
    few kind.Occult len ok = grind (arith, ok)
    few kind.Purge len ok = grind (arith, ok)
    few kind.ClueOccult len ok = grind (arith, ok)

pub item_near : (whole longer : ℕ) (rest more : List ℕ) → IsBytes rest → most_bytes ≤ length rest → item_at (left_from longer (rest ++ more)) ≡ with_more longer more (item_at (left_from whole rest))
unfolding item_at
item_near whole longer rest more bytes long =
    ap (λ r. r >>= behind) (header_local.same whole longer rest more (omega (arith, long)))
    ∙ go (header_at (left_from whole rest)) refl (header_local.few (left_from whole rest))
  where
    go : (r : Result (Header × Unread) Bad) → header_at (left_from whole rest) ≡ r → TookFew 174 (left_from whole rest) r → (with_more longer more r >>= behind) ≡ with_more longer more (r >>= behind)
    go (Ok x) e few =
        let t = header_back.takes (left_from whole rest) x.0 x.1 bytes e in
        (behind_local x.0).same x.1.whole longer x.1.rest more (omega (arith, few, long, content_few x.0 t.1.rules))
    go (Err bad) e few = refl

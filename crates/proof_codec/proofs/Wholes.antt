-- What is read as a proof is spelled so, and what is spelled so is read.
use Rattle.std.proofs.Common.{◌≡◌, ℕ, ◌+◌, ◌-◌, ◌^◌, ◌<◌, ◌≤◌, Bool, true, false, cond, eqb, ltb, List, [], ◌∷◌, ◌++◌, length, Option, Result, Ok, Err, refl, sym, ap, subst, ◌∙◌}
use Rattle.std.specs.Int.{w8, w64, to_be_bytes}
use Rattle.std.specs.Option.{is_some}
use Rattle.std.specs.Prelude.{IfOk}
use Rattle.std.proofs.lemmas.Bool.{eqb-true, ltb-false, le-ltb}
use Rattle.std.proofs.lemmas.List.{append-nil, nil_from_length}
use Rattle.ledger_bytes.specs.declared.digest.Digest.{Digest}
use Rattle.ledger_bytes.specs.declared.failure.Bad.{Bad}
use Rattle.ledger_bytes.specs.declared.failure.NoMemory.{NoMemory}
use Rattle.ledger_bytes.specs.declared.failure.Bad.TheVariants.{BadFixedField, TooLong, Trailing}
use Rattle.ledger_bytes.specs.Fields.{Unread, left_from, ◌>>=◌, number_at, digest_at, end_at, IsBytes, Took}
use Rattle.ledger_bytes.proofs.Fields.{bind_ok, check_ok, Took-then, wide64, byte_back, digest_back, IsTextOf, text_none, text_then, digest_text, number_text, byte_text}
use Rattle.journal_record.proofs.ReadingSteps.{plain_takes, field_takes, field_text, answered}
use Rattle.proof_codec.specs.Proofs.{ShownLower, ShownUpper, Shown, is_bounded, with_count, lower_text, upper_text, text_if, notary_text, front_text, spelling, IsDigests, HasFields, IsProof}
use Rattle.proof_codec.specs.Reading.{digests_at, lower_at, upper_at, size_if, path_if, front_at, proof_at, proof_of}
use Rattle.proof_codec.specs.Proofs.{lower_len}
use Rattle.proof_codec.proofs.Parts.{back64, text_last, digests_text, digests_back, lower_takes, lower_is, upper_takes, upper_is, size_takes, size_is, path_takes, path_is}

-- ---- the fields in front of the bounds

abbrev pub Front : Type 0
Front = ℕ × ℕ × Digest × List ℕ

abbrev pub front_of : Shown → Front
front_of p = (p.size, p.n, p.leaf, p.path)

abbrev pub front_bytes : Front → List ℕ
front_bytes f = 1 ∷ (to_be_bytes w64 f.0 ++ (to_be_bytes w64 f.1 ++ (f.2.0 ++ with_count f.3)))

pub record IsFront (f : Front) : Type 0 where
  pub size : f.0 < 2 ^ 64
  pub n : f.1 < 2 ^ 64
  pub leaf : length f.2.0 ≡ 32
  pub path : IsDigests f.3

abbrev pub is_version : ℕ → Bool
is_version version = eqb version 1

abbrev pub bad_version : ℕ → Bad
bad_version version = BadFixedField 0

abbrev from_path : ℕ → ℕ → Digest → List ℕ × Unread → Result (Front × Unread) Bad
from_path size n leaf path = Ok ((size, n, leaf, path.0), path.1)

abbrev from_leaf : ℕ → ℕ → Digest × Unread → Result (Front × Unread) Bad
from_leaf size n leaf = digests_at leaf.1 >>= from_path size n leaf.0

abbrev from_n : ℕ → ℕ × Unread → Result (Front × Unread) Bad
from_n size n = digest_at n.1 >>= from_leaf size n.0

abbrev from_size : ℕ × Unread → Result (Front × Unread) Bad
from_size size = number_at w64 size.1 >>= from_n size.0

abbrev pub from_version : ℕ × Unread → Result (Front × Unread) Bad
from_version version = number_at w64 version.1 >>= from_size

front_takes : (l : Unread) (f : Front) (after : Unread) → IsBytes l.rest → front_at l ≡ Ok (f, after) → Took l (front_bytes f) after × IsFront f
unfolding front_at
front_takes l f after bytes e =
    let v = field_takes (number_at w8) (λ n. n ∷ []) (λ n. n < 2 ^ 8) byte_back is_version bad_version from_version l (f, after) bytes e in
    let s = plain_takes (number_at w64) (to_be_bytes w64) (λ n. n < 2 ^ 64) back64 from_size v.0.1 (f, after) v.1.bytes v.4 in
    let n = plain_takes (number_at w64) (to_be_bytes w64) (λ n. n < 2 ^ 64) back64 (from_n s.0.0) s.0.1 (f, after) s.1.bytes s.3 in
    let d = plain_takes digest_at (λ d. d.0) (λ d. length d.0 ≡ 32) digest_back (from_leaf s.0.0 n.0.0) n.0.1 (f, after) n.1.bytes n.3 in
    let p = plain_takes digests_at with_count IsDigests digests_back (from_path s.0.0 n.0.0 d.0.0) d.0.1 (f, after) d.1.bytes d.3 in
    let t4 = Took-then n.0.1 d.0.0.0 d.0.1 (with_count p.0.0) p.0.1 d.1 p.1 in
    let t3 = Took-then s.0.1 (to_be_bytes w64 n.0.0) n.0.1 (d.0.0.0 ++ with_count p.0.0) p.0.1 n.1 t4 in
    let t2 = Took-then v.0.1 (to_be_bytes w64 s.0.0) s.0.1 (to_be_bytes w64 n.0.0 ++ (d.0.0.0 ++ with_count p.0.0)) p.0.1 s.1 t3 in
    let one : Took l (1 ∷ []) v.0.1 = subst (λ (k : ℕ). Took l (k ∷ []) v.0.1) (eqb-true v.0.0 1 v.3) v.1 in
    let t1 = Took-then l (1 ∷ []) v.0.1 (to_be_bytes w64 s.0.0 ++ (to_be_bytes w64 n.0.0 ++ (d.0.0.0 ++ with_count p.0.0))) p.0.1 one t2 in
    answered front_bytes IsFront l (s.0.0, n.0.0, d.0.0, p.0.0) f p.0.1 after p.3 t1 (record { size = s.2; n = n.2; leaf = d.2; path = p.2 })

pub front_is : (f : Front) (whole : ℕ) → IsFront f → IsTextOf front_at whole (front_bytes f) f
unfolding front_at
front_is f whole fits =
    let r3 : List ℕ = f.2.0 ++ with_count f.3 in
    let r2 : List ℕ = to_be_bytes w64 f.1 ++ r3 in
    let r1 : List ℕ = to_be_bytes w64 f.0 ++ r2 in
    let path = text_last digests_at (from_path f.0 f.1 f.2) whole (with_count f.3) f.3 f (digests_text f.3 whole fits.path) (text_none whole f) in
    let leaf = text_then digest_at (from_leaf f.0 f.1) whole f.2.0 (with_count f.3) f.2 f (digest_text f.2 whole fits.leaf) path in
    let n = text_then (number_at w64) (from_n f.0) whole (to_be_bytes w64 f.1) r3 f.1 f (number_text w64 (2 ^ 64) wide64 f.1 whole fits.n) leaf in
    let size = text_then (number_at w64) from_size whole (to_be_bytes w64 f.0) r2 f.0 f (number_text w64 (2 ^ 64) wide64 f.0 whole fits.size) n in
    field_text (number_at w8) is_version bad_version from_version whole (1 ∷ []) r1 1 f (byte_text 1 whole) refl size

-- ---- the whole

abbrev pub shown : Front → Option ShownLower → Option ShownUpper → ℕ → List ℕ → List ℕ → Shown
shown f lo hi size lo_path hi_path = record { size = f.0; n = f.1; leaf = f.2; path = f.3; lo = lo; hi = hi; notary_size = size; lo_path = lo_path; hi_path = hi_path }

abbrev from_hi_path : Front → Option ShownLower → Option ShownUpper → ℕ → List ℕ → List ℕ × Unread → Result (Shown × Unread) Bad
from_hi_path f lo hi size lo_path hi_path = Ok (shown f lo hi size lo_path hi_path.0, hi_path.1)

abbrev from_lo_path : Front → Option ShownLower → Option ShownUpper → ℕ → List ℕ × Unread → Result (Shown × Unread) Bad
from_lo_path f lo hi size lo_path = path_if (is_some hi) lo_path.1 >>= from_hi_path f lo hi size lo_path.0

abbrev from_notary : Front → Option ShownLower → Option ShownUpper → ℕ × Unread → Result (Shown × Unread) Bad
from_notary f lo hi size = path_if (is_some lo) size.1 >>= from_lo_path f lo hi size.0

abbrev pub from_hi : Front → Option ShownLower → Option ShownUpper × Unread → Result (Shown × Unread) Bad
from_hi f lo hi = size_if (is_bounded lo hi.0) hi.1 >>= from_notary f lo hi.0

abbrev pub from_lo : Front → Option ShownLower × Unread → Result (Shown × Unread) Bad
from_lo f lo = upper_at (50 + length f.3 + lower_len lo.0) lo.1 >>= from_hi f lo.0

abbrev pub from_front : Front × Unread → Result (Shown × Unread) Bad
from_front f = lower_at (50 + length f.0.3) f.1 >>= from_lo f.0

proof_takes : (l : Unread) (p : Shown) (after : Unread) → IsBytes l.rest → proof_at l ≡ Ok (p, after) → Took l (spelling p) after × HasFields p
unfolding proof_at spelling front_text notary_text
proof_takes l p after bytes e =
    let f = bind_ok (front_at l) from_front (p, after) e in
    let front = front_takes l f.0.0 f.0.1 bytes f.1 in
    let a = bind_ok (lower_at (50 + length f.0.0.3) f.0.1) (from_lo f.0.0) (p, after) f.2 in
    let lo = lower_takes (50 + length f.0.0.3) f.0.1 a.0.0 a.0.1 front.0.bytes a.1 in
    let b = bind_ok (upper_at (50 + length f.0.0.3 + lower_len a.0.0) a.0.1) (from_hi f.0.0 a.0.0) (p, after) a.2 in
    let hi = upper_takes (50 + length f.0.0.3 + lower_len a.0.0) a.0.1 b.0.0 b.0.1 lo.0.bytes b.1 in
    let c = bind_ok (size_if (is_bounded a.0.0 b.0.0) b.0.1) (from_notary f.0.0 a.0.0 b.0.0) (p, after) b.2 in
    let size = size_takes (is_bounded a.0.0 b.0.0) b.0.1 c.0.0 c.0.1 hi.0.bytes c.1 in
    let d = bind_ok (path_if (is_some a.0.0) c.0.1) (from_lo_path f.0.0 a.0.0 b.0.0 c.0.0) (p, after) c.2 in
    let lo_path = path_takes (is_some a.0.0) c.0.1 d.0.0 d.0.1 size.0.bytes d.1 in
    let g = bind_ok (path_if (is_some b.0.0) d.0.1) (from_hi_path f.0.0 a.0.0 b.0.0 c.0.0 d.0.0) (p, after) d.2 in
    let hi_path = path_takes (is_some b.0.0) d.0.1 g.0.0 g.0.1 lo_path.0.bytes g.1 in
    let x5 : List ℕ = text_if (is_some b.0.0) (with_count g.0.0) in
    let x4 : List ℕ = text_if (is_some a.0.0) (with_count d.0.0) ++ x5 in
    let x3 : List ℕ = text_if (is_bounded a.0.0 b.0.0) (to_be_bytes w64 c.0.0) ++ x4 in
    let x2 : List ℕ = upper_text b.0.0 ++ x3 in
    let x1 : List ℕ = lower_text a.0.0 ++ x2 in
    let t4 = Took-then c.0.1 (text_if (is_some a.0.0) (with_count d.0.0)) d.0.1 x5 g.0.1 lo_path.0 hi_path.0 in
    let t3 = Took-then b.0.1 (text_if (is_bounded a.0.0 b.0.0) (to_be_bytes w64 c.0.0)) c.0.1 x4 g.0.1 size.0 t4 in
    let t2 = Took-then a.0.1 (upper_text b.0.0) b.0.1 x3 g.0.1 hi.0 t3 in
    let t1 = Took-then f.0.1 (lower_text a.0.0) a.0.1 x2 g.0.1 lo.0 t2 in
    let t0 = Took-then l (front_bytes f.0.0) f.0.1 x1 g.0.1 front.0 t1 in
    let value : Shown = shown f.0.0 a.0.0 b.0.0 c.0.0 d.0.0 g.0.0 in
    let fields : HasFields value = record {
      size = front.1.size;
      n = front.1.n;
      leaf = front.1.leaf;
      path = front.1.path;
      lower = lo.1;
      upper = hi.1;
      notary_size = size.1;
      lo_path = lo_path.1;
      hi_path = hi_path.1;
    } in
    answered spelling HasFields l value p g.0.1 after g.2 t0 fields

pub front_fits : (p : Shown) → HasFields p → IsFront (front_of p)
front_fits p fits = record { size = fits.size; n = fits.n; leaf = fits.leaf; path = fits.path }

pub proof_text : (p : Shown) (whole : ℕ) → HasFields p → IsTextOf proof_at whole (spelling p) p
unfolding proof_at spelling front_text notary_text
proof_text p whole fits =
    let f : Front = front_of p in
    let x5 : List ℕ = text_if (is_some p.hi) (with_count p.hi_path) in
    let x4 : List ℕ = text_if (is_some p.lo) (with_count p.lo_path) ++ x5 in
    let x3 : List ℕ = text_if (is_bounded p.lo p.hi) (to_be_bytes w64 p.notary_size) ++ x4 in
    let x2 : List ℕ = upper_text p.hi ++ x3 in
    let x1 : List ℕ = lower_text p.lo ++ x2 in
    let hi_path = text_last (path_if (is_some p.hi)) (from_hi_path f p.lo p.hi p.notary_size p.lo_path) whole x5 p.hi_path p (path_is (is_some p.hi) whole p.hi_path fits.hi_path) (text_none whole p) in
    let lo_path = text_then (path_if (is_some p.lo)) (from_lo_path f p.lo p.hi p.notary_size) whole (text_if (is_some p.lo) (with_count p.lo_path)) x5 p.lo_path p (path_is (is_some p.lo) whole p.lo_path fits.lo_path) hi_path in
    let size = text_then (size_if (is_bounded p.lo p.hi)) (from_notary f p.lo p.hi) whole (text_if (is_bounded p.lo p.hi) (to_be_bytes w64 p.notary_size)) x4 p.notary_size p (size_is (is_bounded p.lo p.hi) whole p.notary_size fits.notary_size) lo_path in
    let hi = text_then (upper_at (50 + length p.path + lower_len p.lo)) (from_hi f p.lo) whole (upper_text p.hi) x3 p.hi p (upper_is (50 + length p.path + lower_len p.lo) whole p.hi fits.upper) size in
    let lo = text_then (lower_at (50 + length p.path)) (from_lo f) whole (lower_text p.lo) x2 p.lo p (lower_is (50 + length p.path) whole p.lo fits.lower) hi in
    text_then front_at from_front whole (front_bytes f) x1 f p (front_is f whole (front_fits p fits)) lo

-- ---- all of the bytes

guard_then : {A : Type 0} (b : Bool) (d : Bad) (r : Result A Bad) (y : A) → cond b (Err d) r ≡ Ok y → (b ≡ false) × (r ≡ Ok y)
guard_then true d r y e = absurd cc
guard_then false d r y e = (refl, e)

pub proof_of_takes : (bytes : List ℕ) (p : Shown) → IsBytes bytes → proof_of bytes ≡ Ok p → IsProof p × (bytes ≡ spelling p)
unfolding proof_of
proof_of_takes bytes p fits e =
    let start : Unread = left_from (length bytes) bytes in
    let a = guard_then (ltb 8192 (length bytes)) TooLong (proof_at start >>= λ read. end_at read.0 read.1) p e in
    let b = bind_ok (proof_at start) (λ read. end_at read.0 read.1) p a.1 in
    let c = check_ok (eqb (length b.0.1.rest) 0) (Trailing (b.0.1.whole - length b.0.1.rest)) b.0.0 p b.2 in
    let took = proof_takes start b.0.0 b.0.1 fits b.1 in
    let nothing : b.0.1.rest ≡ [] = nil_from_length b.0.1.rest (eqb-true _ _ c.0) in
    let whole : bytes ≡ spelling b.0.0 = took.0.parts ∙ ap (λ (r : List ℕ). spelling b.0.0 ++ r) nothing ∙ append-nil (spelling b.0.0) in
    let short : length bytes ≤ 8192 = ltb-false _ _ a.0 in
    let room : length (spelling b.0.0) ≤ 8192 = subst (λ (t : List ℕ). length t ≤ 8192) whole short in
    subst (λ (q : Shown). IsProof q × (bytes ≡ spelling q)) c.1 (record { fields = took.1; room = room }, whole)

pub proof_of_again : (p : Shown) → IsProof p → proof_of (spelling p) ≡ Ok p
unfolding proof_of
proof_of_again p is_proof =
    let short : ltb 8192 (length (spelling p)) ≡ false = le-ltb _ _ is_proof.room in
    let read : proof_at (left_from (length (spelling p)) (spelling p)) ≡ Ok (p, left_from (length (spelling p)) []) =
    ap (λ (t : List ℕ). proof_at (left_from (length (spelling p)) t)) (sym (append-nil (spelling p))) ∙ (proof_text p (length (spelling p)) is_proof.fields).again [] in
    rw (short, read) refl

pub proof_of_only : (bytes : List ℕ) (p : Shown) → IsProof p → bytes ≡ spelling p → proof_of bytes ≡ Ok p
proof_of_only bytes p is_proof e = ap proof_of e ∙ proof_of_again p is_proof

pub proof_of_found : (bytes : List ℕ) (read : Result Shown Bad) → IsBytes bytes → read ≡ proof_of bytes → IfOk read (λ p. IsProof p × (bytes ≡ spelling p))
proof_of_found bytes (Ok p) fits e = proof_of_takes bytes p fits (sym e)
proof_of_found bytes (Err d) fits e = tt

pub written_again : (p : Shown) (made : Result (List ℕ) NoMemory) → IsProof p → IfOk made (λ bytes. bytes ≡ spelling p) → IfOk made (λ bytes. proof_of bytes ≡ Ok p)
written_again p (Ok bytes) is_proof text = proof_of_only bytes p is_proof text
written_again p (Err e) is_proof text = tt

-- Records of a member among headers.
use Rattle.std.specs.Prelude.{false, ◌||◌, suc, nat_le, cond, slice_get}
use Rattle.std.proofs.Common.{◌≡◌, ℕ, ◌+◌, ◌-◌, ◌<◌, ◌≤◌, List, Option, None, refl, ap, ◌∙◌, arith}
use Rattle.std.proofs.lemmas.Bool.{le-leb}
use Rattle.journal_record.specs.declared.header.Header.{Header}
use Rattle.ledger_soak.specs.Lines.{is_record_by, has_record_by}

step_is : (member : ℕ) (hs : List Header) (n more : ℕ) → has_record_by member hs n (suc more) ≡ (is_record_by member (slice_get hs n) || has_record_by member hs (n + 1) more)
unfolding has_record_by
step_is member hs n more = refl

pub record_next : (member : ℕ) (hs : List Header) (n p : ℕ) → n < p → has_record_by member hs n (p - n) ≡ (is_record_by member (slice_get hs n) || has_record_by member hs (n + 1) (p - (n + 1)))
record_next member hs n p less =
    let e : p - n ≡ suc (p - (n + 1)) = omega arith in
    ap (has_record_by member hs n) e ∙ step_is member hs n (p - (n + 1))

pub record_none : (member : ℕ) (hs : List Header) (n p : ℕ) → p ≤ n → has_record_by member hs n (p - n) ≡ false
unfolding has_record_by
record_none member hs n p le = let e : p - n ≡ 0 = omega arith in ap (has_record_by member hs n) e

pub header_at : (floor n : ℕ) (found there : Option Header) → floor ≤ n → found ≡ cond (nat_le floor n) there None → found ≡ there
header_at floor n found there le is = is ∙ ap (λ b. cond b there None) (le-leb floor n le)

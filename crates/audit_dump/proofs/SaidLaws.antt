-- What stands in a who is read from it, and what is read of it stands there.
use Rattle.std.proofs.Common.{◌≡◌, ℕ, ◌^◌, ◌<◌, ◌≤◌, ltb, true, false, List, [], ◌∷◌, ◌++◌, length, map, All, Option, None, Result, Ok, Err, refl, sym, ap, ap₂, ◌∙◌, subst, arith, append_assoc, append-nil, length-append}
use Rattle.std.specs.Int.{Width, w16, w32, byte_len, to_be_bytes, from_be_bytes}
use Rattle.std.specs.Result.{is_err}
use Rattle.std.proofs.lemmas.Bool.{le-ltb, true≢false}
use Rattle.std.proofs.lemmas.List.{take_at, drop_at, flat_map_more}
use Rattle.std.proofs.lemmas.List.Folds.{flat_map-map}
use Rattle.std.proofs.lemmas.List.Elements.{All-head, All-tail, All-map, All-weaker}
use Rattle.ledger_bytes.specs.declared.digest.Digest.{Digest}
use Rattle.ledger_bytes.specs.declared.failure.Bad.{Bad}
use Rattle.ledger_bytes.specs.Fields.{Unread, left_from, ◌>>=◌, bytes_at, number_at, end_at, IsBytes, Took, ReadsBack}
use Rattle.ledger_bytes.proofs.Fields.{bind_ok, ok_is, Took-then, IsWide, wide16, wide32, number_back, number_again, bytes_takes, bytes_again}
use Rattle.journal_record.specs.Approval.{approval_bytes, who_of}
use Rattle.journal_record.specs.declared.approval.Approval.{Approval}
use Rattle.journal_record.proofs.ReadingSteps.{plain_takes, answered, whole_takes}
use Rattle.ledger_model.specs.Appends.{approval_of}
use Rattle.ledger_model.specs.Scheme.{Scheme}
use Rattle.audit_dump.specs.Approvals.{HasShortProof, IsApprovalOf}
use Rattle.audit_dump.specs.Said.{IsSaid, AreSaid, AreShown, said_by, said_at, said_of}

-- ---- one approval

abbrev with_proof : ℕ → List ℕ × Unread → Result (Approval × Unread) Bad
with_proof member proof = Ok (said_by member proof.0, proof.1)

abbrev with_len : ℕ → ℕ × Unread → Result (Approval × Unread) Bad
with_len member len = bytes_at len.0 len.1 >>= with_proof member

abbrev with_member : ℕ × Unread → Result (Approval × Unread) Bad
with_member member = number_at w16 member.1 >>= with_len member.0

pub said_takes : (l : Unread) (by : Approval) (after : Unread) → IsBytes l.rest → said_at l ≡ Ok (by, after) → Took l (approval_bytes by) after × IsSaid by
unfolding said_at
said_takes l by after plain e =
    let m = plain_takes (number_at w32) (to_be_bytes w32) (λ n. n < 2 ^ 32) (number_back w32 (2 ^ 32) wide32) with_member l (by, after) plain e in
    let n = plain_takes (number_at w16) (to_be_bytes w16) (λ n. n < 2 ^ 16) (number_back w16 (2 ^ 16) wide16) (with_len m.0.0) m.0.1 (by, after) m.1.bytes m.3 in
    let p = bind_ok (bytes_at n.0.0 n.0.1) (with_proof m.0.0) (by, after) n.3 in
    let t = bytes_takes n.0.0 n.0.1 p.0.0 p.0.1 n.1.bytes p.1 in
    let numbers = Took-then l (to_be_bytes w32 m.0.0) m.0.1 (to_be_bytes w16 n.0.0) n.0.1 m.1 n.1 in
    let all = Took-then l (to_be_bytes w32 m.0.0 ++ to_be_bytes w16 n.0.0) n.0.1 p.0.0 p.0.1 numbers t.0 in
    let took = subst (λ (k : ℕ). Took l (to_be_bytes w32 m.0.0 ++ to_be_bytes w16 k ++ p.0.0) p.0.1) (sym t.1) all in
    answered approval_bytes IsSaid l (said_by m.0.0 p.0.0) by p.0.1 after p.2 took (record { member = m.2; short = subst (λ (k : ℕ). k < 2 ^ 16) (sym t.1) n.2; no_key = refl {a = None} })

-- the number that the bytes of a number are
number_there : (w : Width) (limit : ℕ) → IsWide w limit → (n whole : ℕ) (rest : List ℕ)
    → number_at w (left_from whole (to_be_bytes w n ++ rest)) ≡ Ok (from_be_bytes w (to_be_bytes w n), left_from whole rest)
number_there w limit wide n whole rest =
    let len = wide.len n in
    let long : ltb (length (to_be_bytes w n ++ rest)) (byte_len w) ≡ false = le-ltb _ _ (omega (arith, length-append (to_be_bytes w n) rest)) in
    rw (long, take_at (to_be_bytes w n) rest (byte_len w) len, drop_at (to_be_bytes w n) rest (byte_len w) len) refl

-- an approval as it is read from its bytes, whatever its member's number
abbrev pub normal : Approval → Approval
normal by = said_by (from_be_bytes w32 (to_be_bytes w32 by.member)) by.proof

said_there : (by : Approval) (whole : ℕ) (rest : List ℕ) → HasShortProof by → said_at (left_from whole (approval_bytes by ++ rest)) ≡ Ok (normal by, left_from whole rest)
unfolding said_at
said_there by whole rest short =
    let behind : List ℕ = to_be_bytes w16 (length by.proof) ++ (by.proof ++ rest) in
    ap (λ r. r >>= with_member) (number_there w32 (2 ^ 32) wide32 by.member whole behind)
    ∙ (ap (λ r. r >>= with_len (from_be_bytes w32 (to_be_bytes w32 by.member))) (number_again w16 (2 ^ 16) wide16 (length by.proof) whole (by.proof ++ rest) short)
    ∙ ap (λ r. r >>= with_proof (from_be_bytes w32 (to_be_bytes w32 by.member))) (bytes_again (length by.proof) by.proof whole rest refl))

said_again : (by : Approval) (whole : ℕ) (rest : List ℕ) → by.member < 2 ^ 32 → HasShortProof by → said_at (left_from whole (approval_bytes by ++ rest)) ≡ Ok (said_by by.member by.proof, left_from whole rest)
said_again by whole rest lt short = said_there by whole rest short ∙ ap (λ (n : ℕ). Ok (said_by n by.proof, left_from whole rest)) (wide32.again by.member lt)

said_back : ReadsBack said_at approval_bytes IsSaid
said_back = record {
  again = λ by whole rest fits.
      said_again by whole rest fits.member fits.short
      ∙ ap (λ k. Ok (record { member = by.member; key = k; proof = by.proof }, left_from whole rest)) (sym fits.no_key);
  takes = said_takes;
}

-- ---- a who of one approval

pub only_is : (who : List ℕ) (by : Approval) → IsBytes who → said_of who ≡ Ok by → (who ≡ who_of (by ∷ [])) × IsSaid by
unfolding said_of
only_is who by plain e =
    let is = whole_takes said_at approval_bytes IsSaid said_back who by plain e in
    (is.1 ∙ sym (append-nil (approval_bytes by)), is.0)

pub only_told : (who : List ℕ) (by : Approval) → by.member < 2 ^ 32 → HasShortProof by → who ≡ who_of (by ∷ []) → said_of who ≡ Ok (said_by by.member by.proof)
unfolding said_of
only_told who by lt short e =
    ap (λ (t : List ℕ). said_at (left_from (length who) t) >>= λ r. end_at r.0 r.1) e
    ∙ ap (λ r. r >>= λ r. end_at r.0 r.1) (said_again by (length who) [] lt short)

-- ---- a who of several

-- two approvals in front of others
same_first : (x y : Approval) (r s : List ℕ) → HasShortProof x → HasShortProof y → approval_bytes x ++ r ≡ approval_bytes y ++ s → (normal x ≡ normal y) × (r ≡ s)
same_first x y r s short also e =
    let p = ok_is (normal x, left_from 0 r) (normal y, left_from 0 s) (sym (said_there x 0 r short) ∙ (ap (λ (t : List ℕ). said_at (left_from 0 t)) e ∙ said_there y 0 s also)) in
    (ap (λ v. v.0) p, ap (λ v. v.1.rest) p)

-- an approval has bytes
some_bytes : (x : Approval) (r : List ℕ) → approval_bytes x ++ r ≡ [] → ⊥
some_bytes x r e = let len : 6 ≤ length (approval_bytes x ++ r) = omega arith in omega (arith, len, ap length e)

-- what stands behind approvals is approvals where all is
pub all_behind : (given other : List Approval) (rest : List ℕ) → All HasShortProof given → All HasShortProof other → who_of given ++ rest ≡ who_of other
    → (more : List Approval) × All HasShortProof more × (rest ≡ who_of more)
all_behind [] other rest short also e = (other, also, e)
all_behind (x ∷ given) [] rest short also e = absurd (some_bytes x (who_of given ++ rest) (sym (append_assoc (approval_bytes x) (who_of given) rest) ∙ e))
all_behind (x ∷ given) (y ∷ other) rest short also e =
    let s = same_first x y (who_of given ++ rest) (who_of other) (All-head HasShortProof x given short) (All-head HasShortProof y other also) (sym (append_assoc (approval_bytes x) (who_of given) rest) ∙ e) in
    all_behind given other rest (All-tail HasShortProof x given short) (All-tail HasShortProof y other also) s.1

-- where no approval is read and something is left it isn't approvals
pub no_approvals : (l : Unread) (bad : Bad) (more : List Approval) → said_at l ≡ Err bad → (l.rest ≡ [] → ⊥) → All HasShortProof more → l.rest ≡ who_of more → ⊥
no_approvals l bad [] e some short is = some is
no_approvals l bad (x ∷ more) e some short is =
    let never = sym e ∙ (ap (λ (t : List ℕ). said_at (left_from l.whole t)) is ∙ said_there x l.whole (who_of more) (All-head HasShortProof x more short)) in
    cc

pub same_normal : (given other : List Approval) → All HasShortProof given → All HasShortProof other → who_of given ≡ who_of other → map normal given ≡ map normal other
same_normal [] [] short also e = refl
same_normal [] (y ∷ other) short also e = absurd (some_bytes y (who_of other) (sym e))
same_normal (x ∷ given) [] short also e = absurd (some_bytes x (who_of given) e)
same_normal (x ∷ given) (y ∷ other) short also e =
    let s = same_first x y (who_of given) (who_of other) (All-head HasShortProof x given short) (All-head HasShortProof y other also) e in
    ap₂ (λ (a : Approval) (rest : List Approval). a ∷ rest) s.0 (same_normal given other (All-tail HasShortProof x given short) (All-tail HasShortProof y other also) s.1)

-- one approval more
pub one_more : (who : List ℕ) (given : List Approval) (by : Approval) (before after : Unread) → who ≡ who_of given ++ before.rest → Took before (approval_bytes by) after → who ≡ who_of (given ++ by ∷ []) ++ after.rest
one_more who given by before after e took =
    e ∙ (ap (λ (t : List ℕ). who_of given ++ t) took.parts
    ∙ (sym (append_assoc (who_of given) (approval_bytes by) after.rest) ∙ ap (λ (t : List ℕ). t ++ after.rest) (flat_map_more approval_bytes [] given by)))

pub shorter : (by : Approval) (before after : Unread) → Took before (approval_bytes by) after → length after.rest < length before.rest
shorter by before after took =
    let some : 6 ≤ length (approval_bytes by) = omega arith in
    omega (arith, some, ap length took.parts, length-append (approval_bytes by) after.rest)

-- a reader's answer at its end
abbrev pub ends : Unread → Result (Unit {0}) Bad
ends l = end_at tt l

pub something_left : (l : Unread) (r : Result (Unit {0}) Bad) → r ≡ ends l → is_err r ≡ true → l.rest ≡ [] → ⊥
something_left l r e err none = true≢false (sym err ∙ (ap is_err e ∙ ap (λ (t : List ℕ). is_err (ends (left_from l.whole t))) none))

-- there are no more approvals than bytes
count_below : (given : List Approval) → length given ≤ length (who_of given)
count_below [] = omega arith
count_below (x ∷ given) =
    let some : 6 ≤ length (approval_bytes x) = omega arith in
    omega (arith, some, count_below given, length-append (approval_bytes x) (who_of given))

pub so_many : (who : List ℕ) (given : List Approval) → who ≡ who_of given → length who < 2 ^ 32 → length given < 2 ^ 32
so_many who given e lt = omega (arith, lt, ap length e, count_below given)

-- ---- the keys of a message

module _ (scheme : Scheme) (message : List ℕ) where
  abbrev pub keyed : Approval → Approval
  keyed by = approval_of scheme by.member message by.proof

  pub shown_are : (who : List ℕ) (said : List Approval) → AreSaid who said → AreShown scheme message who (map keyed said)
  shown_are who said are = record {
    who_is = are.who_is ∙ sym (flat_map-map approval_bytes keyed said);
    shown = All-map (IsApprovalOf scheme message) keyed said (All-weaker IsSaid (λ by. IsApprovalOf scheme message (keyed by)) (λ by is. record { short = is.short; key_is = refl }) said are.said);
    members = All-map (λ by. by.member < 2 ^ 32) keyed said (All-weaker IsSaid (λ by. by.member < 2 ^ 32) (λ by is. is.member) said are.said);
  }

  -- an approval of the message is known by its member and its proof
  again : (given : List Approval) → All (IsApprovalOf scheme message) given → All (λ by. by.member < 2 ^ 32) given → map keyed (map normal given) ≡ given
  again [] shown fits = refl
  again (x ∷ given) shown fits =
      let first : IsApprovalOf scheme message x = All-head (IsApprovalOf scheme message) x given shown in
      let one : keyed (normal x) ≡ x = ap₂ (λ (n : ℕ) (k : Option Digest). record { member = n; key = k; proof = x.proof }) (wide32.again x.member (All-head (λ by. by.member < 2 ^ 32) x given fits)) (sym first.key_is) in
      ap₂ (λ (a : Approval) (rest : List Approval). a ∷ rest) one (again given (All-tail (IsApprovalOf scheme message) x given shown) (All-tail (λ by. by.member < 2 ^ 32) x given fits))

  all_short : (given : List Approval) → All (IsApprovalOf scheme message) given → All HasShortProof given
  all_short given shown = All-weaker (IsApprovalOf scheme message) HasShortProof (λ by is. is.short) given shown

  pub one_way : (who : List ℕ) (given other : List Approval) → AreShown scheme message who given → AreShown scheme message who other → given ≡ other
  one_way who given other are also =
      sym (again given are.shown are.members)
      ∙ (ap (λ (xs : List Approval). map keyed xs) (same_normal given other (all_short given are.shown) (all_short other also.shown) (sym are.who_is ∙ also.who_is))
      ∙ again other also.shown also.members)

  pub shown_found : (who : List ℕ) (said given : List Approval) → AreSaid who said → given ≡ map keyed said → AreShown scheme message who given
  shown_found who said given are e = subst (AreShown scheme message who) (sym e) (shown_are who said are)

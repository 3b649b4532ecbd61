-- Two claims that are told the same are one.
use Rattle.std.proofs.Common.{◌≡◌, ℕ, true, eqb, ◌&&◌, Option, Some, None, refl, ap, ◌∙◌, eq-eqb}
use Rattle.std.specs.Str.{bytes_eq}
use Rattle.std.proofs.lemmas.Bool.{and_from, and_parts, eqb-true}
use Rattle.ledger_bytes.specs.declared.digest.Digest.{Digest}
use Rattle.ledger_bytes.specs.declared.mark.TimeMark.{TimeMark}
use Rattle.proof_codec.specs.declared.claim.Claim.{Claim}
use Rattle.audit_core.specs.Acceptance.{same_bound, same_claim}
use Rattle.audit_core.proofs.RootLaws.{same_digest, same_bytes}

same_bound_means : (a b : Option TimeMark) → same_bound a b ≡ true → a ≡ b
same_bound_means None None e = refl
same_bound_means (Some a) None e = absurd cc
same_bound_means None (Some b) e = absurd cc
same_bound_means (Some a) (Some b) e =
    let front = and_parts (eqb a.jsn b.jsn && eqb a.index b.index) (eqb a.time b.time) e in
    let first = and_parts (eqb a.jsn b.jsn) (eqb a.index b.index) front.0 in
    let made : ℕ → ℕ → ℕ → Option TimeMark = λ jsn index time. Some (record { jsn = jsn; index = index; time = time }) in
    let jsn : a.jsn ≡ b.jsn = eqb-true _ _ first.0 in
    let index : a.index ≡ b.index = eqb-true _ _ first.1 in
    let time : a.time ≡ b.time = eqb-true _ _ front.1 in
    ap (λ n. made n a.index a.time) jsn ∙ (ap (λ n. made b.jsn n a.time) index ∙ ap (λ n. made b.jsn b.index n) time)

same_bound_of : (a : Option TimeMark) → same_bound a a ≡ true
same_bound_of None = refl
same_bound_of (Some a) =
    and_from (eqb a.jsn a.jsn && eqb a.index a.index) (eqb a.time a.time)
    (and_from (eqb a.jsn a.jsn) (eqb a.index a.index) (eq-eqb _ _ refl) (eq-eqb _ _ refl)) (eq-eqb _ _ refl)

pub same_claim_means : (a b : Claim) → same_claim a b ≡ true → a ≡ b
same_claim_means a b e =
    let to_lo = and_parts (eqb a.n b.n && bytes_eq a.leaf.0 b.leaf.0 && same_bound a.lo b.lo) (same_bound a.hi b.hi) e in
    let to_leaf = and_parts (eqb a.n b.n && bytes_eq a.leaf.0 b.leaf.0) (same_bound a.lo b.lo) to_lo.0 in
    let to_n = and_parts (eqb a.n b.n) (bytes_eq a.leaf.0 b.leaf.0) to_leaf.0 in
    let made : ℕ → Digest → Option TimeMark → Option TimeMark → Claim = λ n leaf lo hi. record { n = n; leaf = leaf; lo = lo; hi = hi } in
    let n : a.n ≡ b.n = eqb-true _ _ to_n.0 in
    let leaf : a.leaf ≡ b.leaf = same_digest a.leaf b.leaf to_n.1 in
    let lo : a.lo ≡ b.lo = same_bound_means a.lo b.lo to_leaf.1 in
    let hi : a.hi ≡ b.hi = same_bound_means a.hi b.hi to_lo.1 in
    ap (λ x. made x a.leaf a.lo a.hi) n ∙ (ap (λ x. made b.n x a.lo a.hi) leaf ∙ (ap (λ x. made b.n b.leaf x a.hi) lo ∙ ap (λ x. made b.n b.leaf b.lo x) hi))

pub same_claim_of : (a : Claim) → same_claim a a ≡ true
same_claim_of a =
    let to_leaf = and_from (eqb a.n a.n) (bytes_eq a.leaf.0 a.leaf.0) (eq-eqb _ _ refl) (same_bytes a.leaf.0) in
    let to_lo = and_from (eqb a.n a.n && bytes_eq a.leaf.0 a.leaf.0) (same_bound a.lo a.lo) to_leaf (same_bound_of a.lo) in
    and_from (eqb a.n a.n && bytes_eq a.leaf.0 a.leaf.0 && same_bound a.lo a.lo) (same_bound a.hi a.hi) to_lo (same_bound_of a.hi)

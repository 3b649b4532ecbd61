-- What is accepted is a proof of the claim under a trusted root, and each such proof is accepted.
use Rattle.std.proofs.Common.{◌≡◌, ℕ, Bool, true, false, cond, List, [], ◌∷◌, Option, Some, None, Result, Ok, Err, refl, sym, ap, ◌∙◌}
use Rattle.std.specs.Prelude.{IsOk}
use Rattle.ledger_bytes.specs.declared.digest.Digest.{Digest}
use Rattle.ledger_bytes.specs.declared.failure.Bad.{Bad}
use Rattle.ledger_bytes.specs.Fields.{IsBytes}
use Rattle.proof_codec.specs.declared.claim.Claim.{Claim}
use Rattle.proof_codec.specs.Proofs.{Shown}
use Rattle.proof_codec.specs.Claims.{claim_of}
use Rattle.proof_codec.specs.Reading.{proof_of}
use Rattle.proof_codec.proofs.Wholes.{proof_of_takes, proof_of_only}
use Rattle.tree_model.specs.Tree.{Hash}
use Rattle.tree_model.specs.Path.{fold_bytes}
use Rattle.audit_core.specs.declared.refusal.No.{No}
use Rattle.audit_core.specs.declared.refusal.No.TheVariants.{HeadUnknown, ClaimDiffers, LeafPath, LowerBound, UpperBound, NotaryPath, TimesCross}
use Rattle.audit_core.specs.declared.known.KnownLedger.{KnownLedger}
use Rattle.audit_core.specs.Leading.{path_leads}
use Rattle.audit_core.specs.Bounds.{lower_leads, upper_leads, lower_noted, upper_noted, in_order}
use Rattle.audit_core.specs.Acceptance.{same_claim, rows, first_failing, is_unnoted, acceptance_under, acceptance_of, acceptance_by, IsAcceptedBy}
use Rattle.audit_core.proofs.RootLaws.{is_root_means, is_root_of}
use Rattle.audit_core.proofs.ClaimLaws.{same_claim_means, same_claim_of}
use Rattle.audit_core.proofs.BoundLaws.{lower_means, lower_leads_of, lower_noted_of, upper_means, upper_leads_of, upper_noted_of, noted_for, order_means, order_of}

-- ---- rows

passed : (holds : Bool) (why : No) (rest : List (Bool × No)) → first_failing ((holds, why) ∷ rest) ≡ Ok tt → (holds ≡ true) × (first_failing rest ≡ Ok tt)
passed true why rest e = (refl, e)
passed false why rest e = absurd cc

-- what passes the rows of a proof
pub record Passes (hash : Hash) (claim : Claim) (p : Shown) (ledger : KnownLedger) (notary : Option Digest) : Type 0 where
  pub claimed : same_claim (claim_of p) claim ≡ true
  pub leads : path_leads hash ledger.root p.leaf.0 p.n p.size p.path ≡ true
  pub lower : lower_leads hash ledger p p.lo ≡ true
  pub upper : upper_leads hash ledger p p.hi ≡ true
  pub lower_note : lower_noted hash ledger notary p p.lo ≡ true
  pub upper_note : upper_noted hash ledger notary p p.hi ≡ true
  pub order : in_order p.lo p.hi ≡ true

module _ (hash : Hash) (claim : Claim) (p : Shown) (ledger : KnownLedger) (notary : Option Digest) where
  passes : first_failing (rows hash claim p ledger notary) ≡ Ok tt → Passes hash claim p ledger notary
  passes e =
      let from_order : List (Bool × No) = (in_order p.lo p.hi, TimesCross) ∷ [] in
      let from_upper_note : List (Bool × No) = (upper_noted hash ledger notary p p.hi, NotaryPath) ∷ from_order in
      let from_lower_note : List (Bool × No) = (lower_noted hash ledger notary p p.lo, NotaryPath) ∷ from_upper_note in
      let from_upper : List (Bool × No) = (upper_leads hash ledger p p.hi, UpperBound) ∷ from_lower_note in
      let from_lower : List (Bool × No) = (lower_leads hash ledger p p.lo, LowerBound) ∷ from_upper in
      let from_leads : List (Bool × No) = (path_leads hash ledger.root p.leaf.0 p.n p.size p.path, LeafPath) ∷ from_lower in
      let a = passed (same_claim (claim_of p) claim) ClaimDiffers from_leads e in
      let b = passed (path_leads hash ledger.root p.leaf.0 p.n p.size p.path) LeafPath from_lower a.1 in
      let c = passed (lower_leads hash ledger p p.lo) LowerBound from_upper b.1 in
      let d = passed (upper_leads hash ledger p p.hi) UpperBound from_lower_note c.1 in
      let f = passed (lower_noted hash ledger notary p p.lo) NotaryPath from_upper_note d.1 in
      let g = passed (upper_noted hash ledger notary p p.hi) NotaryPath from_order f.1 in
      let h = passed (in_order p.lo p.hi) TimesCross [] g.1 in
      record { claimed = a.0; leads = b.0; lower = c.0; upper = d.0; lower_note = f.0; upper_note = g.0; order = h.0 }

  passed_by : Passes hash claim p ledger notary → first_failing (rows hash claim p ledger notary) ≡ Ok tt
  passed_by it = rw (it.claimed, it.leads, it.lower, it.upper, it.lower_note, it.upper_note, it.order) refl

-- ---- a proof

-- what a yes to a proof rests on
pub record Rests (hash : Hash) (claim : Claim) (p : Shown) (kept : Option KnownLedger) (notary : Option Digest) : Type 0 where
  pub ledger : KnownLedger
  pub trusted : kept ≡ Some ledger
  pub passing : Passes hash claim p ledger notary

-- it is not refused
not_refused : (test : Bool) (why : No) (r : Result (Unit {0}) No) → cond test (Err why) r ≡ Ok tt → r ≡ Ok tt
not_refused true why r e = absurd cc
not_refused false why r e = e

pub under_found : (hash : Hash) (claim : Claim) (p : Shown) (kept : Option KnownLedger) (notary : Option Digest) → acceptance_under hash claim p kept notary ≡ Ok tt
    → Rests hash claim p kept notary
under_found hash claim p None notary e = absurd cc
under_found hash claim p (Some ledger) notary e =
    let all = not_refused (is_unnoted p notary) (HeadUnknown p.notary_size) (first_failing (rows hash claim p ledger notary)) e in
    record { ledger = ledger; trusted = refl; passing = passes hash claim p ledger notary all }

-- an accepted proof is of the claim, and its leaf leads to the root that is known
pub under_leads : (hash : Hash) (claim : Claim) (p : Shown) (kept : Option KnownLedger) (notary : Option Digest) → acceptance_under hash claim p kept notary ≡ Ok tt
    → (ledger : KnownLedger) × (kept ≡ Some ledger) × (claim_of p ≡ claim) × (fold_bytes hash p.leaf.0 p.n p.size p.path ≡ Some ledger.root.0)
under_leads hash claim p kept notary e =
    let rests : Rests hash claim p kept notary = under_found hash claim p kept notary e in (
      rests.ledger,
      rests.trusted,
      same_claim_means (claim_of p) claim rests.passing.claimed,
      is_root_means rests.ledger.root (fold_bytes hash p.leaf.0 p.n p.size p.path) rests.passing.leads,
    )

under_only : (hash : Hash) (claim : Claim) (p : Shown) (kept : Option KnownLedger) (ledger : KnownLedger) (notary : Option Digest) → kept ≡ Some ledger
    → is_unnoted p notary ≡ false → Passes hash claim p ledger notary → acceptance_under hash claim p kept notary ≡ Ok tt
under_only hash claim p kept ledger notary trusted noted passing =
    ap (λ k. acceptance_under hash claim p k notary) trusted ∙ rw noted (passed_by hash claim p ledger notary passing)

read_found : (hash : Hash) (claim : Claim) (ledgers : ℕ → Option KnownLedger) (notaries : ℕ → Option Digest) (read : Result Shown Bad)
    → acceptance_of hash claim ledgers notaries read ≡ Ok tt → (p : Shown) × (read ≡ Ok p) × (acceptance_under hash claim p (ledgers p.size) (notaries p.notary_size) ≡ Ok tt)
read_found hash claim ledgers notaries (Ok p) e = (p, refl, e)
read_found hash claim ledgers notaries (Err bad) e = absurd cc

-- the one value that stands for yes
pub is_yes : (r : Result (Unit {0}) No) → IsOk r → r ≡ Ok tt
is_yes (Ok x) e = refl
is_yes (Err why) e = absurd cc

module _ (hash : Hash) (bytes : List ℕ) (claim : Claim) (ledgers : ℕ → Option KnownLedger) (notaries : ℕ → Option Digest) where
  accepted_found : IsBytes bytes → acceptance_by hash bytes claim ledgers notaries ≡ Ok tt → IsAcceptedBy hash bytes claim ledgers notaries
  unfolding acceptance_by
  accepted_found fits e =
      let read = read_found hash claim ledgers notaries (proof_of bytes) e in
      let p : Shown = read.0 in
      let text = proof_of_takes bytes p fits read.1 in
      let notary : Option Digest = notaries p.notary_size in
      let rests : Rests hash claim p (ledgers p.size) notary = under_found hash claim p (ledgers p.size) notary read.2 in
      let passing : Passes hash claim p rests.ledger notary = rests.passing in
      record {
        proof = p;
        is_proof = text.0;
        text = text.1;
        claimed = same_claim_means (claim_of p) claim passing.claimed;
        ledger = rests.ledger;
        trusted = rests.trusted;
        leads = is_root_means rests.ledger.root (fold_bytes hash p.leaf.0 p.n p.size p.path) passing.leads;
        lower = lower_means hash rests.ledger notary p p.lo passing.lower passing.lower_note;
        upper = upper_means hash rests.ledger notary p p.hi passing.upper passing.upper_note;
        order = order_means p.lo p.hi passing.order;
      }

  accepted_only : IsAcceptedBy hash bytes claim ledgers notaries → acceptance_by hash bytes claim ledgers notaries ≡ Ok tt
  unfolding acceptance_by
  accepted_only it =
      let p : Shown = it.proof in
      let notary : Option Digest = notaries p.notary_size in
      let passing : Passes hash claim p it.ledger notary = record {
        claimed = ap (same_claim (claim_of p)) (sym it.claimed) ∙ same_claim_of (claim_of p);
        leads = is_root_of it.ledger.root (fold_bytes hash p.leaf.0 p.n p.size p.path) it.leads;
        lower = lower_leads_of hash it.ledger notary p p.lo it.lower;
        upper = upper_leads_of hash it.ledger notary p p.hi it.upper;
        lower_note = lower_noted_of hash it.ledger notary p p.lo it.lower;
        upper_note = upper_noted_of hash it.ledger notary p p.hi it.upper;
        order = order_of p.lo p.hi it.order;
      } in
      ap (acceptance_of hash claim ledgers notaries) (proof_of_only bytes p it.is_proof it.text)
      ∙ under_only hash claim p (ledgers p.size) it.ledger notary it.trusted (noted_for hash it.ledger p notary it.lower it.upper) passing

  pub yes_found : (r : Result (Unit {0}) No) → IsBytes bytes → r ≡ acceptance_by hash bytes claim ledgers notaries → IsOk r → IsAcceptedBy hash bytes claim ledgers notaries
  yes_found r fits e ok = accepted_found fits (sym e ∙ is_yes r ok)

  pub yes_only : (r : Result (Unit {0}) No) → r ≡ acceptance_by hash bytes claim ledgers notaries → IsAcceptedBy hash bytes claim ledgers notaries → IsOk r
  yes_only r e it = rw (e, accepted_only it) refl

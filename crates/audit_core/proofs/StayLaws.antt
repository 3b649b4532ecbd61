-- What was accepted stays accepted where more is trusted.
use Rattle.std.specs.Prelude.{IfSome}
use Rattle.std.proofs.Common.{◌≡◌, ℕ, List, Option, Some, None, refl, sym, ◌∙◌}
use Rattle.ledger_bytes.specs.declared.digest.Digest.{Digest}
use Rattle.proof_codec.specs.declared.claim.Claim.{Claim}
use Rattle.proof_codec.specs.Proofs.{ShownLower, ShownUpper, Shown}
use Rattle.script_lines.specs.declared.said.Which.TheVariants.{Ledger, Notary}
use Rattle.tree_model.specs.Tree.{Hash}
use Rattle.audit_core.specs.Acceptance.{IsAccepted}
use Rattle.audit_core.specs.Bounds.{IsNoted, IsLowerBound, IsUpperBound}
use Rattle.audit_core.specs.Trust.{Trust, root_of, ledger_at, TrustsMore}
use Rattle.audit_core.specs.declared.known.KnownLedger.{KnownLedger}

module _ (trust more : Trust) (stays : TrustsMore trust more) where
  known_by : (id root : Option Digest) (size : ℕ) (ledger : KnownLedger) → trust.id ≡ id → root_of Ledger trust size ≡ root → ledger_at trust size ≡ Some ledger → ledger_at more size ≡ Some ledger
  known_by None root size ledger id_is root_is is = absurd (let no : ⊥ = cc (id_is, is) in no)
  known_by (Some id) None size ledger id_is root_is is = absurd (let no : ⊥ = cc (id_is, root_is, is) in no)
  known_by (Some id) (Some root) size ledger id_is root_is is =
      rw (stays.id id id_is, stays.heads Ledger size root root_is) (sym (rw (id_is, root_is) refl) ∙ is)

  module _ (hash : Hash) (ledger : KnownLedger) (p : Shown) where
    noted_more : (size : ℕ) (l : _) (root salt : Digest) (path : List ℕ) → IsNoted hash ledger (root_of Notary trust size) size l root salt path → IsNoted hash ledger (root_of Notary more size) size l root salt path
    noted_more size l root salt path x = record { kept = x.kept; trusted = stays.heads Notary size x.kept x.trusted; leads = x.leads }

    lower_more : (o : Option ShownLower) → IfSome o (IsLowerBound hash ledger (root_of Notary trust p.notary_size) p) → IfSome o (IsLowerBound hash ledger (root_of Notary more p.notary_size) p)
    lower_more None x = tt
    lower_more (Some l) x = record { before = x.before; stands = x.stands; extends = x.extends; noted = noted_more p.notary_size _ _ _ _ x.noted }

    upper_more : (o : Option ShownUpper) → IfSome o (IsUpperBound hash ledger (root_of Notary trust p.notary_size) p) → IfSome o (IsUpperBound hash ledger (root_of Notary more p.notary_size) p)
    upper_more None x = tt
    upper_more (Some u) x = record { after = x.after; extends = x.extends; noted = noted_more p.notary_size _ _ _ _ x.noted }

  pub stays_accepted : (hash : Hash) (bytes : List ℕ) (claim : Claim) → IsAccepted hash bytes claim trust → IsAccepted hash bytes claim more
  stays_accepted hash bytes claim x = record {
    proof = x.proof;
    is_proof = x.is_proof;
    text = x.text;
    claimed = x.claimed;
    ledger = x.ledger;
    trusted = known_by trust.id (root_of Ledger trust x.proof.size) x.proof.size x.ledger refl refl x.trusted;
    leads = x.leads;
    lower = lower_more hash x.ledger x.proof x.proof.lo x.lower;
    upper = upper_more hash x.ledger x.proof x.proof.hi x.upper;
    order = x.order;
  }

use Rattle.std.proofs.Common.{◌≡◌, sym, ap, ◌∙◌, subst}
use Rattle.std.proofs.lemmas.Bool.{false≢true}
use Rattle.sha2.specs.Sha256.{sha256}
use Rattle.ledger_bytes.specs.declared.digest.Digest.{Digest}
use Rattle.proof_codec.specs.declared.claim.Claim.{Claim}
use Rattle.proof_codec.specs.Proofs.{Shown}
use Rattle.audit_core.specs.Acceptance.{IsAccepted}
use Rattle.proof_board.specs.Bare.{bare_claim}
use Rattle.proof_board.proofs.checking.is_accepted.Goals as goal

pub returns-in_default : goal.returns-in_default
returns-in_default c = (λ no. absurd (false≢true no), λ it. let told = c.decode.ensures.only it.1.proof it.1.is_proof it.1.text in absurd (cc (told, c.in_default.is)))

pub returns : goal.returns
returns c = (
  λ yes. (c.proof.inside.leaf, c.accept.ensures.yes.0 (sym c.is_ok.ensures.value ∙ yes)),
  λ it.
      let told = c.decode.ensures.only it.1.proof it.1.is_proof it.1.text in
      let same : c.in-Ok.proof ≡ it.1.proof = cc (told, c.in-Ok.is) in
      let leaf : c.proof.inside.leaf ≡ it.0 = ap (λ (p : Shown). p.leaf) (c.proof.view_is ∙ same) ∙ ap (λ (x : Claim). x.leaf) it.1.claimed in
      c.is_ok.ensures.value ∙ c.accept.ensures.yes.1 (subst (λ (d : Digest). IsAccepted sha256 c.args.bytes.now (bare_claim c.args.n d) c.args.heads.now) (sym leaf) it.1),
)

use Rattle.std.proofs.Common.{ap, ◌∙◌}
use Rattle.journal_record.specs.Tags.{tag_proof_of}
use Rattle.ledger_bytes.specs.declared.digest.Digest.{Digest}
use Rattle.ledger_soak.proofs.approvals.proof_by.Goals as goal

pub returns : goal.returns
returns c = c.tag_proof.ensures.proof ∙ ap (λ (d : Digest). tag_proof_of d.0 c.args.message.now.0) c.key_of.ensures

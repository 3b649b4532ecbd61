use Rattle.std.proofs.Common.{◌∷◌, take}
use Rattle.sha2.specs.Hashers.{Holds256}
use Rattle.ledger_bytes.specs.Tags.{byte_of}
use Rattle.ledger_bytes.specs.declared.tag.Tag.TheVariants.{Who}
use Rattle.journal_record.specs.Approval.{who_of}
use Rattle.journal_record.proofs.digests.approvals_digest.Given as goal

abbrev pub invariant-loop-approval : goal.invariant-loop-approval
invariant-loop-approval l = Holds256 l.hasher.inner (byte_of Who ∷ who_of (take l.approval-index l.given))

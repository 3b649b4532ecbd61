use Rattle.std.proofs.Common.{◌≡◌, map, take}
use Rattle.journal_record.specs.declared.approval.Approval.{Approval}
use Rattle.ledger_model.specs.Appends.{approval_of}
use Rattle.audit_dump.proofs.given.shown_approvals.Given as goal

abbrev pub invariant-loop-by : goal.invariant-loop-by
invariant-loop-by g l = l.shown.items ≡ map (λ (by : Approval). approval_of (g.V.Verifier.shows l.verifier) by.member l.message.0 by.proof) (take l.by-index l.said)

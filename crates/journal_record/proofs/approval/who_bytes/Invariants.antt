use Rattle.std.proofs.Common.{◌≡◌, take}
use Rattle.journal_record.specs.Approval.{who_of}
use Rattle.journal_record.proofs.approval.who_bytes.Given as goal

abbrev pub invariant-loop-approval : goal.invariant-loop-approval
invariant-loop-approval l = l.out ≡ who_of (take l.approval-index l.given)

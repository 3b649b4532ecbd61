use Rattle.std.proofs.Common.{◌≡◌, map, take}
use Rattle.journal_record.specs.Members.{keys}
use Rattle.audit_dump.specs.Said.{own_approval}
use Rattle.audit_dump.proofs.placing.own_approvals.Given as goal

abbrev pub invariant-loop-by : goal.invariant-loop-by
invariant-loop-by l = l.own.items ≡ map (own_approval (keys l.known)) (take l.by-index l.said)

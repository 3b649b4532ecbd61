use Rattle.std.proofs.Common.{◌≡◌, ◌+◌, take, map}
use Rattle.journal_record.specs.Members.{keys}
use Rattle.ledger_bytes.specs.declared.digest.Digest.{Digest}
use Rattle.audit_dump.proofs.passing.members_with.Given as goal

abbrev pub invariant-loop-key : goal.invariant-loop-key
invariant-loop-key l = keys l.members ≡ map (λ (key : Digest). key.0) (take (2 + l.key-index) l.fn.known)

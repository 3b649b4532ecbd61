use Rattle.std.proofs.Common.{◌≡◌, ◌++◌, length, All}
use Rattle.ledger_bytes.specs.Fields.{IsBytes}
use Rattle.journal_record.specs.Approval.{who_of}
use Rattle.audit_dump.specs.Said.{IsSaid}
use Rattle.audit_dump.proofs.given.read_said.Given as goal

abbrev pub invariant-loop-reader : goal.invariant-loop-reader
invariant-loop-reader l = record { parts : l.who ≡ who_of l.given.items ++ l.reader.rest; said : All IsSaid l.given.items; plain : IsBytes l.reader.rest }

abbrev pub decreases-loop-reader : goal.decreases-loop-reader
decreases-loop-reader l = length l.reader.rest

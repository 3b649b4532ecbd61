use Rattle.std.proofs.Common.{◌≡◌, ◌≤◌, ◌*◌, length, take}
use Rattle.journal_record.specs.Approval.{who_of}
use Rattle.block_file.proofs.writer.who_len.Given as goal

abbrev pub invariant-loop-by : goal.invariant-loop-by
invariant-loop-by l = (l.len ≡ length (who_of (take l.by-index l.given))) × (l.len ≤ l.by-index * 4102)

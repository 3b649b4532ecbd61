use Rattle.std.proofs.Common.{◌≡◌, ◌++◌, length, take}
use Rattle.journal_record.specs.Approval.{who_of}
use Rattle.block_file.proofs.writer.BlockWriter.put_approvals.Given as goal

abbrev pub invariant-loop-by : goal.invariant-loop-by
invariant-loop-by l = (length l.self.head ≡ 44) × (l.self.body ≡ l.fn.self.body ++ who_of (take l.by-index l.given)) × (l.self.before ≡ l.fn.self.before)

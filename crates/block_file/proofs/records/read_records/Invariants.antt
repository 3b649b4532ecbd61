use Rattle.block_file.proofs.RecordLaws.{Taken}
use Rattle.block_file.proofs.records.read_records.Given as goal

abbrev pub invariant-loop-left : goal.invariant-loop-left
invariant-loop-left l = Taken l.fn.count l.left l.fn.body l.rest l.fn.at l.place l.records.items

abbrev pub decreases-loop-left : goal.decreases-loop-left
decreases-loop-left l = l.left

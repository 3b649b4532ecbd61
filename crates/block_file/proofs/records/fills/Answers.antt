use Rattle.std.proofs.Common.{sym, ◌∙◌, ap, ◌-◌}
use Rattle.block_file.proofs.RecordLaws.{fills_more}
use Rattle.block_file.proofs.records.fills.Goals as goal

pub loop-left-preserved : goal.loop-left-preserved
loop-left-preserved c = ap (λ l. Rattle.journal_record.specs.Records.fills (c.loop-left.left - 1) l) c.behind-rest.ensures ∙ sym (fills_more c.loop-left.left c.loop-left.rest.now c.loop-left-test.true (sym c.breaks.ensures ∙ c.if-breaks.false)) ∙ c.loop-left.invariant

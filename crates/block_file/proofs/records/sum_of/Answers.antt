use Rattle.std.proofs.Common.{sym, ◌∙◌, ap, arith, ◌+◌, ◌-◌, ℕ}
use Rattle.block_file.proofs.RecordLaws.{sum_broken, sum_more}
use Rattle.block_file.proofs.records.sum_of.Goals as goal

pub returns-then-breaks : goal.returns-then-breaks
returns-then-breaks c = ap (λ (n : ℕ). c.loop-left.sum + n) (c.record_len-sum.ensures.len ∙ sym (sum_broken c.loop-left.left c.loop-left.rest.now c.loop-left-test.true (sym c.breaks.ensures ∙ c.if-breaks.true))) ∙ c.loop-left.invariant.sum

pub loop-left-preserved : goal.loop-left-preserved
loop-left-preserved c = record {
  sum = omega (arith, c.record_len-sum.ensures.len, ap (λ l. Rattle.journal_record.specs.Records.sum_of (c.loop-left.left - 1) l) c.behind-rest.ensures, sum_more c.loop-left.left c.loop-left.rest.now c.loop-left-test.true (sym c.breaks.ensures ∙ c.if-breaks.false), c.loop-left.invariant.sum);
  most = omega (arith, c.loop-left.invariant.most, c.loop-left.invariant.left, c.loop-left-test.true, c.record_len-sum.ensures.most);
  left = omega (arith, c.loop-left.invariant.left);
}

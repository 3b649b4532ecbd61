use Rattle.std.proofs.Common.{◌∙◌, length, ap, arith}
use Rattle.tree_model.specs.Tree.{cut}
use Rattle.survivor_set.proofs.Rows.{row_none, row_more, row_all}
use Rattle.survivor_set.proofs.paths.row_of.Goals as goal

pub loop-digest-init : goal.loop-digest-init
loop-digest-init c = row_none c.args.digests.now c.new-row.result.items c.new-row.ensures.items

pub loop-digest-preserved : goal.loop-digest-preserved
loop-digest-preserved c =
    row_more c.args.digests.now c.loop-digest.digest-index _ c.loop-digest.row.items c.add.new.bytes.items c.loop-digest-test.true c.loop-digest.invariant c.add.ensures.width c.in_ok-add.ensures.bytes

pub returns-clause-cuts : goal.returns-clause-cuts
returns-clause-cuts c = ap (cut 32) c.of.ensures ∙ (row_all c.args.digests.now c.loop-digest.digest-index c.loop-digest.row.items c.loop-digest-test.false (omega arith) c.loop-digest.invariant).0

pub returns-clause-len : goal.returns-clause-len
returns-clause-len c = ap length c.of.ensures ∙ (row_all c.args.digests.now c.loop-digest.digest-index c.loop-digest.row.items c.loop-digest-test.false (omega arith) c.loop-digest.invariant).1

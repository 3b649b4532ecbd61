use Rattle.std.proofs.Common.{◌∙◌, subst, sym}
use Rattle.proof_maker.specs.Parts.{AreDigests}
use Rattle.proof_maker.proofs.RowLaws.{joined_none, joined_more, joined_all, joined_short}
use Rattle.proof_maker.proofs.rows.row_of.Goals as goal

pub loop-digest-init : goal.loop-digest-init
loop-digest-init c = joined_none c.args.digests.now c.new-row.result.items c.new-row.ensures.items

pub loop-digest-preserved : goal.loop-digest-preserved
loop-digest-preserved c =
    joined_more c.args.digests.now c.loop-digest.digest-index _ c.loop-digest.row.items c.add.new.bytes.items c.loop-digest-test.true c.loop-digest.invariant c.in_ok-add.ensures.bytes c.add.ensures.width

pub returns-clause-bytes : goal.returns-clause-bytes
returns-clause-bytes c = c.of.ensures ∙ (joined_all c.args.digests.now c.loop-digest.digest-index c.loop-digest.row.items c.loop-digest-test.false c.loop-digest.invariant).bytes_are

pub returns-clause-short : goal.returns-clause-short
returns-clause-short c = λ k few.
    subst (AreDigests k) (sym c.of.ensures) (joined_short c.args.digests.now c.loop-digest.row.items k (joined_all c.args.digests.now c.loop-digest.digest-index c.loop-digest.row.items c.loop-digest-test.false c.loop-digest.invariant) few)

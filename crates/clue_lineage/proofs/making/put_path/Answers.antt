use Rattle.clue_lineage.proofs.Made.{path_more}
use Rattle.clue_lineage.proofs.making.put_path.Goals as goal

pub loop-digest-preserved : goal.loop-digest-preserved
loop-digest-preserved c =
    path_more c.args.digests.now c.loop-digest.digest-index _ c.args.writer.now c.loop-digest.writer c.put_slice.new.self c.loop-digest-test.true c.loop-digest.invariant c.in_ok-put_slice.ensures.ok

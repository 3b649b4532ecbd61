use Rattle.tree_model.specs.Tree.{cut}
use Rattle.clue_lineage.proofs.Judged.{judged, unread}
use Rattle.clue_lineage.proofs.judgement.judge_lineage.Goals as goal

pub returns-in-Ok : goal.returns-in-Ok
returns-in-Ok g c =
    judged g.H.TreeHash.of (cut 174 c.args.headers.now) c.args.proof.now c.args.clue.now c.in-Ok.lineage c.judge_read.result c.in-Ok.ensures c.judge_read.ensures

pub returns-in-Err : goal.returns-in-Err
returns-in-Err g c =
    unread g.H.TreeHash.of (cut 174 c.args.headers.now) c.args.proof.now c.args.clue.now c.in-Err.bad c.break_of.result c.in-Err.ensures c.break_of.ensures

use Rattle.survivor_set.proofs.Checked.{handed_err, refused_here, passed_here}
use Rattle.survivor_set.proofs.checking.check_survivors.Goals as goal

pub returns-in_err-check_survivor : goal.returns-in_err-check_survivor
returns-in_err-check_survivor c =
    let s = c.args.set.now in
    let e = c.in_err-check_survivor.field-0.0 in
    handed_err c.from_residual.result e _ c.from_residual.ensures
    (refused_here s s.survivors c.loop-i.i c.survivor.result c.survivor.ensures.is c.loop-i.invariant e c.in_err-check_survivor.ensures)

pub loop-i-preserved : goal.loop-i-preserved
loop-i-preserved c =
    let s = c.args.set.now in
    passed_here s s.survivors c.loop-i.i c.survivor.result c.survivor.ensures.is c.loop-i.invariant c.in_ok-check_survivor.ensures

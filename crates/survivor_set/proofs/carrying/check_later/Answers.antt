use Rattle.std.proofs.Common.{◌∙◌, arith}
use Rattle.survivor_set.proofs.Checked.{size_of}
use Rattle.survivor_set.proofs.Growth.{later_absent, later_below, later_time}
use Rattle.survivor_set.proofs.carrying.check_later.Goals as goal

pub returns-then-point-size-clause-judged : goal.returns-then-point-size-clause-judged
returns-then-point-size-clause-judged c = λ h s.
    let all = size_of h c.tree.result.now (c.tree.ensures.stands h s.stands) in
    later_absent h c.args.set.now c.args.point c.size-size.result (c.size-size.ensures ∙ all) (omega (arith, c.if-point-size.true, c.size-size.ensures, all))

pub returns-then-point-clause-judged : goal.returns-then-point-clause-judged
returns-then-point-clause-judged c = λ h s.
    let all = size_of h c.tree.result.now (c.tree.ensures.stands h s.stands) in
    later_below h c.args.set.now c.args.point (omega (arith, c.if-point-size.false, c.size-size.ensures, all)) c.point-then-point.result c.point-then-point.ensures (omega (arith, c.if-point.true, c.point.ensures))

pub returns-clause-judged : goal.returns-clause-judged
returns-clause-judged c = λ h s.
    let all = size_of h c.tree.result.now (c.tree.ensures.stands h s.stands) in
    later_time h c.args.set.now c.args.point (omega (arith, c.if-point-size.false, c.size-size.ensures, all)) c.check_time.result (omega (arith, c.if-point.false, c.point.ensures)) (c.check_time.ensures.judged h s)

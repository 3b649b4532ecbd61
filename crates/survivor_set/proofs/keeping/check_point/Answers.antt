use Rattle.std.proofs.Common.{◌∙◌, arith}
use Rattle.survivor_set.proofs.Kept.{point_absent, point_purged, point_time}
use Rattle.survivor_set.proofs.keeping.check_point.Goals as goal

pub returns-then-point-size-clause-judged : goal.returns-then-point-size-clause-judged
returns-then-point-size-clause-judged c = λ h s floor. point_absent h c.args.point c.size-size.result (c.size-size.ensures.size ∙ s.stands.counts.size) (omega (arith, c.if-point-size.true, c.size-size.ensures.size, s.stands.counts.size))

pub returns-then-point-first-clause-judged : goal.returns-then-point-first-clause-judged
returns-then-point-first-clause-judged c = λ h s floor.
    point_purged h c.args.point (omega (arith, c.if-point-size.false, c.size-size.ensures.size, s.stands.counts.size)) c.floor-first.result (c.floor-first.ensures ∙ floor) (omega (arith, c.if-point-first.true, c.floor-first.ensures, floor))

pub returns-clause-judged : goal.returns-clause-judged
returns-clause-judged c = λ h s floor.
    point_time h c.args.point (omega (arith, c.if-point-size.false, c.size-size.ensures.size, s.stands.counts.size)) c.check_time.result (omega (arith, c.if-point-first.false, c.floor-first.ensures, floor)) (c.check_time.ensures.judged h s)

use Rattle.std.proofs.Common.{◌∙◌, arith}
use Rattle.survivor_set.proofs.Kept.{place_purged, place_above, place_none}
use Rattle.survivor_set.proofs.keeping.check_place.Goals as goal

pub returns-then-n-first-clause-judged : goal.returns-then-n-first-clause-judged
returns-then-n-first-clause-judged c = λ h floor. place_purged h c.args.point c.args.n c.floor-first.result (c.floor-first.ensures ∙ floor) (omega (arith, c.if-n-first.true, c.floor-first.ensures, floor))

pub returns-then-point-n-clause-judged : goal.returns-then-point-n-clause-judged
returns-then-point-n-clause-judged c = λ h floor. place_above h c.args.point c.args.n (omega (arith, c.if-n-first.false, c.floor-first.ensures, floor)) c.if-point-n.true

pub returns-clause-judged : goal.returns-clause-judged
returns-clause-judged c = λ h floor. place_none h c.args.point c.args.n (omega (arith, c.if-n-first.false, c.floor-first.ensures, floor)) (omega (arith, c.if-point-n.false))

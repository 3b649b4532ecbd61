use Rattle.survivor_set.proofs.Checked.{handed_err, front_first, front_then, fits_all}
use Rattle.survivor_set.proofs.Revived.{survivors_own}
use Rattle.survivor_set.proofs.checking.check_set.Goals as goal

pub returns-in_err-check_front-clause-judged : goal.returns-in_err-check_front-clause-judged
returns-in_err-check_front-clause-judged c = λ h s.
    handed_err c.from_residual.result c.in_err-check_front.field-0.0 _ c.from_residual.ensures (front_first h c.args.set.now c.in_err-check_front.field-0.0 (c.in_err-check_front.ensures.judged h s))

pub returns-clause-judged : goal.returns-clause-judged
returns-clause-judged c = λ h s. front_then h c.args.set.now c.check_survivors.result (c.in_ok-check_front.ensures.judged h s) c.check_survivors.ensures

pub returns-clause-fits : goal.returns-clause-fits
returns-clause-fits c = fits_all c.args.book.now.tree c.args.set.now c.check_survivors.result c.in_ok-check_front.ensures.floor c.in_ok-check_front.ensures.more c.check_survivors.ensures

pub returns-clause-own : goal.returns-clause-own
returns-clause-own c = survivors_own c.args.set.now c.check_survivors.result c.check_survivors.ensures

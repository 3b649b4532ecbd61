use Rattle.std.proofs.Common.{arith, sym, ◌∙◌}
use Rattle.script_lines.proofs.Numbers.{number_of-passed}
use Rattle.script_lines.proofs.spellings.read_number.Goals as goal

pub returns-in_err-checked_mul-clause-number : goal.returns-in_err-checked_mul-clause-number
returns-in_err-checked_mul-clause-number c =
    c.from_residual.ensures
    ∙ sym (number_of-passed c.args.most c.loop-digit.number c.loop-digit.digit-index c.args.text.now c.loop-digit.invariant.0 c.loop-digit-test.true (omega arith))

pub returns-in_err-number-clause-number : goal.returns-in_err-number-clause-number
returns-in_err-number-clause-number c =
    c.from_residual-in_err-number.ensures
    ∙ sym (number_of-passed c.args.most c.loop-digit.number c.loop-digit.digit-index c.args.text.now c.loop-digit.invariant.0 c.loop-digit-test.true (omega arith))

pub returns-then-number-most-clause-number : goal.returns-then-number-most-clause-number
returns-then-number-most-clause-number c =
    sym (number_of-passed c.args.most c.loop-digit.number c.loop-digit.digit-index c.args.text.now c.loop-digit.invariant.0 c.loop-digit-test.true (omega arith))

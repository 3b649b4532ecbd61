use Rattle.script_lines.proofs.Numbers.{decimal-number_of, number_of-decimal}
use Rattle.script_lines.proofs.laws.numbers_are_decimal.Goals as goal

pub returns-clause-spelled : goal.returns-clause-spelled
returns-clause-spelled c = decimal-number_of

pub returns-clause-read : goal.returns-clause-read
returns-clause-read c = number_of-decimal

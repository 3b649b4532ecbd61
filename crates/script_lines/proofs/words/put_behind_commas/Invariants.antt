use Rattle.std.proofs.Common.{drop}
use Rattle.script_lines.specs.Words.{behind_commas}
use Rattle.script_lines.proofs.Filled.{IsFilledTo}
use Rattle.script_lines.proofs.words.put_behind_commas.Given as goal

abbrev pub invariant-loop-number : goal.invariant-loop-number
invariant-loop-number l = IsFilledTo l.fn.out.items l.out.items (behind_commas (drop l.number-index l.numbers)) (behind_commas l.numbers)

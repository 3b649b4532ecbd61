use Rattle.std.proofs.Common.{length}
use Rattle.ledger_cli.proofs.numbers.+add_numbers.Given as goal

abbrev pub decreases-add_numbers : goal.decreases-add_numbers
decreases-add_numbers l = length l.text.now

use Rattle.std.proofs.Common.{sym, arith}
use Rattle.ledger_cli.proofs.NumberLaws.{few_ascending}
use Rattle.ledger_cli.proofs.numbers.+is_ascending.Goals as goal

pub returns-in_default : goal.returns-in_default
returns-in_default t c = sym (few_ascending c.args.numbers.now (omega (arith, c.in_default.len_below)))

use Rattle.ledger_cli.specs.Leaving.{AreClean, AreErased}
use Rattle.ledger_cli.proofs.ShownLaws.{receipt_shown}
use Rattle.ledger_cli.proofs.laws.a_written_receipt_is_shown.Goals as goal

pub returns-clause-clean : goal.returns-clause-clean
returns-clause-clean c h whole first last replies a b = receipt_shown h whole first last replies AreClean a b

pub returns-clause-erased : goal.returns-clause-erased
returns-clause-erased c h whole first last replies a b = receipt_shown h whole first last replies (AreErased h replies) a b

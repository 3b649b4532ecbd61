use Rattle.ledger_model.proofs.WrittenLaws.{receipt_kept_in, receipt_kept_behind}
use Rattle.ledger_model.proofs.laws.a_written_receipt_is_kept.Goals as goal

pub returns-clause-lines : goal.returns-clause-lines
returns-clause-lines c = receipt_kept_in

pub returns-clause-tail : goal.returns-clause-tail
returns-clause-tail c = receipt_kept_behind

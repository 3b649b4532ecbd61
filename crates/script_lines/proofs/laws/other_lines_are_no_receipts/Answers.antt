use Rattle.script_lines.proofs.ReceiptLaws.{no_receipt}
use Rattle.script_lines.proofs.laws.other_lines_are_no_receipts.Goals as goal

pub returns : goal.returns
returns c = no_receipt

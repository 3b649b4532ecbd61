use Rattle.std.specs.List.{count_by}
use Rattle.std.proofs.Common.{◌≡◌, ◌≤◌, take}
use Rattle.ledger_book.specs.Books.{Serves}
use Rattle.ledger_model.specs.History.{History}
use Rattle.ledger_soak.specs.Auditing.{is_lost}
use Rattle.ledger_soak.proofs.receipts.count_lost.Given as goal

abbrev pub invariant-loop-receipt : goal.invariant-loop-receipt
invariant-loop-receipt l = record {
  few : l.lost ≤ l.receipt-index;
  are : (h : History) → Serves l.book h → l.lost ≡ count_by (is_lost h) (take l.receipt-index l.receipts);
}

use Rattle.std.proofs.Common.{◌≡◌, ◌++◌, take}
use Rattle.ledger_book.specs.Books.{Serves}
use Rattle.ledger_model.specs.Dues.{due_lines}
use Rattle.ledger_model.specs.History.{History}
use Rattle.batch_committer.specs.Steps.{AllKept, AreLastFrom, last_end}
use Rattle.batch_committer.proofs.dues.spell.Given as goal

abbrev pub invariant-loop-due : goal.invariant-loop-due
invariant-loop-due l = (h : History) → Serves l.book h → (l.last ≡ last_end h)
    × (AreLastFrom l.first h → AllKept l.book l.dues → l.text.items ≡ l.fn.text.items ++ due_lines h (take l.due-index l.dues))

use Rattle.std.proofs.Common.{◌≡◌, ◌++◌, List, map, take}
use Rattle.std.specs.List.{AllByRecursion}
use Rattle.journal_record.specs.Entry.{Entry}
use Rattle.journal_record.specs.Header.{HasWidths}
use Rattle.ledger_model.specs.History.{History}
use Rattle.ledger_book.specs.Books.{Serves}
use Rattle.clue_lineage.specs.Lineages.{items_text}
use Rattle.clue_lineage.specs.Making.{StandsIn, item_in}
use Rattle.clue_lineage.proofs.making.put_items.Given as goal

abbrev pub invariant-loop-number : goal.invariant-loop-number
invariant-loop-number l =
    (h : History) (es : List Entry) → Serves l.book h → AllByRecursion (StandsIn h) es → map (λ (e : Entry). e.header.jsn) es ≡ l.numbers
    → (l.writer ≡ l.fn.writer ++ items_text (map (item_in h) (take l.number-index es))) × AllByRecursion (λ (e : Entry). HasWidths e.header) (take l.number-index es)

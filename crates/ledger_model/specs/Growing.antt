-- How a history grows.
use Rattle.std.specs.Prelude.{◌≡◌, List, ◌++◌}
use Rattle.journal_record.specs.Entry.{Entry}
use Rattle.ledger_model.specs.History.{History, journals}

-- one history comes of another: journals came behind, and blocks ended
pub record Grows (h g : History) : Type 0 where
  pub more : List Entry
  pub journals_are : journals g ≡ journals h ++ more
  pub blocks : List (List Entry)
  pub closed_are : g.closed ≡ h.closed ++ blocks

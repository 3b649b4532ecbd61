use Rattle.ledger_book.proofs.StandsLaws.{as_before_stands, as_before_serves}
use Rattle.ledger_book.proofs.BehindLaws.{as_before_behind}
use Rattle.ledger_book.proofs.laws.room_changes_nothing.Goals as goal

pub returns-clause-stands : goal.returns-clause-stands
returns-clause-stands c = as_before_stands

pub returns-clause-serves : goal.returns-clause-serves
returns-clause-serves c = as_before_serves

pub returns-clause-behind : goal.returns-clause-behind
returns-clause-behind c = as_before_behind

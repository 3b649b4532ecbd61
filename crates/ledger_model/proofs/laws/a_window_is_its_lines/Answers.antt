use Rattle.std.proofs.Common.{refl}
use Rattle.ledger_model.specs.History.{id}
use Rattle.ledger_model.proofs.PreparedLaws.{after_items, dues_of_items}
use Rattle.ledger_model.proofs.laws.a_window_is_its_lines.Goals as goal

pub returns-clause-after : goal.returns-clause-after
returns-clause-after c = λ scheme h steps some. after_items scheme (id h) h steps refl some

pub returns-clause-dues : goal.returns-clause-dues
returns-clause-dues c = λ scheme h steps some. dues_of_items scheme (id h) h steps refl some

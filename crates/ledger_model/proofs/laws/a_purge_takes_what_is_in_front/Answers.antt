use Rattle.ledger_model.proofs.PurgeLaws.{front_view, kept_view, own_view, point_later}
use Rattle.ledger_model.proofs.laws.a_purge_takes_what_is_in_front.Goals as goal

pub returns-clause-front : goal.returns-clause-front
returns-clause-front c = λ h step p told given n lawful accepted. front_view h step p told given lawful accepted n

pub returns-clause-kept : goal.returns-clause-kept
returns-clause-kept c = λ h step p told given n lawful accepted. kept_view h step p told given lawful accepted n

pub returns-clause-own : goal.returns-clause-own
returns-clause-own c = own_view

pub returns-clause-point : goal.returns-clause-point
returns-clause-point c = point_later

use Rattle.ledger_model.proofs.LawfulLaws.{all_seen, later_seen}
use Rattle.ledger_model.proofs.laws.points_are_seen.Goals as goal

pub returns-clause-all : goal.returns-clause-all
returns-clause-all c = all_seen

pub returns-clause-later : goal.returns-clause-later
returns-clause-later c = λ h floor lawful reaches. later_seen h floor lawful.journals_are reaches

use Rattle.ledger_model.proofs.OccultLaws.{target_hider, target_before, target_after, other_view}
use Rattle.ledger_model.proofs.laws.an_occult_hides_its_target.Goals as goal

pub returns-clause-hider : goal.returns-clause-hider
returns-clause-hider c = target_hider

pub returns-clause-before : goal.returns-clause-before
returns-clause-before c = target_before

pub returns-clause-after : goal.returns-clause-after
returns-clause-after c = target_after

pub returns-clause-others : goal.returns-clause-others
returns-clause-others c = λ h step target leaf given n lawful accepted below other. other_view h step target leaf given lawful accepted n below other

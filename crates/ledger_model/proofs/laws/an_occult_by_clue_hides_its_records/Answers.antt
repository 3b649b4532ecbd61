use Rattle.ledger_model.proofs.OccultLaws.{clue_told, clue_some, clue_hider, clue_after, clue_others, hider_later}
use Rattle.ledger_model.proofs.laws.an_occult_by_clue_hides_its_records.Goals as goal

pub returns-clause-count : goal.returns-clause-count
returns-clause-count c = clue_told

pub returns-clause-before : goal.returns-clause-before
returns-clause-before c = clue_some

pub returns-clause-hider : goal.returns-clause-hider
returns-clause-hider c = λ h step clue count given n e lawful accepted at is. clue_hider h step clue count given lawful accepted n e at is

pub returns-clause-after : goal.returns-clause-after
returns-clause-after c = λ h step clue count given n e lawful accepted at is kept. clue_after h step clue count given lawful accepted n e at is kept

pub returns-clause-others : goal.returns-clause-others
returns-clause-others c = λ h step clue count given n e lawful accepted at is. clue_others h step clue count given lawful accepted n e at is

pub returns-clause-behind : goal.returns-clause-behind
returns-clause-behind c = hider_later

use Rattle.ledger_model.proofs.GetLaws.{sound_shown, sound_occulted}
use Rattle.ledger_model.proofs.laws.sound_histories_show_their_journals.Goals as goal

pub returns-clause-whole : goal.returns-clause-whole
returns-clause-whole c = sound_shown

pub returns-clause-occulted : goal.returns-clause-occulted
returns-clause-occulted c = sound_occulted

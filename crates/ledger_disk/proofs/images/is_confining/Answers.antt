use Rattle.ledger_disk.proofs.Confining.{confined_image, confined_settled, confined_may}
use Rattle.ledger_disk.proofs.images.is_confining.Goals as goal

pub returns-clause-image : goal.returns-clause-image
returns-clause-image c = confined_image

pub returns-clause-settled : goal.returns-clause-settled
returns-clause-settled c = confined_settled

pub returns-clause-written : goal.returns-clause-written
returns-clause-written c = confined_may

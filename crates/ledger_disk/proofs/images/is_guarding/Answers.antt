use Rattle.ledger_disk.proofs.Guarding.{guards_image, guards_settled, guards_may, guards_may_cut}
use Rattle.ledger_disk.proofs.images.is_guarding.Goals as goal

pub returns-clause-image : goal.returns-clause-image
returns-clause-image c = guards_image

pub returns-clause-settled : goal.returns-clause-settled
returns-clause-settled c = guards_settled

pub returns-clause-written : goal.returns-clause-written
returns-clause-written c = guards_may

pub returns-clause-cut : goal.returns-clause-cut
returns-clause-cut c = guards_may_cut

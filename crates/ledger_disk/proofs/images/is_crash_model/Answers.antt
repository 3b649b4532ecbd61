use Rattle.ledger_disk.proofs.Guarding.{settled_image, cut_image, one_byte_may}
use Rattle.ledger_disk.proofs.images.is_crash_model.Goals as goal

pub returns-clause-one : goal.returns-clause-one
returns-clause-one c = settled_image

pub returns-clause-cut : goal.returns-clause-cut
returns-clause-cut c = cut_image

pub returns-clause-byte : goal.returns-clause-byte
returns-clause-byte c = λ file image at new. one_byte_may file new at image

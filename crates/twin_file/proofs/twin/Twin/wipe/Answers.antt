use Rattle.std.proofs.Common.{rules, true, false, refl}
use Rattle.twin_file.proofs.OpenLaws.{spares, front_at}
use Rattle.twin_file.proofs.twin.Twin.wipe.Goals as goal

pub returns-in_err-wipe_file-clause-images : goal.returns-in_err-wipe_file-clause-images
returns-in_err-wipe_file-clause-images g c told = spares true _ _ _ _ c.if-self.true refl (c.wipe_file.ensures.images told)

pub returns-in_err-wipe_file-2-clause-images : goal.returns-in_err-wipe_file-2-clause-images
returns-in_err-wipe_file-2-clause-images g c told = spares false _ _ _ _ c.if-self.false refl (c.wipe_file-else-self.ensures.images told)

pub returns-in_ok-wipe_file-clause-images : goal.returns-in_ok-wipe_file-clause-images
returns-in_ok-wipe_file-clause-images g c told = spares true _ _ _ _ c.if-self.true refl (c.wipe_file.ensures.images told)

pub returns-in_ok-wipe_file-2-clause-images : goal.returns-in_ok-wipe_file-2-clause-images
returns-in_ok-wipe_file-2-clause-images g c told = spares false _ _ _ _ c.if-self.false refl (c.wipe_file-else-self.ensures.images told)

pub returns-in_ok-wipe_file-clause-kept : goal.returns-in_ok-wipe_file-clause-kept
returns-in_ok-wipe_file-clause-kept g c = record { same = search rules; from = search rules; faults = search rules }

pub returns-in_ok-wipe_file-2-clause-kept : goal.returns-in_ok-wipe_file-2-clause-kept
returns-in_ok-wipe_file-2-clause-kept g c = record { same = search rules; from = search rules; faults = search rules }

pub returns-in_err-wipe_file-clause-front : goal.returns-in_err-wipe_file-clause-front
returns-in_err-wipe_file-clause-front g c told = front_at true _ _ _ _ c.if-self.true (c.wipe_file.ensures.front told)

pub returns-in_err-wipe_file-2-clause-front : goal.returns-in_err-wipe_file-2-clause-front
returns-in_err-wipe_file-2-clause-front g c told = front_at false _ _ _ _ c.if-self.false (c.wipe_file-else-self.ensures.front told)

pub returns-in_ok-wipe_file-clause-front : goal.returns-in_ok-wipe_file-clause-front
returns-in_ok-wipe_file-clause-front g c told = front_at true _ _ _ _ c.if-self.true (c.wipe_file.ensures.front told)

pub returns-in_ok-wipe_file-2-clause-front : goal.returns-in_ok-wipe_file-2-clause-front
returns-in_ok-wipe_file-2-clause-front g c told = front_at false _ _ _ _ c.if-self.false (c.wipe_file-else-self.ensures.front told)

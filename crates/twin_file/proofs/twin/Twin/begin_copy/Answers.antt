use Rattle.std.proofs.Common.{true, false, refl}
use Rattle.twin_file.proofs.OpenLaws.{spares}
use Rattle.twin_file.proofs.twin.Twin.begin_copy.Goals as goal

pub returns-in_err-begin-clause-images : goal.returns-in_err-begin-clause-images
returns-in_err-begin-clause-images g c told = spares true _ _ _ _ c.if-self.true refl (c.begin.ensures.images told)

pub returns-in_err-begin-2-clause-images : goal.returns-in_err-begin-2-clause-images
returns-in_err-begin-2-clause-images g c told = spares false _ _ _ _ c.if-self.false refl (c.begin-else-self.ensures.images told)

pub returns-in_ok-begin-clause-images : goal.returns-in_ok-begin-clause-images
returns-in_ok-begin-clause-images g c told = spares true _ _ _ _ c.if-self.true refl (c.begin.ensures.images told)

pub returns-in_ok-begin-2-clause-images : goal.returns-in_ok-begin-2-clause-images
returns-in_ok-begin-2-clause-images g c told = spares false _ _ _ _ c.if-self.false refl (c.begin-else-self.ensures.images told)

use Rattle.std.proofs.Common.{true, false, refl}
use Rattle.block_file.proofs.WriteLaws.{on_err}
use Rattle.twin_file.proofs.OpenLaws.{opened, opening}
use Rattle.twin_file.proofs.copy.unveil_other.Goals as goal

pub returns-in_err-unveil-clause-images_err : goal.returns-in_err-unveil-clause-images_err
returns-in_err-unveil-clause-images_err g c = on_err c.from_residual.result _ (λ told. opening true _ _ _ _ c.if-in_a.true refl (c.in_err-unveil.ensures.err told))

pub returns-in_err-unveil-2-clause-images_err : goal.returns-in_err-unveil-2-clause-images_err
returns-in_err-unveil-2-clause-images_err g c = on_err c.from_residual-in_err-unveil-2.result _ (λ told. opening false _ _ _ _ c.if-in_a.false refl (c.in_err-unveil-2.ensures.err told))

pub returns-in_ok-unveil-clause-images : goal.returns-in_ok-unveil-clause-images
returns-in_ok-unveil-clause-images g c told = opened true _ _ _ _ c.if-in_a.true refl (c.in_ok-unveil.ensures.ok told)

pub returns-in_ok-unveil-2-clause-images : goal.returns-in_ok-unveil-2-clause-images
returns-in_ok-unveil-2-clause-images g c told = opened false _ _ _ _ c.if-in_a.false refl (c.in_ok-unveil-2.ensures.ok told)

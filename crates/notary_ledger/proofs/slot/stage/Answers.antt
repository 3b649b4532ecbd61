use Rattle.std.proofs.Common.{arith, sym, subst}
use Rattle.std.proofs.lemmas.Result.{on_err_weaker}
use Rattle.ledger_disk.specs.Disk.{State}
use Rattle.ledger_disk.specs.Guards.{Guards}
use Rattle.ledger_disk.proofs.Guarding.{guards_may, guards_wrote}
use Rattle.notary_ledger.proofs.SlotLaws.{on_err}
use Rattle.notary_ledger.proofs.slot.stage.Goals as goal

pub returns-in_err-write-clause-err : goal.returns-in_err-write-clause-err
returns-in_err-write-clause-err g c = on_err c.from_residual.result _ (λ told front guards le. guards_may _ _ front _ _ guards le (c.in_err-write.ensures.err told))

pub returns-in_err-write-2-clause-err : goal.returns-in_err-write-2-clause-err
returns-in_err-write-2-clause-err g c = on_err c.from_residual-in_err-write-2.result _ (λ told front guards le.
    let first = subst (λ (s : State). Guards s front) (sym (c.in_ok-write.ensures.ok told)) (guards_wrote _ front _ _ _ guards le) in
    guards_may _ _ front _ _ first (omega arith) (c.in_err-write-2.ensures.err told))

pub returns-clause-err : goal.returns-clause-err
returns-clause-err g c = on_err_weaker c.sync.result (λ same told front guards le.
    let first = subst (λ (s : State). Guards s front) (sym (c.in_ok-write.ensures.ok told)) (guards_wrote _ front _ _ _ guards le) in
    let second = subst (λ (s : State). Guards s front) (sym (c.in_ok-write-2.ensures.ok told)) (guards_wrote _ front _ _ _ first (omega arith)) in
    subst (λ (s : State). Guards s front) (sym (same told)) second) c.sync.ensures.err

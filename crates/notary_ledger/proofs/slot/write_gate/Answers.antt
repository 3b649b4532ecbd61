use Rattle.std.proofs.Common.{arith, sym, subst, ◌∙◌}
use Rattle.std.proofs.lemmas.Result.{on_err_weaker}
use Rattle.ledger_disk.specs.Disk.{State}
use Rattle.ledger_disk.specs.Guards.{Confined}
use Rattle.ledger_disk.proofs.Confining.{confined_may}
use Rattle.notary_ledger.proofs.SlotLaws.{on_err, confined_ok, short_may, short_ok}
use Rattle.notary_ledger.proofs.slot.write_gate.Goals as goal

pub returns-in_err-write-clause-err : goal.returns-in_err-write-clause-err
returns-in_err-write-clause-err g c = on_err c.from_residual.result _ (λ told file long confined.
    confined_may c.args.at 1 c.args.at 1 file _ _ confined (omega arith) (omega arith) long (c.in_err-write.ensures.err told))

pub returns-clause-err : goal.returns-clause-err
returns-clause-err g c = on_err_weaker c.sync.result (λ same told file long confined.
    subst (λ (s : State). Confined c.args.at 1 file s) (sym (same told ∙ c.in_ok-write.ensures.ok told)) (confined_ok file (g.D.Disk.state c.args.disk.now).bytes c.args.at c.args.gate long confined)) c.sync.ensures.err

pub returns-in_err-write-clause-short : goal.returns-in_err-write-clause-short
returns-in_err-write-clause-short g c = on_err c.from_residual.result _ (λ told image empty left. short_may c.args.at (g.D.Disk.state c.args.disk.now).bytes _ image empty (c.in_err-write.ensures.err told) left)

pub returns-clause-short : goal.returns-clause-short
returns-clause-short g c = on_err_weaker c.sync.result (λ same told image empty left. short_ok c.args.at c.args.gate (g.D.Disk.state c.args.disk.now).bytes _ image empty (same told ∙ c.in_ok-write.ensures.ok told) left) c.sync.ensures.err

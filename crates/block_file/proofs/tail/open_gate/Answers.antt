use Rattle.std.proofs.Common.{arith, subst, ◌∙◌, length, ◌≤◌, ◌≡◌, ◌+◌, ◌∷◌, []}
use Rattle.std.proofs.lemmas.Result.{on_err_weaker}
use Rattle.ledger_disk.specs.Disk.{State, MayHaveWritten, with_write, MayLeave, overlay}
use Rattle.ledger_disk.proofs.Guarding.{one_byte_may, one_byte, length_overlaid}
use Rattle.block_file.proofs.WriteLaws.{on_err, told_within}
use Rattle.block_file.proofs.tail.open_gate.Goals as goal

pub returns-in_err-write-clause-err : goal.returns-in_err-write-clause-err
returns-in_err-write-clause-err g c = on_err c.from_residual.result _ (λ told quiet image left.
    let seen = (g.D.Disk.state c.args.disk.now).bytes.seen in
    let within : c.args.at + 1 ≤ length seen = told_within _ (length seen) (c.args.at + 1) (g.met.D.Disk.length_is c.args.disk.now told) c.requires in
    one_byte_may seen (g.D.Disk.state c.write.new.self).bytes c.args.at image (omega arith) (subst (λ (s : State). MayHaveWritten c.args.at 1 s (g.D.Disk.state c.write.new.self).bytes) quiet (c.in_err-write.ensures.err told)) left)

pub returns-clause-err : goal.returns-clause-err
returns-clause-err g c = on_err_weaker c.sync.result (λ same told quiet image left.
    let seen = (g.D.Disk.state c.args.disk.now).bytes.seen in
    let within : c.args.at + 1 ≤ length seen = told_within _ (length seen) (c.args.at + 1) (g.met.D.Disk.length_is c.args.disk.now told) c.requires in
    let wrote_one = subst (λ (s : State). (g.D.Disk.state c.write.new.self).bytes ≡ with_write c.args.at 1 (overlay c.args.at (1 ∷ []) s.seen) s) quiet (c.in_ok-write.ensures.ok told) in
    let after = overlay c.args.at (1 ∷ []) seen in
    one_byte seen after c.args.at image (omega arith) (length_overlaid c.args.at 1 seen within) (subst (λ (s : State). MayLeave s image) (same told ∙ wrote_one) left)) c.sync.ensures.err

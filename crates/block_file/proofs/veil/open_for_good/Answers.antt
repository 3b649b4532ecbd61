use Rattle.std.proofs.Common.{arith, subst, inl, inr, length, ◌≤◌, ◌∷◌, []}
use Rattle.std.proofs.lemmas.Result.{on_err_weaker}
use Rattle.ledger_disk.specs.Disk.{State, MayHaveWritten, settled_state, MayLeave, overlay}
use Rattle.ledger_disk.proofs.Ranges.{overlaid_torn}
use Rattle.block_file.proofs.WriteLaws.{on_err, told_within_some}
use Rattle.block_file.proofs.VeilLaws.{veiled_gate, opening}
use Rattle.block_file.proofs.veil.open_for_good.Goals as goal

pub returns-in_err-sync-clause-err : goal.returns-in_err-sync-clause-err
returns-in_err-sync-clause-err g c = on_err c.from_residual.result _ (λ told veiled image left.
    inl (veiled_gate (g.D.Disk.state c.args.disk.now).bytes image veiled (subst (λ (s : State). MayLeave s image) (c.in_err-sync.ensures.err told) left)))

pub returns-in_err-write-clause-err : goal.returns-in_err-write-clause-err
returns-in_err-write-clause-err g c = on_err c.from_residual-in_err-write.result _ (λ told veiled image left.
    let seen = (g.D.Disk.state c.args.disk.now).bytes.seen in
    let within : 1 ≤ length seen = told_within_some _ (length seen) 1 (g.met.D.Disk.length_is c.args.disk.now told) c.requires in
    opening seen (g.D.Disk.state c.write.new.self).bytes image within (subst (λ (s : State). MayHaveWritten 0 1 s (g.D.Disk.state c.write.new.self).bytes) (c.in_ok-sync.ensures.ok told) (c.in_err-write.ensures.err told)) left)

pub returns-clause-err : goal.returns-clause-err
returns-clause-err g c = on_err_weaker c.sync-2.result (λ same told veiled image left.
    let seen = (g.D.Disk.state c.args.disk.now).bytes.seen in
    let within : 1 ≤ length seen = told_within_some _ (length seen) 1 (g.met.D.Disk.length_is c.args.disk.now told) c.requires in
    let done = c.in_ok-write.ensures.ok told in
    let after = overlay 0 (1 ∷ []) (g.D.Disk.state c.sync.new.self).bytes.seen in
    let may : MayHaveWritten 0 1 (settled_state seen) (g.D.Disk.state c.write.new.self).bytes =
    subst (λ (s : State). MayHaveWritten 0 1 s (g.D.Disk.state c.write.new.self).bytes) (c.in_ok-sync.ensures.ok told) (inr (after, overlaid_torn 0 (1 ∷ []) _ (omega arith), done)) in
    opening seen (g.D.Disk.state c.write.new.self).bytes image within may (subst (λ (s : State). MayLeave s image) (same told) left)) c.sync-2.ensures.err

use Rattle.std.proofs.Common.{◌≡◌, [], length, sym, ◌∙◌, arith}
use Rattle.ledger_bytes.specs.declared.limits.TheConstants.{BLOCK_LIMIT}
use Rattle.ledger_model.proofs.GrowLaws.{grows_settled}
use Rattle.batch_committer.specs.World.{pair}
use Rattle.batch_committer.proofs.Ending.{no_memory, none_waits}
use Rattle.batch_committer.proofs.Judging.{on_ok_then}
use Rattle.batch_committer.proofs.Offering.{idle_goes, idle_ended, full_goes, full_ended, alone_ended, room_goes, if_err_then, at_least}
use Rattle.batch_committer.proofs.WayLaws.{err_is}
use Rattle.batch_committer.proofs.taking.Taking.end_after.Goals as goal

pub returns-then-closes_after-clause-err : goal.returns-then-closes_after-clause-err
returns-then-closes_after-clause-err g c =
    if_err_then c.flush.result (λ end x. alone_ended g.D.Disk.tells _ _ c.args.job.now end (sym c.closes_after.ensures ∙ c.if-closes_after.true) x) c.flush.ensures.err

pub returns-then-is_stored-clause-ok : goal.returns-then-is_stored-clause-ok
returns-then-is_stored-clause-ok g c =
    let settled : c.args.self.now.book.size ≡ c.args.self.now.book.sealed = omega (arith, c.unsealed-waiting.ensures.number, c.if-waiting-eq0.true) in
    on_ok_then c.settle.result (λ x. idle_goes g.D.Disk.tells _ _ c.args.job.now (λ h s. none_waits c.args.self.now.book h settled s) x) c.settle.ensures.ok

pub returns-then-is_stored-clause-err : goal.returns-then-is_stored-clause-err
returns-then-is_stored-clause-err g c =
    let settled : c.args.self.now.book.size ≡ c.args.self.now.book.sealed = omega (arith, c.unsealed-waiting.ensures.number, c.if-waiting-eq0.true) in
    if_err_then c.settle.result (λ end x. idle_ended g.D.Disk.tells _ _ c.args.job.now end (λ h s. none_waits c.args.self.now.book h settled s) x) c.settle.ensures.err

pub returns-then-waiting-lt-BLOCK_LIMIT-clause-ok : goal.returns-then-waiting-lt-BLOCK_LIMIT-clause-ok
returns-then-waiting-lt-BLOCK_LIMIT-clause-ok g c =
    room_goes g.D.Disk.tells _ c.args.job.now (sym c.closes_after.ensures ∙ c.if-closes_after.false)
    (λ h s. omega (arith, c.unsealed-waiting.ensures.count h s, c.if-waiting-lt-BLOCK_LIMIT.true))

pub returns-then-fills_group-clause-ok : goal.returns-then-fills_group-clause-ok
returns-then-fills_group-clause-ok g c =
    on_ok_then c.flush-then-fills_group.result
    (λ x. full_goes g.D.Disk.tells _ _ c.args.job.now
    (λ h s. at_least BLOCK_LIMIT c.unsealed-waiting.result (length h.waiting) c.if-waiting-lt-BLOCK_LIMIT.false (c.unsealed-waiting.ensures.count h s)) x)
    c.flush-then-fills_group.ensures.ok

pub returns-then-fills_group-clause-err : goal.returns-then-fills_group-clause-err
returns-then-fills_group-clause-err g c =
    if_err_then c.flush-then-fills_group.result
    (λ end x. full_ended g.D.Disk.tells _ _ c.args.job.now end
    (λ h s. at_least BLOCK_LIMIT c.unsealed-waiting.result (length h.waiting) c.if-waiting-lt-BLOCK_LIMIT.false (c.unsealed-waiting.ensures.count h s)) x)
    c.flush-then-fills_group.ensures.err

pub returns-in_err-end_block-clause-err : goal.returns-in_err-end_block-clause-err
returns-in_err-end_block-clause-err g c =
    err_is _ c.from_residual.result _ c.from_residual.ensures.1 (no_memory g.D.Disk.tells _ _ _ (λ h. []) (λ h p. grows_settled c.args.job.now h))

pub returns-in_ok-end_block-clause-ok : goal.returns-in_ok-end_block-clause-ok
returns-in_ok-end_block-clause-ok g c =
    let disks = pair (g.D.Disk.state c.args.a.now) (g.D.Disk.state c.args.b.now) in
    full_goes g.D.Disk.tells _ _ c.args.job.now
    (λ h s. at_least BLOCK_LIMIT c.unsealed-waiting.result (length h.waiting) c.if-waiting-lt-BLOCK_LIMIT.false (c.unsealed-waiting.ensures.count h s))
    (c.in_ok-end_block.ensures.ok g.D.Disk.tells disks (g.K.Sink.state c.args.sink.now))

pub returns-in_ok-end_block-clause-fits : goal.returns-in_ok-end_block-clause-fits
returns-in_ok-end_block-clause-fits g c =
    c.in_ok-end_block.ensures.fits g.D.Disk.tells (pair (g.D.Disk.state c.args.a.now) (g.D.Disk.state c.args.b.now)) (g.K.Sink.state c.args.sink.now) c.requires.fits

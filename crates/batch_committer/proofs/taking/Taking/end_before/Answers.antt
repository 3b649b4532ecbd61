use Rattle.batch_committer.proofs.Judging.{on_ok_then}
use Rattle.batch_committer.proofs.Offering.{before_ended, before_kept, room_empty, if_err_then}
use Rattle.batch_committer.proofs.taking.Taking.end_before.Goals as goal

pub returns-then-closes_before-clause-err : goal.returns-then-closes_before-clause-err
returns-then-closes_before-clause-err g c =
    if_err_then c.flush.result (λ end x. before_ended g.D.Disk.tells _ _ c.args.job.now c.closes_before.result end c.closes_before.ensures c.if-closes_before.true x) c.flush.ensures.err

pub returns-else-closes_before-clause-ok : goal.returns-else-closes_before-clause-ok
returns-else-closes_before-clause-ok g c = before_kept g.D.Disk.tells _ c.args.job.now c.closes_before.result c.closes_before.ensures c.if-closes_before.false

pub returns-then-closes_before-clause-room : goal.returns-then-closes_before-clause-room
returns-then-closes_before-clause-room g c = on_ok_then c.flush.result (λ x. room_empty c.flush.new.self x.0) c.flush.ensures.empty

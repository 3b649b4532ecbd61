use Rattle.batch_committer.specs.World.{world, pair}
use Rattle.batch_committer.proofs.Judging.{on_ok_then}
use Rattle.batch_committer.proofs.Offering.{fits_gathered, if_err_then}
use Rattle.batch_committer.proofs.ReadLaws.{fits_read}
use Rattle.batch_committer.proofs.Taken.{taken, unfilled, unjudged, unended}
use Rattle.batch_committer.proofs.WayLaws.{err_is}
use Rattle.batch_committer.proofs.taking.Taking.take.Goals as goal

pub returns-in_err-end_before-clause-err : goal.returns-in_err-end_before-clause-err
returns-in_err-end_before-clause-err g c =
    err_is _ c.from_residual.result _ c.from_residual.ensures.1
    (unended g.D.Disk.tells _ _ _ c.args.item.now.lane c.args.item.now.index c.args.item.now.job _ c.in_err-end_before.ensures.err)

pub returns-in_err-take_in-clause-err : goal.returns-in_err-take_in-clause-err
returns-in_err-take_in-clause-err g c =
    let sink = g.K.Sink.state c.end_before.new.sink in
    let m = world c.end_before.new.self (pair (g.D.Disk.state c.end_before.new.a) (g.D.Disk.state c.end_before.new.b)) sink in
    err_is _ c.from_residual-in_err-take_in.result _ c.from_residual-in_err-take_in.ensures.1
    (unjudged g.D.Disk.tells _ m m _ _ _ c.args.item.now.lane c.args.item.now.index c.args.item.now.job c.in_ok-end_before.ensures.ok _ (c.in_err-take_in.ensures.err sink))

pub end_after-requires-clause-fits : goal.end_after-requires-clause-fits
end_after-requires-clause-fits g c =
    let e = c.in_ok-take_in.ensures in
    fits_read g.D.Disk.tells _ _ e.read c.take_in.new.self (g.K.Sink.state c.end_before.new.sink)
    (fits_gathered g.D.Disk.tells c.end_before.new.self c.take_in.new.self _ _ c.in_ok-end_before.ensures.fits c.in_ok-end_before.ensures.room e.grown e.order e.file e.due.0 e.due.1)

pub end_after-requires-clause-gathers : goal.end_after-requires-clause-gathers
end_after-requires-clause-gathers g c =
    λ other. c.in_ok-take_in.ensures.gathers other c.in_ok-end_before.ensures.room.1

pub returns-clause-ok : goal.returns-clause-ok
returns-clause-ok g c =
    let y = c.in_ok-take_in.ensures.ok in
    on_ok_then c.end_after.result
    (λ x. (y.0, λ line. taken g.D.Disk.tells _ _ _ _ _ _ c.args.item.now.lane c.args.item.now.index c.args.item.now.job c.in_ok-end_before.ensures.ok y.0 line (y.1 line (g.K.Sink.state c.end_before.new.sink)) x))
    c.end_after.ensures.ok

pub returns-clause-err : goal.returns-clause-err
returns-clause-err g c =
    let y = c.in_ok-take_in.ensures.ok in
    if_err_then c.end_after.result
    (λ end x. unfilled g.D.Disk.tells _ _ _ _ _ _ c.args.item.now.lane c.args.item.now.index c.args.item.now.job c.in_ok-end_before.ensures.ok end y.0 (λ line. y.1 line (g.K.Sink.state c.end_before.new.sink)) x)
    c.end_after.ensures.err

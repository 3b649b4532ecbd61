use Rattle.std.proofs.Common.{refl}
use Rattle.lane_work.proofs.Ordering.{prepared_is}
use Rattle.ledger_cli.proofs.AloneLaws.{line_taken, line_broken, line_lacks}
use Rattle.ledger_cli.proofs.PieceLaws.{goes_along}
use Rattle.ledger_cli.proofs.desk.Desk.take_line.Goals as goal

pub returns-in_default-clause-takes : goal.returns-in_default-clause-takes
returns-in_default-clause-takes g c first number = line_lacks _ _ _ first c.args.said c.args.index _ c.requires c.id-id.ensures number

pub returns-in-Ok-offer-clause-takes : goal.returns-in-Ok-offer-clause-takes
returns-in-Ok-offer-clause-takes g c first number =
    let is = prepared_is _ _ c.args.said c.args.index c.args.index c.in-Ok.item c.as_slice.result.now refl c.as_slice.ensures c.in-Ok.ensures.lane c.in-Ok.ensures.index c.in-Ok.ensures.job in
    let done = c.in-Ok-offer.ensures in (
      line_taken _ _ _ first c.args.said c.args.index _ _ c.requires c.id-id.ensures number c.in-Ok.item is
          (refl, refl, record { unended = done.ended; fits = done.fits; room = done.room }, done.once, goes_along _ _ _ _ _ c.opened.ensures.book c.look.ensures.follows, done.ok),
      record { unended = done.ended; fits = done.fits; room = done.room },
    )

pub returns-clause-takes : goal.returns-clause-takes
returns-clause-takes g c first number =
    let is = prepared_is _ _ c.args.said c.args.index c.args.index c.in-Ok.item c.as_slice.result.now refl c.as_slice.ensures c.in-Ok.ensures.lane c.in-Ok.ensures.index c.in-Ok.ensures.job in
    let failed = c.in-Err.ensures in
    line_broken _ _ _ first c.args.said c.args.index _ _ c.requires c.id-id.ensures number c.in-Ok.item c.in-Err.end is
    (refl, failed.once, (c.in-Err.end, refl, failed.err c.requires.unended))

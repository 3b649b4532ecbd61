use Rattle.std.proofs.Common.{refl, ap}
use Rattle.ledger_cli.specs.Pieces.{stays}
use Rattle.ledger_cli.proofs.PieceLaws.{goes_along}
use Rattle.ledger_cli.proofs.desk.DeskTaker.offer.Goals as goal

pub returns-in-Ok-clause-does : goal.returns-in-Ok-clause-does
returns-in-Ok-clause-does g c =
    let done = c.in-Ok.ensures in (
      ap (stays _) c.look.ensures.same,
      refl,
      record { unended = done.ended; fits = done.fits; room = done.room },
      done.once,
      goes_along _ _ _ _ _ c.opened.ensures.book c.look.ensures.follows,
      done.ok,
    )

pub returns-in-Err-clause-does : goal.returns-in-Err-clause-does
returns-in-Err-clause-does g c = (refl, c.in-Err.ensures.once, (c.in-Err.end, refl, c.in-Err.ensures.err c.requires.unended))

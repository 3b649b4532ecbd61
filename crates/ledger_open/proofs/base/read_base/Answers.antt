use Rattle.std.proofs.Common.{sym, subst}
use Rattle.ledger_open.specs.Opening.{IsReadErr}
use Rattle.ledger_open.proofs.MoreLaws.{base_err, fits_base, told_inside}
use Rattle.ledger_open.proofs.base.read_base.Goals as goal

pub returns-in-Err-clause-err : goal.returns-in-Err-clause-err
returns-in-Err-clause-err g c told =
    subst (IsReadErr (g.D.Disk.state c.args.disk.now).bytes.seen) (sym c.from.ensures) (base_err (g.D.Disk.state c.args.disk.now).bytes.seen c.args.file.now c.in-Err.e (fits_base _ c.args.file.now (c.requires.head told) (told_inside _ _ _ (g.met.D.Disk.length_is c.args.disk.now told) c.requires.room)) (c.requires.head told) (c.in-Err.ensures.err told))

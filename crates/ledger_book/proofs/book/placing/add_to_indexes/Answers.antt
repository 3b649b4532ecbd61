use Rattle.std.proofs.Common.{◌<◌, ◌+◌, subst, sym}
use Rattle.std.specs.List.{AllByRecursion}
use Rattle.ledger_book.proofs.ApplyLaws.{on_ok_all}
use Rattle.ledger_book.proofs.TimeLaws.{all_below, all_kept}
use Rattle.ledger_book.proofs.book.placing.add_to_indexes.Goals as goal

pub returns-then-header-floor-2-clause-below : goal.returns-then-header-floor-2-clause-below
returns-then-header-floor-2-clause-below c =
    subst (AllByRecursion (λ m. m.jsn < c.args.jsn + 1)) (sym c.drop_below.ensures) (all_kept c.args.header.now.a c.args.jsn c.args.times.now c.requires)

pub returns-else-header-floor-2-clause-below : goal.returns-else-header-floor-2-clause-below
returns-else-header-floor-2-clause-below c =
    subst (AllByRecursion (λ m. m.jsn < c.args.jsn + 1)) (sym c.drop_below.ensures) (all_kept c.args.header.now.a c.args.jsn c.args.times.now c.requires)

pub returns-clause-below : goal.returns-clause-below
returns-clause-below c = on_ok_all c.add_clue.result (all_below c.args.jsn c.args.times.now c.requires)

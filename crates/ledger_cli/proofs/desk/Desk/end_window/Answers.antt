use Rattle.std.proofs.Common.{refl, sym, ◌∙◌}
use Rattle.ledger_cli.proofs.PieceLaws.{goes_along, window_taken, window_lacks, flush_broken}
use Rattle.ledger_cli.proofs.desk.Desk.end_window.Goals as goal

pub returns-in-Err-flush-clause-takes : goal.returns-in-Err-flush-clause-takes
returns-in-Err-flush-clause-takes g c = flush_broken _ _ _ _ _ _ _ refl c.in_default.ensures.takes.0 _ (c.in-Err-flush.ensures.err c.in_default.ensures.takes.1.unended)

pub returns-then-lacks-clause-takes : goal.returns-then-lacks-clause-takes
returns-then-lacks-clause-takes g c = window_lacks _ _ _ _ _ _ (window_taken _ _ _ _ _ _ _ refl c.in_default.ensures.takes.0 c.in_default-flush.ensures.ok (goes_along _ _ _ _ _ c.opened.ensures.book c.look.ensures.follows))

pub returns-clause-takes : goal.returns-clause-takes
returns-clause-takes g c = (
  window_taken _ _ _ _ _ _ _ refl c.in_default.ensures.takes.0 c.in_default-flush.ensures.ok (goes_along _ _ _ _ _ c.opened.ensures.book c.look.ensures.follows),
  record { unended = c.in_default-flush.ensures.ended; fits = c.in_default-flush.ensures.fits; room = c.in_default-flush.ensures.room },
  c.in_default-flush.ensures.dues,
  sym c.lacks.ensures ∙ c.if-lacks.false,
)

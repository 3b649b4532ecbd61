use Rattle.std.proofs.Common.{ap, ◌∙◌, rules}
use Rattle.intake_queue.proofs.Lists.{none_left}
use Rattle.ledger_cli.specs.declared.piece.Piece.{Piece}
use Rattle.ledger_cli.proofs.AloneLaws.{alone_takes}
use Rattle.ledger_cli.proofs.PieceLaws.{piece_taken, piece_open, piece_broken, piece_empty}
use Rattle.ledger_cli.proofs.desk.Desk.take_lines.Goals as goal

-- a line that is alone
pub returns-in-Some-clause-takes : goal.returns-in-Some-clause-takes
returns-in-Some-clause-takes g c = alone_takes _ _ _ _ _ _ _ _ c.in-Some.ensures.line c.in-Some.ensures.number _ c.take_line.ensures.takes

-- lines that aren't
pub returns-then-is_empty-clause-takes : goal.returns-then-is_empty-clause-takes
returns-then-is_empty-clause-takes g c = (piece_empty _ _ _ _ _ (none_left c.args.piece.now.lines.items (search rules)), c.requires.open)

pub returns-in-None-clause-takes : goal.returns-in-None-clause-takes
returns-in-None-clause-takes g c =
    let same = c.in_default.ensures.waits in (
      piece_taken _ _ _ _ _ _ _ _ (c.take-lines.ensures.first ∙ ap (λ (p : Piece). p.first) same) (c.take-lines.ensures.lines ∙ ap (λ (p : Piece). p.lines.items) same) c.in-None.ensures.takes,
      piece_open _ _ _ _ _ _ _ _ c.take-lines.ensures.first c.take-lines.ensures.lines c.in-None.ensures.takes,
    )

pub returns-in-Some-run-clause-takes : goal.returns-in-Some-run-clause-takes
returns-in-Some-run-clause-takes g c =
    let same = c.in_default.ensures.waits in
    piece_broken _ _ _ _ _ _ _ _ (c.take-lines.ensures.first ∙ ap (λ (p : Piece). p.first) same) (c.take-lines.ensures.lines ∙ ap (λ (p : Piece). p.lines.items) same) _ c.in-Some-run.ensures.takes

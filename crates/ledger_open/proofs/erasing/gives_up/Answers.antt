use Rattle.std.proofs.Common.{◌∙◌}
use Rattle.ledger_open.proofs.FinishLaws.{front_told, given_told}
use Rattle.ledger_open.proofs.erasing.gives_up.Goals as goal

pub returns-then-point-n : goal.returns-then-point-n
returns-then-point-n c h serves low =
    c.eq.ensures
    ∙ given_told c.args.book.now h serves c.args.n c.point.result (c.point.ensures.point h serves) c.size.result c.hider.result c.size.ensures.size (c.hider.ensures.hider h serves.stands low) c.if-point-n.true

pub returns-else-point-n : goal.returns-else-point-n
returns-else-point-n c h serves low = front_told c.args.book.now h serves c.args.n c.point.result (c.point.ensures.point h serves) c.if-point-n.false

use Rattle.ledger_cli.proofs.MergeLaws.{alone}
use Rattle.ledger_cli.proofs.laws.lines_of_one_lane_are_answered_in_order.Goals as goal

pub returns : goal.returns
returns c scheme h k lines replies first last all a = alone k lines a.steps all a.merge

use Rattle.std.proofs.Common.{arith}
use Rattle.clue_lineage.proofs.Spelled.{items_counted}
use Rattle.clue_lineage.proofs.item.Items.again.Goals as goal

pub returns-clause-few : goal.returns-clause-few
returns-clause-few c = omega (arith, items_counted c.self.inside.left c.self.inside.bytes.now c.args.self.now c.self.view_is c.self.invariant, c.self.ranges)

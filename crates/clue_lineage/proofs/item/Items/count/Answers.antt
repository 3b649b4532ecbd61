use Rattle.clue_lineage.proofs.Spelled.{items_counted}
use Rattle.clue_lineage.proofs.item.Items.count.Goals as goal

pub returns : goal.returns
returns c = items_counted c.self.inside.left c.self.inside.bytes.now c.args.self.now c.self.view_is c.self.invariant

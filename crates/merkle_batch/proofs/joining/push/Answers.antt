use Rattle.merkle_batch.proofs.Stretching.{push_pair, push_one}
use Rattle.merkle_batch.proofs.joining.push.Goals as goal

pub returns-in-Some-clause-above : goal.returns-in-Some-clause-above
returns-in-Some-clause-above g c =
    push_pair g.H.TreeHash.of c.args.row.now.nodes c.push.new.self.nodes c.args.node.0 c.push.ensures.nodes c.in-Some.left.0 c.node_of.result.0 c.in-Some.ensures.other.0 c.in-Some.ensures.other.1 c.node_of.ensures

pub returns-in-None-clause-above : goal.returns-in-None-clause-above
returns-in-None-clause-above g c = push_one g.H.TreeHash.of c.args.row.now.nodes c.push.new.self.nodes c.args.node.0 c.push.ensures.nodes c.in-None.ensures.alone

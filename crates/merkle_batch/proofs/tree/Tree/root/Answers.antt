use Rattle.std.proofs.Common.{arith, ◌-◌, ap, ◌∙◌, take_all}
use Rattle.tree_model.specs.Tree.{root}
use Rattle.merkle_batch.proofs.Keeping.{stands_size}
use Rattle.tree_model.specs.RootFrom.{root_from}
use Rattle.merkle_batch.proofs.Over.{over_size}
use Rattle.merkle_batch.proofs.tree.Tree.root.Goals as goal

pub returns-clause-list : goal.returns-clause-list
returns-clause-list g c ds stands =
    c.root_over.ensures.list ds stands
    ∙ ap (root g.H.TreeHash.of) (take_all c.self.inside.size ds (omega (arith, stands_size g.H.TreeHash.of c.args.self.now ds stands, ap (λ t. t.size) c.self.view_is)))

pub returns-clause-over : goal.returns-clause-over
returns-clause-over g c p ps xs stands =
    c.root_over.ensures.over p ps xs stands
    ∙ ap (root_from g.H.TreeHash.of ps p) (take_all (c.self.inside.size - p) xs (omega (arith, over_size g.H.TreeHash.of c.args.self.now p ps xs stands, ap (λ t. t.size) c.self.view_is)))

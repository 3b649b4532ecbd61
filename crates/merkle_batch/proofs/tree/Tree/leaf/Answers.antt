use Rattle.std.proofs.Common.{arith, ap, ◌∙◌, ◌+◌, ◌≤◌, subst, sym}
use Rattle.merkle_batch.specs.Over.{KeepsOver}
use Rattle.merkle_batch.specs.Rows.{KeepsNodes}
use Rattle.merkle_batch.proofs.Keeping.{has_nodes, stands_keeps}
use Rattle.merkle_batch.proofs.Over.{over_ones, over_floor, over_keeps}
use Rattle.merkle_batch.proofs.tree.Tree.leaf.Goals as goal

pub leaf_at-requires-clause-there : goal.leaf_at-requires-clause-there
leaf_at-requires-clause-there g c =
    rw c.deref.ensures.value (has_nodes c.self.inside.floor c.self.inside.size (c.args.n + 1) c.self.inside.rows.items (omega (arith, c.in_ok-check_leaf.ensures.within.1)) c.self.invariant.1)

pub returns-clause-leaf : goal.returns-clause-leaf
returns-clause-leaf g c ds stands =
    let hash = g.H.TreeHash.of in
    let view = c.self.view_is in
    let kept = stands_keeps hash c.args.self.now ds stands in
    c.leaf_at.ensures.list hash ds (subst (λ t. KeepsNodes hash c.self.inside.floor t ds) (sym (ap (λ t. t.rows) view) ∙ sym c.deref.ensures.value) (subst (λ p. KeepsNodes hash p c.args.self.now.rows ds) (sym (ap (λ t. t.floor) view)) kept))

pub returns-clause-over : goal.returns-clause-over
returns-clause-over g c p ps xs stands =
    let hash = g.H.TreeHash.of in
    let tree = c.args.self.now in
    let view = c.self.view_is in
    let kept = over_keeps hash tree p ps xs stands in
    let low = over_floor hash tree p ps xs stands in
    c.leaf_at.ensures.over hash p ps xs (over_ones hash tree p ps xs stands) (subst (λ f. p ≤ f) (sym (ap (λ t. t.floor) view)) low) (subst (λ f. f ≤ c.args.n) (sym (ap (λ t. t.floor) view)) c.in_ok-check_leaf.ensures.within.0)
    (subst (λ t. KeepsOver hash p c.self.inside.floor t ps xs) (sym (ap (λ t. t.rows) view) ∙ sym c.deref.ensures.value) (subst (λ f. KeepsOver hash p f tree.rows ps xs) (sym (ap (λ t. t.floor) view)) kept))

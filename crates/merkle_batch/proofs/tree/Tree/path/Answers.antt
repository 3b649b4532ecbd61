use Rattle.std.proofs.Common.{arith, ◌≡◌, ◌+◌, map, ap, ap₂, ◌∙◌, ◌++◌, length, take, subst, sym, length-take-le}
use Rattle.std.proofs.lemmas.List.{append-nil}
use Rattle.tree_model.specs.Path.{path, path_length}
use Rattle.merkle_batch.specs.Rows.{KeepsNodes}
use Rattle.merkle_batch.proofs.Keeping.{has_nodes, stands_size, stands_keeps}
use Rattle.merkle_batch.proofs.tree.Tree.path.Goals as goal

pub add_path-requires-clause-there : goal.add_path-requires-clause-there
add_path-requires-clause-there g c =
    rw c.deref.ensures.value (has_nodes c.self.inside.floor c.self.inside.size c.args.size c.self.inside.rows.items c.if-size-self.false c.self.invariant.1)

pub returns-in-Ok-clause-path : goal.returns-in-Ok-clause-path
returns-in-Ok-clause-path g c ds stands =
    let hash = g.H.TreeHash.of in
    let view = c.self.view_is in
    let len = stands_size hash c.args.self.now ds stands in
    let kept = stands_keeps hash c.args.self.now ds stands in
    let keeps = subst (λ t. KeepsNodes hash c.self.inside.floor t ds) (sym (ap (λ t. t.rows) view) ∙ sym c.deref.ensures.value) (subst (λ p. KeepsNodes hash p c.args.self.now.rows ds) (sym (ap (λ t. t.floor) view)) kept) in
    let all = append-nil (take c.args.size ds) in
    let count : length (take c.args.size ds) ≡ c.args.size = length-take-le c.args.size ds (omega (arith, len, c.if-size-self.false, ap (λ t. t.size) view)) in
    let is = c.in-Ok.ensures.list ds keeps (omega (arith, len, c.self.invariant.0, ap (λ t. t.size) view)) (omega (arith, len, c.if-size-self.false, ap (λ t. t.size) view)) (omega (arith, ap length all, count, c.in_ok-check_leaf.ensures.within.1)) in
    is ∙ ap₂ (λ a b. map (λ d. d.0) a ++ path hash c.args.n b) c.new-digests.ensures.items all

pub returns-in-Ok-clause-count : goal.returns-in-Ok-clause-count
returns-in-Ok-clause-count g c =
    let none = ap length c.new-digests.ensures.items in
    let size : c.args.size + 0 ≡ c.args.size = omega arith in
    let all = ap (path_length c.args.n) size in
    omega (arith, none, all, c.in-Ok.ensures.count (omega (arith, c.in_ok-check_leaf.ensures.within.1)))

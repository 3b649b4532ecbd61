use Rattle.std.proofs.Common.{arith, ◌≡◌, ◌≤◌, ◌-◌, length, length-take, length-drop, take, drop, ap, subst, sym, ◌∙◌}
use Rattle.merkle_batch.specs.Over.{KeepsOver}
use Rattle.merkle_batch.specs.Rows.{first_of, KeepsNodes}
use Rattle.merkle_batch.specs.Stretches.{lowest, HoldsNodes}
use Rattle.merkle_batch.proofs.Keeping.{has_nodes, stands_keeps}
use Rattle.merkle_batch.proofs.Over.{over_ones, over_floor, over_keeps}
use Rattle.merkle_batch.proofs.Copying.{lowest_from, lowest_count}
use Rattle.merkle_batch.proofs.Standing.{lowest_nodes, some_gives}
use Rattle.merkle_batch.proofs.tree.Tree.stretch.Goals as goal

pub copy_rows-requires-clause-there : goal.copy_rows-requires-clause-there
copy_rows-requires-clause-there g c =
    rw c.deref.ensures.value (has_nodes c.self.inside.floor c.self.inside.size c.args.to c.self.inside.rows.items (omega (arith, c.if-to-self.false)) c.self.invariant.1)

pub invariant_of-result : goal.invariant_of-result
invariant_of-result g c =
    let hash = g.H.TreeHash.of in
    some_gives hash _ c.self.invariant.4 (λ p ps xs ones low keeps.
    subst (λ n. HoldsNodes hash c.args.from (drop n c.copy_rows.new.copies.items)) (ap length c.new-rows.ensures.items)
    (c.in-Ok.ensures.holds hash p ps xs ones low (subst (λ t. KeepsOver hash p c.self.inside.floor t ps xs) (sym c.deref.ensures.value) keeps)))

pub returns-in-Ok-clause-leaves : goal.returns-in-Ok-clause-leaves
returns-in-Ok-clause-leaves g c ds stands =
    let hash = g.H.TreeHash.of in
    let view = c.self.view_is in
    let low : c.self.inside.floor ≤ c.args.from = omega (arith, c.in_ok-check_front.ensures.within.0, ap (λ t. t.floor) view) in
    let kept = stands_keeps hash c.args.self.now ds stands in
    let keeps = subst (λ t. KeepsNodes hash c.self.inside.floor t ds) (sym (ap (λ t. t.rows) view)) (subst (λ p. KeepsNodes hash p c.args.self.now.rows ds) (sym (ap (λ t. t.floor) view)) kept) in
    let nodes = subst (λ n. lowest (drop n c.copy_rows.new.copies.items) ≡ take (c.args.to - c.args.from) (drop (c.args.from - first_of c.self.inside.floor) (lowest c.deref.result.now))) (ap length c.new-rows.ensures.items) c.in-Ok.ensures.nodes in
    nodes ∙ ap (λ t. take (c.args.to - c.args.from) (drop (c.args.from - first_of c.self.inside.floor) (lowest t))) c.deref.ensures.value
    ∙ ap (take (c.args.to - c.args.from)) (lowest_nodes hash c.self.inside.floor c.args.from c.self.inside.rows.items ds low keeps)

pub returns-in-Ok-clause-over : goal.returns-in-Ok-clause-over
returns-in-Ok-clause-over g c p ps xs stands =
    let hash = g.H.TreeHash.of in
    let tree = c.args.self.now in
    let view = c.self.view_is in
    let low : c.self.inside.floor ≤ c.args.from = omega (arith, c.in_ok-check_front.ensures.within.0, ap (λ t. t.floor) view) in
    let fits : p ≤ c.self.inside.floor = omega (arith, over_floor hash tree p ps xs stands, ap (λ t. t.floor) view) in
    let kept = over_keeps hash tree p ps xs stands in
    let keeps = subst (λ t. KeepsOver hash p c.self.inside.floor t ps xs) (sym (ap (λ t. t.rows) view)) (subst (λ f. KeepsOver hash p f tree.rows ps xs) (sym (ap (λ t. t.floor) view)) kept) in
    let nodes = subst (λ n. lowest (drop n c.copy_rows.new.copies.items) ≡ take (c.args.to - c.args.from) (drop (c.args.from - first_of c.self.inside.floor) (lowest c.deref.result.now))) (ap length c.new-rows.ensures.items) c.in-Ok.ensures.nodes in
    nodes ∙ ap (λ t. take (c.args.to - c.args.from) (drop (c.args.from - first_of c.self.inside.floor) (lowest t))) c.deref.ensures.value
    ∙ ap (take (c.args.to - c.args.from)) (lowest_from hash p c.self.inside.floor c.args.from c.self.inside.rows.items ps xs (over_ones hash tree p ps xs stands) fits low keeps)

pub returns-in-Ok-clause-count : goal.returns-in-Ok-clause-count
returns-in-Ok-clause-count g c =
    let view = c.self.view_is in
    let low : c.self.inside.floor ≤ c.args.from = omega (arith, c.in_ok-check_front.ensures.within.0, ap (λ t. t.floor) view) in
    let nodes = subst (λ n. lowest (drop n c.copy_rows.new.copies.items) ≡ take (c.args.to - c.args.from) (drop (c.args.from - first_of c.self.inside.floor) (lowest c.deref.result.now))) (ap length c.new-rows.ensures.items) c.in-Ok.ensures.nodes in
    let count = lowest_count c.self.inside.floor c.self.inside.size c.self.inside.rows.items c.self.invariant.0 c.self.invariant.1 in
    let rest = drop (c.args.from - first_of c.self.inside.floor) (lowest c.deref.result.now) in
    omega (arith, ap length nodes, length-take (c.args.to - c.args.from) rest, length-drop (c.args.from - first_of c.self.inside.floor) (lowest c.deref.result.now), ap (λ t. length (lowest t)) c.deref.ensures.value, count, low, c.if-to-self.false, c.in_ok-check_front.ensures.within.1)

use Rattle.std.proofs.Common.{arith, ◌≤◌, ◌+◌, ◌-◌, length, ap, ◌∙◌, take, subst, sym}
use Rattle.std.proofs.lemmas.List.{append-nil}
use Rattle.merkle_batch.specs.Rows.{KeepsNodes, root_of}
use Rattle.merkle_batch.proofs.Keeping.{has_nodes, stands_size, stands_keeps}
use Rattle.merkle_batch.proofs.Climbing.{root_some, root_empty}
use Rattle.merkle_batch.specs.Over.{KeepsOver, root_over}
use Rattle.merkle_batch.proofs.Over.{over_ones, over_floor, over_size, over_keeps, over_some, over_none}
use Rattle.merkle_batch.proofs.tree.Tree.root_over.Goals as goal

pub climb-requires-clause-there : goal.climb-requires-clause-there
climb-requires-clause-there g c =
    rw c.deref.ensures.value (has_nodes c.self.inside.floor c.self.inside.size c.args.count c.self.inside.rows.items (omega (arith, c.requires.there, ap (λ t. t.size) c.self.view_is)) c.self.invariant.1)

pub returns-in-Some-clause-list : goal.returns-in-Some-clause-list
returns-in-Some-clause-list g c ds stands =
    let hash = g.H.TreeHash.of in
    let view = c.self.view_is in
    let len = stands_size hash c.args.self.now ds stands in
    let kept = stands_keeps hash c.args.self.now ds stands in
    let keeps = subst (λ t. KeepsNodes hash c.self.inside.floor t ds) (sym (ap (λ t. t.rows) view) ∙ sym c.deref.ensures.value) (subst (λ p. KeepsNodes hash p c.args.self.now.rows ds) (sym (ap (λ t. t.floor) view)) kept) in
    let is = c.in-Some.ensures.list ds keeps (omega (arith, len, c.self.invariant.0, ap (λ t. t.size) view)) (omega (arith, len, c.requires.there)) in
    root_some hash (take c.args.count ds) c.in-Some.root.0 (is ∙ ap (root_of hash) (append-nil (take c.args.count ds)))

pub returns-in-None-clause-list : goal.returns-in-None-clause-list
returns-in-None-clause-list g c ds stands =
    let hash = g.H.TreeHash.of in
    let view = c.self.view_is in
    let len = stands_size hash c.args.self.now ds stands in
    let kept = stands_keeps hash c.args.self.now ds stands in
    let keeps = subst (λ t. KeepsNodes hash c.self.inside.floor t ds) (sym (ap (λ t. t.rows) view) ∙ sym c.deref.ensures.value) (subst (λ p. KeepsNodes hash p c.args.self.now.rows ds) (sym (ap (λ t. t.floor) view)) kept) in
    let is = c.in-None.ensures.list ds keeps (omega (arith, len, c.self.invariant.0, ap (λ t. t.size) view)) (omega (arith, len, c.requires.there)) in
    root_empty hash (take c.args.count ds) c.empty.result.0 (is ∙ ap (root_of hash) (append-nil (take c.args.count ds))) c.empty.ensures

pub returns-in-Some-clause-over : goal.returns-in-Some-clause-over
returns-in-Some-clause-over g c p ps xs stands =
    let hash = g.H.TreeHash.of in
    let view = c.self.view_is in
    let ones = over_ones hash c.args.self.now p ps xs stands in
    let low : p ≤ c.self.inside.floor = omega (arith, over_floor hash c.args.self.now p ps xs stands, ap (λ t. t.floor) view) in
    let within : c.args.count ≤ p + length xs = omega (arith, over_size hash c.args.self.now p ps xs stands, c.requires.there) in
    let kept = over_keeps hash c.args.self.now p ps xs stands in
    let keeps = subst (λ t. KeepsOver hash p c.self.inside.floor t ps xs) (sym (ap (λ t. t.rows) view) ∙ sym c.deref.ensures.value) (subst (λ f. KeepsOver hash p f c.args.self.now.rows ps xs) (sym (ap (λ t. t.floor) view)) kept) in
    let is = c.in-Some.ensures.over p ps xs ones low within keeps in
    over_some hash ps p (take (c.args.count - p) xs) c.in-Some.root.0 ones (is ∙ ap (root_over hash ps p) (append-nil (take (c.args.count - p) xs)))

pub returns-in-None-clause-over : goal.returns-in-None-clause-over
returns-in-None-clause-over g c p ps xs stands =
    let hash = g.H.TreeHash.of in
    let view = c.self.view_is in
    let ones = over_ones hash c.args.self.now p ps xs stands in
    let low : p ≤ c.self.inside.floor = omega (arith, over_floor hash c.args.self.now p ps xs stands, ap (λ t. t.floor) view) in
    let within : c.args.count ≤ p + length xs = omega (arith, over_size hash c.args.self.now p ps xs stands, c.requires.there) in
    let kept = over_keeps hash c.args.self.now p ps xs stands in
    let keeps = subst (λ t. KeepsOver hash p c.self.inside.floor t ps xs) (sym (ap (λ t. t.rows) view) ∙ sym c.deref.ensures.value) (subst (λ f. KeepsOver hash p f c.args.self.now.rows ps xs) (sym (ap (λ t. t.floor) view)) kept) in
    let is = c.in-None.ensures.over p ps xs ones low within keeps in
    over_none hash ps p (take (c.args.count - p) xs) c.empty.result.0 ones (is ∙ ap (root_over hash ps p) (append-nil (take (c.args.count - p) xs))) c.empty.ensures

use Rattle.std.proofs.Common.{arith, length, map, ap, ◌∙◌, ◌++◌, take, subst, sym}
use Rattle.tree_model.specs.Peaks.{peaks}
use Rattle.merkle_batch.specs.Rows.{KeepsNodes}
use Rattle.merkle_batch.proofs.Keeping.{has_nodes, stands_size, stands_keeps}
use Rattle.merkle_batch.proofs.tree.Tree.peaks_at.Goals as goal

pub add_peaks-requires-clause-there : goal.add_peaks-requires-clause-there
add_peaks-requires-clause-there g c =
    rw c.deref.ensures.value (has_nodes c.self.inside.floor c.self.inside.size c.args.m c.self.inside.rows.items c.in_ok-check_front.ensures.within.1 c.self.invariant.1)

pub returns-in-Ok-clause-peaks : goal.returns-in-Ok-clause-peaks
returns-in-Ok-clause-peaks g c ds stands =
    let hash = g.H.TreeHash.of in
    let view = c.self.view_is in
    let len = stands_size hash c.args.self.now ds stands in
    let kept = stands_keeps hash c.args.self.now ds stands in
    let keeps = subst (λ t. KeepsNodes hash c.self.inside.floor t ds) (sym (ap (λ t. t.rows) view) ∙ sym c.deref.ensures.value) (subst (λ p. KeepsNodes hash p c.args.self.now.rows ds) (sym (ap (λ t. t.floor) view)) kept) in
    let is = c.in-Ok.ensures.list hash ds keeps (omega (arith, len, c.self.invariant.0, ap (λ t. t.size) view)) (omega (arith, len, c.in_ok-check_front.ensures.within.1, ap (λ t. t.size) view)) in
    is ∙ ap (λ a. map (λ d. d.0) a ++ peaks hash (take c.args.m ds)) c.new-digests.ensures.items

pub returns-in-Ok-clause-count : goal.returns-in-Ok-clause-count
returns-in-Ok-clause-count g c = omega (arith, ap length c.new-digests.ensures.items, c.in-Ok.ensures.count)

use Rattle.std.proofs.Common.{arith, ◌≡◌, ◌+◌, map, ap, ap₂, ◌∙◌, ◌++◌, length, take, subst, sym, length-take-le}
use Rattle.std.proofs.lemmas.List.{append-nil}
use Rattle.tree_model.specs.Extension.{proof, proof_length}
use Rattle.merkle_batch.specs.Rows.{KeepsNodes}
use Rattle.merkle_batch.proofs.Keeping.{has_nodes, stands_size, stands_keeps}
use Rattle.merkle_batch.proofs.Counting.{all_count}
use Rattle.merkle_batch.proofs.tree.Tree.proof.Goals as goal

pub add_proof-requires-clause-there : goal.add_proof-requires-clause-there
add_proof-requires-clause-there g c =
    rw c.deref.ensures.value (has_nodes c.self.inside.floor c.self.inside.size c.args.size c.self.inside.rows.items c.if-size-self.false c.self.invariant.1)

pub returns-in-Ok-clause-proof : goal.returns-in-Ok-clause-proof
returns-in-Ok-clause-proof g c ds stands less =
    let hash = g.H.TreeHash.of in
    let view = c.self.view_is in
    let len = stands_size hash c.args.self.now ds stands in
    let kept = stands_keeps hash c.args.self.now ds stands in
    let keeps = subst (λ t. KeepsNodes hash c.self.inside.floor t ds) (sym (ap (λ t. t.rows) view) ∙ sym c.deref.ensures.value) (subst (λ p. KeepsNodes hash p c.args.self.now.rows ds) (sym (ap (λ t. t.floor) view)) kept) in
    let all = append-nil (take c.args.size ds) in
    let count : length (take c.args.size ds) ≡ c.args.size = length-take-le c.args.size ds (omega (arith, len, c.if-size-self.false, ap (λ t. t.size) view)) in
    let is = c.in-Ok.ensures.list ds keeps (omega (arith, len, c.self.invariant.0, ap (λ t. t.size) view)) (omega (arith, len, c.if-size-self.false, ap (λ t. t.size) view)) (omega (arith, ap length all, count, less)) in
    is ∙ ap₂ (λ a b. map (λ d. d.0) a ++ proof hash c.args.m b) c.new-digests.ensures.items all

pub returns-in-Ok-clause-count : goal.returns-in-Ok-clause-count
returns-in-Ok-clause-count g c =
    let none = ap length c.new-digests.ensures.items in
    let size : c.args.size + 0 ≡ c.args.size = omega arith in
    let all = ap (proof_length c.args.m) size in
    omega (arith, none, all, c.in-Ok.ensures.count (omega (arith, c.in_ok-check_front.ensures.within.1, c.if-m-size.false)))

pub returns-then-m-size-clause-count : goal.returns-then-m-size-clause-count
returns-then-m-size-clause-count g c =
    let none = ap length c.new-digests.ensures.items in
    let few = all_count c.args.m c.args.size c.if-m-size.true (omega (arith, c.if-m-eq0.false)) in
    omega (arith, none, few)

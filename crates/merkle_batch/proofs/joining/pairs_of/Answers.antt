use Rattle.std.proofs.Common.{arith, ap, sym, ◌∙◌, ◌++◌, ◌∷◌, [], length, length-append}
use Rattle.merkle_batch.proofs.Copying.{pairs_none, pairs_step, pairs_whole}
use Rattle.merkle_batch.proofs.joining.pairs_of.Goals as goal

pub loop-k-init : goal.loop-k-init
loop-k-init g c =
    let none = c.in_ok-reserve.ensures.nodes ∙ c.new-above.ensures in
    (none ∙ sym (pairs_none g.H.TreeHash.of), omega (arith, ap length none), omega (arith, c.in_ok-reserve.ensures.ok, ap length none))

pub loop-k-preserved : goal.loop-k-preserved
loop-k-preserved g c = (
  c.push.ensures.nodes ∙ ap (λ t. t ++ c.node_of.result.0 ∷ []) c.loop-k.invariant.0
      ∙ pairs_step g.H.TreeHash.of (λ d. d.0) c.args.nodes.now c.loop-k.k _ _ c.node_of.result.0 (omega (arith, c.loop-k-test.true)) c.node_of.ensures,
  omega (arith, ap length c.push.ensures.nodes, length-append c.loop-k.above.nodes (c.node_of.result.0 ∷ []), c.loop-k.invariant.1),
  omega (arith, c.push.ensures.room, c.loop-k.invariant.2),
)

pub returns : goal.returns
returns g c = c.loop-k.invariant.0 ∙ pairs_whole g.H.TreeHash.of (λ d. d.0) c.args.nodes.now c.loop-k.k (omega (arith, c.loop-k-test.false, c.loop-k.auto.k-end))

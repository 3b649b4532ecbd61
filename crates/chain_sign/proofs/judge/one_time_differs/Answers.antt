use Rattle.std.proofs.Common.{ap, ◌∙◌}
use Rattle.tree_model.specs.Tree.{cut}
use Rattle.chain_sign.specs.Chain.{values_at}
use Rattle.std.specs.Option.{option_or}
use Rattle.chain_sign.specs.Steps.{chains_clash}
use Rattle.chain_sign.proofs.Leafs.{below_some, below_on}
use Rattle.chain_sign.proofs.judge.one_time_differs.Goals as goal

pub returns-in-Some : goal.returns-in-Some
returns-in-Some g c = below_some c.leaf_bytes.result c.leaf_bytes-2.result c.args.told.now.0 c.args.truth.now.0 _ c.leaf_bytes.ensures c.leaf_bytes-2.ensures _ c.in-Some.ensures

pub returns-in-Some-ends_differ : goal.returns-in-Some-ends_differ
returns-in-Some-ends_differ g c =
    let h = g.H.TreeHash.of in
    below_on c.leaf_bytes.result c.leaf_bytes-2.result c.args.told.now.0 c.args.truth.now.0 _ c.leaf_bytes.ensures c.leaf_bytes-2.ensures _ c.in_default.ensures (ap (λ x. option_or x (chains_clash h 0 c.args.digits.now (cut 32 c.args.values.now) (values_at h 0 c.args.digits.now (cut 32 c.args.secrets.now)))) c.in-Some-ends_differ.ensures)

pub returns : goal.returns
returns g c =
    let h = g.H.TreeHash.of in
    below_on c.leaf_bytes.result c.leaf_bytes-2.result c.args.told.now.0 c.args.truth.now.0 _ c.leaf_bytes.ensures c.leaf_bytes-2.ensures _ c.in_default.ensures (c.chains_differ.ensures ∙ ap (λ x. option_or x (chains_clash h 0 c.args.digits.now (cut 32 c.args.values.now) (values_at h 0 c.args.digits.now (cut 32 c.args.secrets.now)))) c.in_default-ends_differ.ensures)

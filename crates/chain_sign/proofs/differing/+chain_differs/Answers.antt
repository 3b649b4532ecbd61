use Rattle.std.proofs.Common.{None, ap, ◌∙◌, arith}
use Rattle.tree_model.specs.Clash.{or_below}
use Rattle.std.specs.Option.{option_or}
use Rattle.chain_sign.proofs.Apart.{chain_end, chain_on}
use Rattle.chain_sign.proofs.differing.+chain_differs.Goals as goal

pub returns-then-place-eq-STEPS : goal.returns-then-place-eq-STEPS
returns-then-place-eq-STEPS g t c = chain_end g.H.TreeHash.of c.args.chain c.args.place c.args.told.now.0 c.args.truth.now.0 (omega arith)

pub returns-in-Some : goal.returns-in-Some
returns-in-Some g t c =
    chain_on g.H.TreeHash.of c.args.chain c.args.place c.args.told.now.0 c.args.truth.now.0 c.step_bytes-told.result c.step_bytes-truth.result c.digest.result.0 c.digest-2.result.0 _ (omega (arith, c.if-place-eq-STEPS.false))
    c.step_bytes-told.ensures c.step_bytes-truth.ensures c.digest.ensures c.digest-2.ensures
    (ap (λ x. option_or x (or_below c.step_bytes-told.result c.step_bytes-truth.result None)) c.in-Some.ensures)

pub returns-in-None : goal.returns-in-None
returns-in-None g t c =
    chain_on g.H.TreeHash.of c.args.chain c.args.place c.args.told.now.0 c.args.truth.now.0 c.step_bytes-told.result c.step_bytes-truth.result c.digest.result.0 c.digest-2.result.0 _ (omega (arith, c.if-place-eq-STEPS.false))
    c.step_bytes-told.ensures c.step_bytes-truth.ensures c.digest.ensures c.digest-2.ensures
    (c.strings_differ.ensures ∙ ap (λ x. option_or x (or_below c.step_bytes-told.result c.step_bytes-truth.result None)) c.in-None.ensures)

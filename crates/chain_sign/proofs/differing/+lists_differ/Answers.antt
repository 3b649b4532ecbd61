use Rattle.std.proofs.Common.{◌<◌, length, ap, ◌∙◌, rules}
use Rattle.tree_model.specs.Tree.{cut}
use Rattle.std.specs.Option.{option_or}
use Rattle.chain_sign.specs.Lists.{lists_clash}
use Rattle.chain_sign.proofs.Apart.{lists_one, lists_here, lists_below, same_parts}
use Rattle.chain_sign.proofs.differing.+lists_differ.Goals as goal

pub returns-then-told-eq32 : goal.returns-then-told-eq32
returns-then-told-eq32 g t c =
    lists_one g.H.TreeHash.of c.args.told.now c.args.truth.now c.if-told-eq32.true c.requires.same _ c.leaf_bytes.result c.leaf_bytes-then-told-eq32.result c.leaf_bytes.ensures c.leaf_bytes-then-told-eq32.ensures c.strings_differ.ensures

pub returns-in-Some : goal.returns-in-Some
returns-in-Some g t c =
    lists_here g.H.TreeHash.of c.args.told.now c.args.truth.now c.halves.result.0 c.halves-2.result.0 c.halves.ensures.split c.halves-2.ensures.split c.requires.same c.halves.result.1.now c.halves.result.2.now c.halves-2.result.1.now c.halves-2.result.2.now c.mth-told_left.result.0 c.mth-told_right.result.0 c.mth-left.result.0 c.mth-right.result.0
    c.halves.ensures.front c.halves.ensures.back c.halves-2.ensures.front c.halves-2.ensures.back c.mth-told_left.ensures c.mth-told_right.ensures c.mth-left.ensures c.mth-right.ensures
    _ c.in-Some.ensures

pub returns-in-Some-lists_differ : goal.returns-in-Some-lists_differ
returns-in-Some-lists_differ g t c =
    lists_below g.H.TreeHash.of c.args.told.now c.args.truth.now c.halves.result.0 c.halves-2.result.0 c.halves.ensures.split c.halves-2.ensures.split c.requires.same c.halves.result.1.now c.halves.result.2.now c.halves-2.result.1.now c.halves-2.result.2.now c.mth-told_left.result.0 c.mth-told_right.result.0 c.mth-left.result.0 c.mth-right.result.0
    c.halves.ensures.front c.halves.ensures.back c.halves-2.ensures.front c.halves-2.ensures.back c.mth-told_left.ensures c.mth-told_right.ensures c.mth-left.ensures c.mth-right.ensures
    _ c.in_default.ensures (ap (λ x. option_or x (lists_clash g.H.TreeHash.of (cut 32 c.halves.result.2.now) (cut 32 c.halves-2.result.2.now))) c.in-Some-lists_differ.ensures)

pub returns-in-None : goal.returns-in-None
returns-in-None g t c =
    lists_below g.H.TreeHash.of c.args.told.now c.args.truth.now c.halves.result.0 c.halves-2.result.0 c.halves.ensures.split c.halves-2.ensures.split c.requires.same c.halves.result.1.now c.halves.result.2.now c.halves-2.result.1.now c.halves-2.result.2.now c.mth-told_left.result.0 c.mth-told_right.result.0 c.mth-left.result.0 c.mth-right.result.0
    c.halves.ensures.front c.halves.ensures.back c.halves-2.ensures.front c.halves-2.ensures.back c.mth-told_left.ensures c.mth-told_right.ensures c.mth-left.ensures c.mth-right.ensures
    _ c.in_default.ensures
    (c.lists_differ-in-None.ensures ∙ ap (λ x. option_or x (lists_clash g.H.TreeHash.of (cut 32 c.halves.result.2.now) (cut 32 c.halves-2.result.2.now))) c.in-None.ensures)

pub lists_differ-requires : goal.lists_differ-requires
lists_differ-requires g t c κs within =
    let p = same_parts c.args.told.now c.args.truth.now c.halves.result.1.now c.halves.result.2.now c.halves-2.result.1.now c.halves-2.result.2.now c.halves.result.0 c.halves-2.result.0 c.halves.ensures.split c.halves-2.ensures.split c.requires.same c.halves.ensures.front c.halves.ensures.back c.halves-2.ensures.front c.halves-2.ensures.back in
    let fewer : length c.halves.result.1.now < length c.args.told.now = c.halves.ensures.front.fewer in
    (search rules, (search rules, (c.halves.ensures.front.whole, (p.0, p.1))))

pub lists_differ-requires-in-None : goal.lists_differ-requires-in-None
lists_differ-requires-in-None g t c κs within =
    let p = same_parts c.args.told.now c.args.truth.now c.halves.result.1.now c.halves.result.2.now c.halves-2.result.1.now c.halves-2.result.2.now c.halves.result.0 c.halves-2.result.0 c.halves.ensures.split c.halves-2.ensures.split c.requires.same c.halves.ensures.front c.halves.ensures.back c.halves-2.ensures.front c.halves-2.ensures.back in
    let fewer : length c.halves.result.2.now < length c.args.told.now = c.halves.ensures.back.fewer in
    (search rules, (search rules, (c.halves.ensures.back.whole, (p.2, p.3))))

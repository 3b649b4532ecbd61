use Rattle.std.proofs.Common.{rules, ap, ◌∙◌}
use Rattle.tree_model.specs.Tree.{node}
use Rattle.merkle_batch.proofs.Placing.{no_level, level_room, go_above, stay_keeps, stay_room, go_below, go_keeps, go_room, stay_counts, go_counts}
use Rattle.merkle_batch.proofs.Over.{put_stay, put_go}
use Rattle.merkle_batch.proofs.rows.+add.Goals as goal

pub unreachable-requires : goal.unreachable-requires
unreachable-requires g t c = no_level c.args.rows.now c.args.level c.if-level-rows.true c.requires

pub push-requires : goal.push-requires
push-requires g t c = level_room c.args.rows.now c.args.level c.if-level-rows.false c.index-rows-level.result c.requires

pub add-requires : goal.add-requires
add-requires g t c κs within =
    let above = go_above c.args.rows.now c.args.level c.if-level-rows.false c.index-rows-level.result c.push.new.self c.args.digest.0 c.push.ensures.nodes c.push.ensures.room c.in-Some.ensures.other.0 c.requires in
    search (above, rules)

pub returns-in-Some-clause-below : goal.returns-in-Some-clause-below
returns-in-Some-clause-below g t c =
    go_below c.args.rows.now c.args.level c.if-level-rows.false c.index-rows-level.result c.push.new.self c.args.digest.0 c.push.ensures.nodes c.push.ensures.room c.add.new.rows c.add.ensures.below

pub returns-in-Some-clause-keeps : goal.returns-in-Some-clause-keeps
returns-in-Some-clause-keeps g t c =
    go_keeps c.args.rows.now c.args.level c.if-level-rows.false c.index-rows-level.result c.push.new.self c.args.digest.0 c.push.ensures.nodes c.push.ensures.room c.add.new.rows c.add.ensures.below
    g.H.TreeHash.of c.node_of-node.result.0 c.in-Some.ensures.other.0 (c.node_of-node.ensures ∙ ap (λ t. node g.H.TreeHash.of t c.args.digest.0) c.in-Some.ensures.other.1) c.add.ensures.keeps

pub returns-in-Some-clause-room : goal.returns-in-Some-clause-room
returns-in-Some-clause-room g t c =
    go_room c.args.rows.now c.args.level c.if-level-rows.false c.index-rows-level.result c.push.new.self c.args.digest.0 c.push.ensures.nodes c.push.ensures.room c.add.new.rows c.add.ensures.below
    c.in-Some.ensures.other.0 c.add.ensures.room

pub returns-in_default-clause-keeps : goal.returns-in_default-clause-keeps
returns-in_default-clause-keeps g t c =
    stay_keeps c.args.rows.now c.args.level c.if-level-rows.false c.index-rows-level.result c.push.new.self c.args.digest.0 c.push.ensures.nodes c.push.ensures.room g.H.TreeHash.of c.in_default.ensures.alone

pub returns-in_default-clause-room : goal.returns-in_default-clause-room
returns-in_default-clause-room g t c =
    stay_room c.args.rows.now c.args.level c.if-level-rows.false c.index-rows-level.result c.push.new.self c.args.digest.0 c.push.ensures.nodes c.push.ensures.room c.in_default.ensures.alone

pub returns-in-Some-clause-counts : goal.returns-in-Some-clause-counts
returns-in-Some-clause-counts g t c =
    go_counts c.args.rows.now c.args.level c.if-level-rows.false c.index-rows-level.result c.push.new.self c.args.digest.0 c.push.ensures.nodes c.push.ensures.room c.add.new.rows c.add.ensures.below
    c.in-Some.ensures.other.0 c.add.ensures.counts

pub returns-in_default-clause-counts : goal.returns-in_default-clause-counts
returns-in_default-clause-counts g t c =
    stay_counts c.args.rows.now c.args.level c.if-level-rows.false c.index-rows-level.result c.push.new.self c.args.digest.0 c.push.ensures.nodes c.push.ensures.room c.in_default.ensures.alone

pub returns-in-Some-clause-over : goal.returns-in-Some-clause-over
returns-in-Some-clause-over g t c =
    put_go c.args.rows.now c.args.level c.if-level-rows.false c.index-rows-level.result c.push.new.self c.args.digest.0 c.push.ensures.nodes c.add.new.rows c.add.ensures.below
    g.H.TreeHash.of c.node_of-node.result.0 c.in-Some.ensures.other.0 (c.node_of-node.ensures ∙ ap (λ t. node g.H.TreeHash.of t c.args.digest.0) c.in-Some.ensures.other.1) c.add.ensures.over

pub returns-in_default-clause-over : goal.returns-in_default-clause-over
returns-in_default-clause-over g t c =
    put_stay c.args.rows.now c.args.level c.if-level-rows.false c.index-rows-level.result c.push.new.self c.args.digest.0 c.push.ensures.nodes g.H.TreeHash.of c.in_default.ensures.alone

use Rattle.std.proofs.Common.{arith, rules, ◌/◌, ◌≤◌, ◌<◌, ◌^◌}
use Rattle.merkle_batch.proofs.Forgetting.{forgot_none, forget_within, forget_room, forget_above, forget_room_above, forget_below, forget_both, forget_room_both}
use Rattle.merkle_batch.proofs.rows.+forget.Goals as goal

pub forget-above-requires : goal.forget-above-requires
forget-above-requires t c =
    let within = forget_within c.args.p c.args.to c.args.level c.args.rows.now c.if-level-rows.true c.index-rows-level.result c.requires.higher c.requires.there in
    let room = forget_room c.args.p c.args.to c.args.level c.args.rows.now c.if-level-rows.true c.index-rows-level.result c.args.more c.requires.room in
    search (within, room, rules)

pub forget-requires : goal.forget-requires
forget-requires t c =
    let within = forget_within c.args.p c.args.to c.args.level c.args.rows.now c.if-level-rows.true c.index-rows-level.result c.requires.higher c.requires.there in
    let above = forget_above c.args.p c.args.to c.args.level c.args.rows.now c.if-level-rows.true c.index-rows-level.result c.forget-above.new.self c.forget-above.ensures.nodes c.requires.there in
    let room = forget_room_above c.args.p c.args.to c.args.level c.args.rows.now c.if-level-rows.true c.index-rows-level.result c.forget-above.new.self c.forget-above.ensures.nodes c.args.more c.forget-above.result within c.forget-above.ensures.above c.requires.room in
    let higher : c.args.p / 2 ≤ c.args.to / 2 = omega (arith, c.requires.higher) in
    let small : c.forget-above.result < 2 ^ 63 = omega (arith, c.forget-above.ensures.above, c.requires.small) in
    search (above, room, higher, small, rules)

pub returns-then-level-rows-clause-below : goal.returns-then-level-rows-clause-below
returns-then-level-rows-clause-below t c =
    forget_below c.args.p c.args.to c.args.level c.args.rows.now c.if-level-rows.true c.index-rows-level.result c.forget-above.new.self c.forget-above.ensures.nodes c.forget.new.rows c.forget.ensures.below

pub returns-then-level-rows-clause-forgot : goal.returns-then-level-rows-clause-forgot
returns-then-level-rows-clause-forgot t c =
    forget_both c.args.p c.args.to c.args.level c.args.rows.now c.if-level-rows.true c.index-rows-level.result c.forget-above.new.self c.forget-above.ensures.nodes c.forget.new.rows c.forget.ensures.below
    c.forget.ensures.forgot

pub returns-then-level-rows-clause-room : goal.returns-then-level-rows-clause-room
returns-then-level-rows-clause-room t c =
    forget_room_both c.args.p c.args.to c.args.level c.args.rows.now c.if-level-rows.true c.index-rows-level.result c.forget-above.new.self c.forget-above.ensures.nodes c.forget.new.rows c.forget.ensures.below
    c.args.more c.forget-above.result c.forget-above.ensures.room c.forget-above.ensures.above c.forget.ensures.room

pub returns-else-level-rows-clause-forgot : goal.returns-else-level-rows-clause-forgot
returns-else-level-rows-clause-forgot t c = forgot_none c.args.p c.args.to c.args.level c.args.rows.now c.if-level-rows.false

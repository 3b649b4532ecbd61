use Rattle.std.proofs.Common.{arith, rules, ◌≡◌, ◌+◌, ◌-◌, ◌%◌, ◌/◌, ◌<◌, ◌≤◌, ◌^◌, length, set, drop, ap, ◌∙◌}
use Rattle.merkle_batch.proofs.Climbing.{on_ok}
use Rattle.merkle_batch.proofs.Growing.{grown_same, set_grown, after_grown, after_below, after_room, room_up, nil_first, less_left}
use Rattle.std.proofs.lemmas.List.{length-set}
use Rattle.merkle_batch.proofs.rows.+reserve.Goals as goal

pub returns-then-more-eq0-clause-keeps : goal.returns-then-more-eq0-clause-keeps
returns-then-more-eq0-clause-keeps t c = grown_same (drop c.args.level c.args.rows.now.items)

pub returns-in_err-above-clause-keeps : goal.returns-in_err-above-clause-keeps
returns-in_err-above-clause-keeps t c =
    set_grown c.args.rows.now.items c.extend.new.rows.items c.extend.new.rows.items c.args.level c.in_ok-extend.ensures.ok c.index_mut.result.now c.reserve.new.self c.in_ok-extend.ensures.keeps
    (c.reserve.ensures.nodes ∙ ap (λ r. r.nodes) c.index_mut.ensures.value) (omega (arith, c.reserve.ensures.grows, ap (λ r. r.room) c.index_mut.ensures.value))

pub reserve-requires-2 : goal.reserve-requires-2
reserve-requires-2 t c =
    let at = c.index_mut.ensures.value in
    let nodes = c.reserve.ensures.nodes ∙ ap (λ r. r.nodes) at in
    let room = room_up c.args.rows.now.items c.extend.new.rows.items c.extend.new.rows.items c.args.level c.in_ok-extend.ensures.ok c.index_mut.result.now c.reserve.new.self c.in_ok-extend.ensures.keeps
    nodes (omega (arith, c.reserve.ensures.grows, ap (λ r. r.room) at)) c.requires.room in
    let same : length (set c.extend.new.rows.items c.args.level c.reserve.new.self) ≡ length c.extend.new.rows.items = length-set c.extend.new.rows.items c.args.level c.reserve.new.self in
    let falls : (length (set c.extend.new.rows.items c.args.level c.reserve.new.self) - (c.args.level + 1)) + c.in_ok-above.above < (length c.args.rows.now.items - c.args.level) + c.args.more =
    less_left (length c.args.rows.now.items) (length (set c.extend.new.rows.items c.args.level c.reserve.new.self)) c.args.level (length c.index_mut.result.now.nodes) c.args.more c.in_ok-above.above
    c.requires.level (same ∙ c.in_ok-extend.ensures.len)
    (λ end. ap (λ r. length r.nodes) at ∙ nil_first c.extend.new.rows.items c.args.level c.index_mut.result.now c.in_ok-extend.ensures.ok (c.in_ok-extend.ensures.empty end))
    c.in_ok-above.ensures.above c.if-more-eq0.false in
    let high : c.args.level + 1 ≤ length (set c.extend.new.rows.items c.args.level c.reserve.new.self) = omega (arith, same, c.in_ok-extend.ensures.ok) in
    let small : c.in_ok-above.above < 2 ^ 63 = omega (arith, c.in_ok-above.ensures.above, c.requires.small) in
    search (room, falls, high, small, rules)

pub returns-clause-below : goal.returns-clause-below
returns-clause-below t c =
    let at = c.index_mut.ensures.value in
    after_below c.args.rows.now.items c.extend.new.rows.items c.reserve-2.new.rows.items c.args.level c.in_ok-extend.ensures.ok c.index_mut.result.now c.reserve.new.self c.in_ok-extend.ensures.keeps
    (c.reserve.ensures.nodes ∙ ap (λ r. r.nodes) at) (omega (arith, c.reserve.ensures.grows, ap (λ r. r.room) at)) c.reserve-2.ensures.below c.reserve-2.ensures.keeps c.in_ok-extend.ensures.below

pub returns-clause-keeps : goal.returns-clause-keeps
returns-clause-keeps t c =
    let at = c.index_mut.ensures.value in
    after_grown c.args.rows.now.items c.extend.new.rows.items c.reserve-2.new.rows.items c.args.level c.in_ok-extend.ensures.ok c.index_mut.result.now c.reserve.new.self c.in_ok-extend.ensures.keeps
    (c.reserve.ensures.nodes ∙ ap (λ r. r.nodes) at) (omega (arith, c.reserve.ensures.grows, ap (λ r. r.room) at)) c.reserve-2.ensures.below c.reserve-2.ensures.keeps

pub returns-clause-ok : goal.returns-clause-ok
returns-clause-ok t c =
    let at = c.index_mut.ensures.value in
    on_ok c.reserve-2.result (λ there.
    after_room c.args.rows.now.items c.extend.new.rows.items c.reserve-2.new.rows.items c.args.level c.in_ok-extend.ensures.ok c.index_mut.result.now c.reserve.new.self c.in_ok-extend.ensures.keeps
    (c.reserve.ensures.nodes ∙ ap (λ r. r.nodes) at) (omega (arith, c.reserve.ensures.grows, ap (λ r. r.room) at)) c.reserve-2.ensures.below c.reserve-2.ensures.keeps
    c.args.more c.in_ok-above.above (c.in_ok-above.ensures.above ∙ ap (λ r. (length r.nodes % 2 + c.args.more) / 2) at) c.in_ok-above.ensures.ok there) c.reserve-2.ensures.ok

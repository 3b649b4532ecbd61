use Rattle.std.proofs.Common.{arith, rules, ◌≡◌, ℕ, ◌+◌, ◌/◌, ◌%◌, ◌++◌, length, drop, map, set, get_or, option_map, ap, sym, subst, refl}
use Rattle.std.proofs.lemmas.List.{length-map}
use Rattle.tree_model.specs.Halves.{edge}
use Rattle.merkle_batch.specs.Over.{KeepsOver}
use Rattle.merkle_batch.specs.Rows.{HasCounted, HasRoom}
use Rattle.merkle_batch.specs.Stretches.{lowest}
use Rattle.merkle_batch.proofs.Climbing.{above}
use Rattle.merkle_batch.proofs.Placing.{below_set}
use Rattle.merkle_batch.proofs.Stretching.{edge_few, none_behind, lowest_first, lowest_none, holds_above, level_nodes, level_up, level_len, level_count, level_low, room_none_there, count_here, count_above, room_here, room_over, place_up, rows_above, room_left, over_added}
use Rattle.merkle_batch.proofs.joining.+add_rows.Goals as goal

pub add_seam-requires : goal.add_seam-requires
add_seam-requires g t c =
    let seam = length (edge (option_map (λ d. d.0) c.args.seam)) in
    let none : seam + length (lowest c.args.stretch.now) ≡ seam = omega (arith, lowest_none c.args.stretch.now c.in-empty.len_below) in
    subst (λ n. HasRoom n (drop c.args.level c.args.rows.now)) none c.requires.room

pub add_seam-requires-then-len-eq0 : goal.add_seam-requires-then-len-eq0
add_seam-requires-then-len-eq0 g t c =
    let seam = length (edge (option_map (λ d. d.0) c.args.seam)) in
    let first = lowest_first c.args.stretch.now c.row-item.result c.in-len1-up.len_at_least c.row-item.is in
    let none : seam + length (lowest c.args.stretch.now) ≡ seam = omega (arith, ap length first, c.len.ensures, c.if-len-eq0.true) in
    subst (λ n. HasRoom n (drop c.args.level c.args.rows.now)) none c.requires.room

pub returns-then-len-eq0-clause-over : goal.returns-then-len-eq0-clause-over
returns-then-len-eq0-clause-over g t c p floor ps xs ones le fits keeps =
    let seam = edge (option_map (λ d. d.0) c.args.seam) in
    let first = lowest_first c.args.stretch.now c.row-item.result c.in-len1-up.len_at_least c.row-item.is in
    subst (λ t. KeepsOver g.H.TreeHash.of p floor (drop c.args.level c.add_seam-then-len-eq0.new.rows) ps (xs ++ t)) (sym (none_behind seam (lowest c.args.stretch.now) (omega (arith, ap length first, c.len.ensures, c.if-len-eq0.true))))
    (c.add_seam-then-len-eq0.ensures.over p floor ps xs ones le fits keeps)

pub returns-then-len-eq0-clause-room : goal.returns-then-len-eq0-clause-room
returns-then-len-eq0-clause-room g t c more room =
    let seam = length (edge (option_map (λ d. d.0) c.args.seam)) in
    let first = lowest_first c.args.stretch.now c.row-item.result c.in-len1-up.len_at_least c.row-item.is in
    let none : seam + length (lowest c.args.stretch.now) + more ≡ seam + more = omega (arith, ap length first, c.len.ensures, c.if-len-eq0.true) in
    c.add_seam-then-len-eq0.ensures.room more (subst (λ n. HasRoom n (drop c.args.level c.args.rows.now)) none room)

pub unreachable-requires : goal.unreachable-requires
unreachable-requires g t c =
    let first = lowest_first c.args.stretch.now c.row-item.result c.in-len1-up.len_at_least c.row-item.is in
    omega (arith, room_none_there (length (edge (option_map (λ d. d.0) c.args.seam)) + length (lowest c.args.stretch.now)) c.args.rows.now c.args.level c.if-level-rows.true c.requires.room, ap length first, c.len.ensures, c.if-len-eq0.false)

pub extend-joined-requires-clause-room : goal.extend-joined-requires-clause-room
extend-joined-requires-clause-room g t c =
    let first = lowest_first c.args.stretch.now c.row-item.result c.in-len1-up.len_at_least c.row-item.is in
    omega (arith, room_here c.args.rows.now c.args.level c.if-level-rows.false c.index-rows-level.result _ c.requires.room, ap length first, ap length c.nodes.ensures, length-map c.nodes.result.now (λ d. d.0))

pub extend-joined-requires-clause-place : goal.extend-joined-requires-clause-place
extend-joined-requires-clause-place g t c =
    omega (arith, c.requires.place.3, count_here c.args.rows.now c.args.level c.if-level-rows.false c.index-rows-level.result c.requires.place.0 c.requires.place.1 c.requires.place.2)

pub add_rows-requires : goal.add_rows-requires
add_rows-requires g t c κs within =
    let hash = g.H.TreeHash.of in
    let rows = c.args.rows.now in
    let level = c.args.level in
    let inside = c.if-level-rows.false in
    let default = c.index-rows-level.result in
    let seam = edge (option_map (λ d. d.0) c.args.seam) in
    let joined = edge (option_map (λ d. d.0) c.extend-joined.result) in
    let stretch = c.args.stretch.now in
    let p = c.requires.place.0 in
    let count = c.requires.place.1 in
    let first = lowest_first stretch c.row-item.result c.in-len1-up.len_at_least c.row-item.is in
    let total = level_count c.args.stretch.now c.row-item.result c.in-len1-up.len_at_least c.row-item.is g.H.TreeHash.of c.args.start c.requires.holds (map (λ d. d.0) c.nodes.result.now) (edge (option_map (λ d. d.0) c.args.seam)) (edge (option_map (λ d. d.0) c.extend-joined.result)) c.nodes.ensures
    (get_or c.args.rows.now c.args.level c.index-rows-level.result) c.extend-joined.new.row c.extend-joined.ensures.nodes c.extend-joined.ensures.above in
    let low = level_low c.args.stretch.now c.row-item.result c.in-len1-up.len_at_least c.row-item.is g.H.TreeHash.of c.args.start c.requires.holds (map (λ d. d.0) c.nodes.result.now) (edge (option_map (λ d. d.0) c.args.seam)) (edge (option_map (λ d. d.0) c.extend-joined.result)) c.nodes.ensures
    (get_or c.args.rows.now c.args.level c.index-rows-level.result) c.extend-joined.new.row c.extend-joined.ensures.nodes c.extend-joined.ensures.above in
    let stay = rows_above rows level inside default c.extend-joined.new.row (set rows level c.extend-joined.new.row) refl in
    let sum =
    place_up p count c.args.start (length seam) (length (lowest stretch)) (length joined) (length (lowest (above stretch))) (length (get_or rows level default).nodes)
    (count_here rows level inside default p count c.requires.place.2) c.requires.place.3 (edge_few (option_map (λ d. d.0) c.args.seam)) (omega (arith, ap length first, c.len.ensures, c.if-len-eq0.false)) low total in
    let counted = subst (HasCounted (p / 2) (count / 2)) (sym stay) (count_above rows level inside default p count c.requires.place.2) in
    let holds = holds_above stretch c.row-item.result c.in-len1-up.len_at_least c.row-item.is hash c.args.start c.requires.holds in
    let place : (q : ℕ) × (n : ℕ) × HasCounted q n (drop (level + 1) (set rows level c.extend-joined.new.row)) × (n + length joined ≡ c.args.start / 2 + c.args.start % 2) = (p / 2, count / 2, counted, sum) in
    let room = subst (HasRoom (length joined + length (lowest (above stretch)))) (sym stay) (subst (λ j. HasRoom j (drop (level + 1) rows)) (sym total) (room_over rows level inside default (length seam + length (lowest stretch)) c.requires.room)) in
    search (holds, place, room, rules)

pub returns-in-empty-clause-over : goal.returns-in-empty-clause-over
returns-in-empty-clause-over g t c p floor ps xs ones le fits keeps =
    let seam = edge (option_map (λ d. d.0) c.args.seam) in
    subst (λ t. KeepsOver g.H.TreeHash.of p floor (drop c.args.level c.add_seam.new.rows) ps (xs ++ t)) (sym (none_behind seam (lowest c.args.stretch.now) (lowest_none c.args.stretch.now c.in-empty.len_below)))
    (c.add_seam.ensures.over p floor ps xs ones le fits keeps)

pub returns-in-empty-clause-room : goal.returns-in-empty-clause-room
returns-in-empty-clause-room g t c more room =
    let seam = length (edge (option_map (λ d. d.0) c.args.seam)) in
    let none : seam + length (lowest c.args.stretch.now) + more ≡ seam + more = omega (arith, lowest_none c.args.stretch.now c.in-empty.len_below) in
    c.add_seam.ensures.room more (subst (λ n. HasRoom n (drop c.args.level c.args.rows.now)) none room)

pub returns-else-level-rows-clause-below : goal.returns-else-level-rows-clause-below
returns-else-level-rows-clause-below g t c = below_set c.args.rows.now c.args.level c.if-level-rows.false c.extend-joined.new.row c.add_rows.new.rows c.add_rows.ensures.below

pub returns-else-level-rows-clause-over : goal.returns-else-level-rows-clause-over
returns-else-level-rows-clause-over g t c p floor ps xs ones le fits keeps =
    over_added c.args.rows.now c.args.level c.if-level-rows.false c.index-rows-level.result c.extend-joined.new.row c.add_rows.new.rows c.add_rows.ensures.below g.H.TreeHash.of
    (edge (option_map (λ d. d.0) c.args.seam) ++ lowest c.args.stretch.now) (edge (option_map (λ d. d.0) c.extend-joined.result) ++ lowest (above c.args.stretch.now))
    (level_nodes c.args.stretch.now c.row-item.result c.in-len1-up.len_at_least c.row-item.is g.H.TreeHash.of c.args.start c.requires.holds (map (λ d. d.0) c.nodes.result.now) (edge (option_map (λ d. d.0) c.args.seam)) (edge (option_map (λ d. d.0) c.extend-joined.result)) c.nodes.ensures
    (get_or c.args.rows.now c.args.level c.index-rows-level.result) c.extend-joined.new.row c.extend-joined.ensures.nodes c.extend-joined.ensures.above)
    (level_up c.args.stretch.now c.row-item.result c.in-len1-up.len_at_least c.row-item.is g.H.TreeHash.of c.args.start c.requires.holds (map (λ d. d.0) c.nodes.result.now) (edge (option_map (λ d. d.0) c.args.seam)) (edge (option_map (λ d. d.0) c.extend-joined.result)) c.nodes.ensures
    (get_or c.args.rows.now c.args.level c.index-rows-level.result) c.extend-joined.new.row c.extend-joined.ensures.nodes c.extend-joined.ensures.above) p floor ps xs ones le fits c.add_rows.ensures.over keeps

pub returns-else-level-rows-clause-room : goal.returns-else-level-rows-clause-room
returns-else-level-rows-clause-room g t c =
    room_left c.args.rows.now c.args.level c.if-level-rows.false c.index-rows-level.result c.extend-joined.new.row c.add_rows.new.rows c.add_rows.ensures.below
    (length (edge (option_map (λ d. d.0) c.args.seam)) + length (lowest c.args.stretch.now)) (length (edge (option_map (λ d. d.0) c.extend-joined.result)) + length (lowest (above c.args.stretch.now)))
    (level_len c.args.stretch.now c.row-item.result c.in-len1-up.len_at_least c.row-item.is g.H.TreeHash.of c.args.start c.requires.holds (map (λ d. d.0) c.nodes.result.now) (edge (option_map (λ d. d.0) c.args.seam)) (edge (option_map (λ d. d.0) c.extend-joined.result)) c.nodes.ensures
    (get_or c.args.rows.now c.args.level c.index-rows-level.result) c.extend-joined.new.row c.extend-joined.ensures.nodes c.extend-joined.ensures.above) c.extend-joined.ensures.room
    (level_count c.args.stretch.now c.row-item.result c.in-len1-up.len_at_least c.row-item.is g.H.TreeHash.of c.args.start c.requires.holds (map (λ d. d.0) c.nodes.result.now) (edge (option_map (λ d. d.0) c.args.seam)) (edge (option_map (λ d. d.0) c.extend-joined.result)) c.nodes.ensures
    (get_or c.args.rows.now c.args.level c.index-rows-level.result) c.extend-joined.new.row c.extend-joined.ensures.nodes c.extend-joined.ensures.above) c.add_rows.ensures.room

use Rattle.std.proofs.Common.{arith, rules, ◌++◌, ◌/◌, ◌-◌, ◌≤◌, ◌+◌, length, take, option_map}
use Rattle.tree_model.specs.Halves.{edge, pairs}
use Rattle.tree_model.proofs.Halves.{length-pairs}
use Rattle.merkle_batch.proofs.Climbing.{nodes_here, nodes_above, keeps_here, keeps_above, no_digests, climb_end, climb_up}
use Rattle.tree_model.specs.RootFrom.{last_peak, other_peaks}
use Rattle.tree_model.proofs.PeakHalves.{length-other_peaks}
use Rattle.merkle_batch.proofs.Over.{over_here, over_above, no_over, over_end, over_up, over_join, length-level}
use Rattle.merkle_batch.proofs.rows.+climb.Goals as goal

pub join-joined-requires-clause-there : goal.join-joined-requires-clause-there
join-joined-requires-clause-there g t c = nodes_here c.args.rows.now c.row-item.result c.in-len1-up.len_at_least c.row-item.is c.args.p c.args.count c.requires.there

pub climb-requires : goal.climb-requires
climb-requires g t c κs within =
    let above = nodes_above c.args.rows.now c.row-item.result c.in-len1-up.len_at_least c.row-item.is c.args.p c.args.count c.requires.there in
    let floor : c.args.p / 2 ≤ c.args.count / 2 = omega (arith, c.requires.floor) in
    search (above, floor, rules)

pub returns-in-empty-clause-list : goal.returns-in-empty-clause-list
returns-in-empty-clause-list g t c ds keeps floor le =
    climb_end g.H.TreeHash.of c.args.count ds (option_map (λ d. d.0) c.args.behind) (no_digests g.H.TreeHash.of c.args.p c.args.rows.now ds c.in-empty.len_below keeps)

pub returns-in-len1-up-clause-list : goal.returns-in-len1-up-clause-list
returns-in-len1-up-clause-list g t c ds keeps floor le =
    let hash = g.H.TreeHash.of in
    let here = keeps_here c.args.rows.now c.row-item.result c.in-len1-up.len_at_least c.row-item.is hash c.args.p ds keeps in
    let up = keeps_above c.args.rows.now c.row-item.result c.in-len1-up.len_at_least c.row-item.is hash c.args.p ds keeps in
    climb_up hash (take c.args.count ds ++ edge (option_map (λ d. d.0) c.args.behind)) (take (c.args.count / 2) (pairs hash ds) ++ edge (option_map (λ d. d.0) c.join-joined.result)) (option_map (λ d. d.0) c.climb.result)
    (c.join-joined.ensures ds here le)
    (c.climb.ensures.list (pairs hash ds) up (omega (arith, length-pairs hash ds)) (omega (arith, length-pairs hash ds)))

pub returns-in-empty-clause-over : goal.returns-in-empty-clause-over
returns-in-empty-clause-over g t c q ps xs ones le within keeps =
    let hash = g.H.TreeHash.of in
    over_end hash q c.args.count ps xs (option_map (λ d. d.0) c.args.behind) (no_over hash q c.args.p c.args.rows.now ps xs c.in-empty.len_below keeps)

pub returns-in-len1-up-clause-over : goal.returns-in-len1-up-clause-over
returns-in-len1-up-clause-over g t c q ps xs ones le within keeps =
    let hash = g.H.TreeHash.of in
    let next = pairs hash (last_peak q ps ++ xs) in
    let behind = option_map (λ d. d.0) c.args.behind in
    let result = option_map (λ d. d.0) c.join-joined.result in
    let here = over_here c.args.rows.now c.row-item.result c.in-len1-up.len_at_least c.row-item.is hash q c.args.p ps xs keeps in
    let up = over_above c.args.rows.now c.row-item.result c.in-len1-up.len_at_least c.row-item.is hash q c.args.p ps xs keeps in
    let above : c.args.count / 2 ≤ q / 2 + length next = omega (arith, within, length-pairs hash (last_peak q ps ++ xs), length-level q ps xs ones) in
    over_up hash q ps (take (c.args.count - q) xs ++ edge behind) (take (c.args.count / 2 - q / 2) next ++ edge result) (option_map (λ d. d.0) c.climb.result) ones
    (over_join hash q c.args.p c.args.count ps xs ones le c.requires.floor within c.row-item.result here behind result c.join-joined.ensures)
    (c.climb.ensures.over (q / 2) (other_peaks q ps) next (length-other_peaks ps q ones) (omega (arith, le)) above up)

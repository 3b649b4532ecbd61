use Rattle.std.proofs.Common.{arith, rules, ◌/◌, ◌≤◌, length, map, option_map}
use Rattle.tree_model.specs.Halves.{edge, pairs}
use Rattle.tree_model.proofs.Halves.{length-pairs}
use Rattle.merkle_batch.proofs.Climbing.{nodes_here, nodes_above, keeps_here, keeps_above, no_digests, on_ok, no_nodes}
use Rattle.merkle_batch.proofs.Peaking.{peaks_end, peaks_up}
use Rattle.merkle_batch.proofs.Counting.{pushed, peak_count, none_count}
use Rattle.merkle_batch.proofs.rows.+add_peaks.Goals as goal

pub add_peaks-requires : goal.add_peaks-requires
add_peaks-requires t c =
    let above = nodes_above c.args.rows.now c.row-item.result c.in-len1-up.len_at_least c.row-item.is c.args.p c.args.count c.requires.there in
    let floor : c.args.p / 2 ≤ c.args.count / 2 = omega (arith, c.requires.floor) in
    search (above, floor, rules)

pub odd_last-requires-clause-there : goal.odd_last-requires-clause-there
odd_last-requires-clause-there t c = nodes_here c.args.rows.now c.row-item.result c.in-len1-up.len_at_least c.row-item.is c.args.p c.args.count c.requires.there

pub returns-in-empty-clause-list : goal.returns-in-empty-clause-list
returns-in-empty-clause-list t c hash ds keeps floor le =
    peaks_end hash c.args.count ds (map (λ d. d.0) c.args.digests.now.items) (no_digests hash c.args.p c.args.rows.now ds c.in-empty.len_below keeps)

pub returns-in_ok-add_peaks-in-len1-up-clause-list : goal.returns-in_ok-add_peaks-in-len1-up-clause-list
returns-in_ok-add_peaks-in-len1-up-clause-list t c =
    on_ok c.push_some.result (λ pushed hash ds keeps floor le.
    let here = keeps_here c.args.rows.now c.row-item.result c.in-len1-up.len_at_least c.row-item.is hash c.args.p ds keeps in
    let up = keeps_above c.args.rows.now c.row-item.result c.in-len1-up.len_at_least c.row-item.is hash c.args.p ds keeps in
    peaks_up hash c.args.count ds (map (λ d. d.0) c.args.digests.now.items) (map (λ d. d.0) c.add_peaks.new.digests.items) (map (λ d. d.0) c.push_some.new.digests.items) (edge (option_map (λ d. d.0) c.odd_last.result))
    (c.in_ok-add_peaks-in-len1-up.ensures.list hash (pairs hash ds) up (omega (arith, length-pairs hash ds)) (omega (arith, length-pairs hash ds))) pushed (c.odd_last.ensures ds here le)) c.push_some.ensures

pub returns-in-empty-clause-count : goal.returns-in-empty-clause-count
returns-in-empty-clause-count t c =
    none_count c.args.count (length c.args.digests.now.items) (no_nodes c.args.p c.args.count c.args.rows.now c.in-empty.len_below c.requires.there)

pub returns-in_ok-add_peaks-in-len1-up-clause-count : goal.returns-in_ok-add_peaks-in-len1-up-clause-count
returns-in_ok-add_peaks-in-len1-up-clause-count t c =
    on_ok c.push_some.result (λ more.
    let there = nodes_here c.args.rows.now c.row-item.result c.in-len1-up.len_at_least c.row-item.is c.args.p c.args.count c.requires.there in
    peak_count c.args.p c.args.count c.row-item.result c.requires.floor there (edge (option_map (λ d. d.0) c.odd_last.result))
    (length c.args.digests.now.items) (length c.add_peaks.new.digests.items) (length c.push_some.new.digests.items) c.odd_last.ensures c.in_ok-add_peaks-in-len1-up.ensures.count
    (pushed (λ d. d.0) c.add_peaks.new.digests.items c.push_some.new.digests.items (edge (option_map (λ d. d.0) c.odd_last.result)) more)) c.push_some.ensures

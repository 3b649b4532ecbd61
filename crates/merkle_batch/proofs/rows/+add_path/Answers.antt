use Rattle.std.proofs.Common.{arith, rules, ◌+◌, ◌++◌, ◌/◌, ◌≤◌, ◌<◌, ◌^◌, length, take, map, option_map}
use Rattle.tree_model.specs.Halves.{edge, pairs}
use Rattle.tree_model.proofs.Halves.{length-pairs}
use Rattle.merkle_batch.specs.Rows.{first_of}
use Rattle.merkle_batch.proofs.Climbing.{nodes_here, nodes_above, keeps_here, keeps_above, no_digests, path_end, path_up, on_ok, no_nodes}
use Rattle.merkle_batch.proofs.Counting.{pushed, up_count, end_count}
use Rattle.merkle_batch.proofs.rows.+add_path.Goals as goal

pub sibling-requires-clause-there : goal.sibling-requires-clause-there
sibling-requires-clause-there g t c = nodes_here c.args.rows.now c.row-item.result c.in-len1-up.len_at_least c.row-item.is c.args.p c.args.count c.requires.there

pub join-joined-requires-clause-there : goal.join-joined-requires-clause-there
join-joined-requires-clause-there g t c = nodes_here c.args.rows.now c.row-item.result c.in-len1-up.len_at_least c.row-item.is c.args.p c.args.count c.requires.there

pub add_path-requires : goal.add_path-requires
add_path-requires g t c κs within =
    let above = nodes_above c.args.rows.now c.row-item.result c.in-len1-up.len_at_least c.row-item.is c.args.p c.args.count c.requires.there in
    let first : first_of (c.args.p / 2) ≤ c.args.n / 2 = omega (arith, c.requires.first) in
    let floor : c.args.p / 2 ≤ c.args.count / 2 = omega (arith, c.requires.floor) in
    let small : c.args.n / 2 + 1 < 2 ^ 64 = omega (arith, c.requires.small) in
    let leaf : c.args.n / 2 ≤ c.args.count / 2 = omega (arith, c.requires.leaf) in
    search (above, first, floor, small, leaf, rules)

pub returns-in-empty-clause-list : goal.returns-in-empty-clause-list
returns-in-empty-clause-list g t c ds keeps floor le within =
    path_end g.H.TreeHash.of c.args.n c.args.count ds (option_map (λ d. d.0) c.args.behind) (map (λ d. d.0) c.args.digests.now.items)
    (no_digests g.H.TreeHash.of c.args.p c.args.rows.now ds c.in-empty.len_below keeps) within

pub returns-in_ok-push_some-in-len1-up-clause-list : goal.returns-in_ok-push_some-in-len1-up-clause-list
returns-in_ok-push_some-in-len1-up-clause-list g t c =
    let hash = g.H.TreeHash.of in
    on_ok c.add_path.result (λ rest ds keeps floor le within.
    let here = keeps_here c.args.rows.now c.row-item.result c.in-len1-up.len_at_least c.row-item.is hash c.args.p ds keeps in
    let up = keeps_above c.args.rows.now c.row-item.result c.in-len1-up.len_at_least c.row-item.is hash c.args.p ds keeps in
    path_up hash c.args.n (take c.args.count ds ++ edge (option_map (λ d. d.0) c.args.behind)) (take (c.args.count / 2) (pairs hash ds) ++ edge (option_map (λ d. d.0) c.join-joined.result))
    (edge (option_map (λ d. d.0) c.sibling.result)) (map (λ d. d.0) c.args.digests.now.items) (map (λ d. d.0) c.push_some.new.digests.items) (map (λ d. d.0) c.add_path.new.digests.items)
    within (c.join-joined.ensures ds here le) (c.sibling.ensures ds here floor le) c.in_ok-push_some-in-len1-up.ensures
    (rest (pairs hash ds) up (omega (arith, length-pairs hash ds)) (omega (arith, length-pairs hash ds)))) c.add_path.ensures.list

pub returns-in-empty-clause-count : goal.returns-in-empty-clause-count
returns-in-empty-clause-count g t c within =
    let none = end_count g.H.TreeHash.of c.args.n c.args.count (option_map (λ d. d.0) c.args.behind) (no_nodes c.args.p c.args.count c.args.rows.now c.in-empty.len_below c.requires.there) within in
    omega (arith, none)

pub returns-in_ok-push_some-in-len1-up-clause-count : goal.returns-in_ok-push_some-in-len1-up-clause-count
returns-in_ok-push_some-in-len1-up-clause-count g t c =
    on_ok c.add_path.result (λ rest within.
    let there = nodes_here c.args.rows.now c.row-item.result c.in-len1-up.len_at_least c.row-item.is c.args.p c.args.count c.requires.there in
    up_count c.args.p c.args.count c.row-item.result c.requires.floor there g.H.TreeHash.of (option_map (λ d. d.0) c.args.behind) c.args.n (option_map (λ d. d.0) c.sibling.result) (option_map (λ d. d.0) c.join-joined.result)
    (length c.args.digests.now.items) (length c.push_some.new.digests.items) (length c.add_path.new.digests.items) c.sibling.ensures c.join-joined.ensures
    (pushed (λ d. d.0) c.args.digests.now.items c.push_some.new.digests.items (edge (option_map (λ d. d.0) c.sibling.result)) c.in_ok-push_some-in-len1-up.ensures) rest within) c.add_path.ensures.count

use Rattle.std.proofs.Common.{arith, rules, ◌++◌, ◌/◌, ◌≤◌, ◌<◌, length, take, map, option_map}
use Rattle.tree_model.specs.Halves.{edge, pairs}
use Rattle.tree_model.proofs.Halves.{length-pairs}
use Rattle.merkle_batch.proofs.Climbing.{nodes_here, nodes_above, keeps_here, keeps_above, no_digests, proof_end, proof_up, proof_here, on_ok, no_nodes}
use Rattle.merkle_batch.proofs.Counting.{pushed, even_up, odd_up}
use Rattle.merkle_batch.proofs.rows.+add_proof.Goals as goal

pub join-joined-requires-clause-there : goal.join-joined-requires-clause-there
join-joined-requires-clause-there g t c = nodes_here c.args.rows.now c.row-item.result c.in-len1-up.len_at_least c.row-item.is c.args.p c.args.count c.requires.there

pub last_of-requires-clause-there : goal.last_of-requires-clause-there
last_of-requires-clause-there g t c = nodes_here c.args.rows.now c.row-item.result c.in-len1-up.len_at_least c.row-item.is c.args.p c.args.count c.requires.there

pub add_proof-requires : goal.add_proof-requires
add_proof-requires g t c κs within =
    let above = nodes_above c.args.rows.now c.row-item.result c.in-len1-up.len_at_least c.row-item.is c.args.p c.args.count c.requires.there in
    let some : 0 < c.args.m / 2 = omega (arith, c.requires.some, c.if-m-eq0.true) in
    let floor : c.args.p / 2 ≤ c.args.m / 2 = omega (arith, c.requires.floor) in
    let fewer : c.args.m / 2 ≤ c.args.count / 2 = omega (arith, c.requires.within) in
    search (above, some, floor, fewer, rules)

pub returns-in-empty-clause-list : goal.returns-in-empty-clause-list
returns-in-empty-clause-list g t c ds keeps floor le less =
    absurd (proof_end g.H.TreeHash.of c.args.m c.args.count ds (option_map (λ d. d.0) c.args.behind) (no_digests g.H.TreeHash.of c.args.p c.args.rows.now ds c.in-empty.len_below keeps) c.requires.some less)

pub returns-then-m-eq0-clause-list : goal.returns-then-m-eq0-clause-list
returns-then-m-eq0-clause-list g t c =
    let hash = g.H.TreeHash.of in
    on_ok c.add_proof.result (λ rest ds keeps floor le less.
    let here = keeps_here c.args.rows.now c.row-item.result c.in-len1-up.len_at_least c.row-item.is hash c.args.p ds keeps in
    let up = keeps_above c.args.rows.now c.row-item.result c.in-len1-up.len_at_least c.row-item.is hash c.args.p ds keeps in
    proof_up hash c.args.m (take c.args.count ds ++ edge (option_map (λ d. d.0) c.args.behind)) (take (c.args.count / 2) (pairs hash ds) ++ edge (option_map (λ d. d.0) c.join-joined.result))
    (map (λ d. d.0) c.args.digests.now.items) (map (λ d. d.0) c.add_proof.new.digests.items) c.requires.some less c.if-m-eq0.true (c.join-joined.ensures ds here le)
    (rest (pairs hash ds) up (omega (arith, length-pairs hash ds)) (omega (arith, length-pairs hash ds)))) c.add_proof.ensures.list

pub returns-in_ok-push_some-in-len1-up-clause-list : goal.returns-in_ok-push_some-in-len1-up-clause-list
returns-in_ok-push_some-in-len1-up-clause-list g t c =
    let hash = g.H.TreeHash.of in
    on_ok c.add_path.result (λ rest ds keeps floor le less.
    let here = keeps_here c.args.rows.now c.row-item.result c.in-len1-up.len_at_least c.row-item.is hash c.args.p ds keeps in
    proof_here hash c.args.m (take c.args.count ds ++ edge (option_map (λ d. d.0) c.args.behind)) (edge (option_map (λ d. d.0) c.last_of.result))
    (map (λ d. d.0) c.args.digests.now.items) (map (λ d. d.0) c.push_some.new.digests.items) (map (λ d. d.0) c.add_path.new.digests.items)
    less (omega (arith, c.if-m-eq0.false)) (c.last_of.ensures ds (edge (option_map (λ d. d.0) c.args.behind)) here le) c.in_ok-push_some-in-len1-up.ensures
    (rest ds keeps floor le (omega (arith, less)))) c.add_path.ensures.list

pub returns-in-empty-clause-count : goal.returns-in-empty-clause-count
returns-in-empty-clause-count g t c less =
    absurd (omega (arith, no_nodes c.args.p c.args.count c.args.rows.now c.in-empty.len_below c.requires.there, c.requires.some, c.requires.within))

pub returns-then-m-eq0-clause-count : goal.returns-then-m-eq0-clause-count
returns-then-m-eq0-clause-count g t c =
    on_ok c.add_proof.result (λ rest less.
    let there = nodes_here c.args.rows.now c.row-item.result c.in-len1-up.len_at_least c.row-item.is c.args.p c.args.count c.requires.there in
    even_up c.args.p c.args.count c.row-item.result (omega (arith, c.requires.floor, c.requires.within)) there g.H.TreeHash.of (option_map (λ d. d.0) c.args.behind) c.args.m (option_map (λ d. d.0) c.join-joined.result)
    (length c.args.digests.now.items) (length c.add_proof.new.digests.items) c.requires.some c.if-m-eq0.true c.join-joined.ensures rest less) c.add_proof.ensures.count

pub returns-in_ok-push_some-in-len1-up-clause-count : goal.returns-in_ok-push_some-in-len1-up-clause-count
returns-in_ok-push_some-in-len1-up-clause-count g t c =
    on_ok c.add_path.result (λ rest less.
    let there = nodes_here c.args.rows.now c.row-item.result c.in-len1-up.len_at_least c.row-item.is c.args.p c.args.count c.requires.there in
    odd_up c.args.p c.args.count c.row-item.result (omega (arith, c.requires.floor, c.requires.within)) there g.H.TreeHash.of (option_map (λ d. d.0) c.args.behind) c.args.m (option_map (λ d. d.0) c.last_of.result)
    (length c.args.digests.now.items) (length c.push_some.new.digests.items) (length c.add_path.new.digests.items) (omega (arith, c.if-m-eq0.false)) c.last_of.ensures
    (pushed (λ d. d.0) c.args.digests.now.items c.push_some.new.digests.items (edge (option_map (λ d. d.0) c.last_of.result)) c.in_ok-push_some-in-len1-up.ensures) rest less) c.add_path.ensures.count

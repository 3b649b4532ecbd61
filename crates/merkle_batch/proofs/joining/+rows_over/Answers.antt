use Rattle.std.proofs.Common.{arith, rules, ◌<◌, ◌-◌, ◌%◌, take, length, length-drop, drop, map, ap, sym, ◌∙◌}
use Rattle.std.proofs.lemmas.List.{nil_from_length}
use Rattle.tree_model.specs.Halves.{pairs}
use Rattle.tree_model.proofs.Halves.{length-pairs}
use Rattle.merkle_batch.proofs.Climbing.{on_ok}
use Rattle.merkle_batch.proofs.Peaking.{in_front}
use Rattle.merkle_batch.proofs.Copying.{on_all, lowest_end, lowest_behind, holds_end, holds_behind, nodes_from}
use Rattle.merkle_batch.proofs.joining.+rows_over.Goals as goal

pub returns-then-len-eq0-clause-nodes : goal.returns-then-len-eq0-clause-nodes
returns-then-len-eq0-clause-nodes g t c = lowest_end c.args.rows.now.items ∙ sym (nil_from_length c.args.row.nodes (omega (arith, c.len.ensures, c.if-len-eq0.true)))

pub returns-then-len-eq0-clause-holds : goal.returns-then-len-eq0-clause-holds
returns-then-len-eq0-clause-holds g t c = holds_end g.H.TreeHash.of c.args.start c.args.rows.now.items

pub rows_over-requires : goal.rows_over-requires
rows_over-requires g t c κs within =
    let nodes = ap length (nodes_from (λ d. d.0) c.nodes.result.now c.args.row.nodes (c.args.start % 2) c.nodes.ensures) in
    let falls : length c.in_ok-above.above.nodes < length c.args.row.nodes =
    omega (arith, ap length c.in_ok-above.ensures, length-pairs g.H.TreeHash.of (map (λ d. d.0) (take (length c.nodes.result.now - c.args.start % 2) (drop (c.args.start % 2) c.nodes.result.now))), nodes, length-drop (c.args.start % 2) c.args.row.nodes, c.len.ensures, c.if-len-eq0.false) in
    search (falls, rules)

pub returns-clause-front : goal.returns-clause-front
returns-clause-front g t c =
    on_ok c.rows_over.result (λ front. in_front c.args.rows.now.items c.push.new.self.items c.rows_over.new.rows.items c.args.row c.in_ok-push.ensures.items front) c.rows_over.ensures.front

pub returns-clause-nodes : goal.returns-clause-nodes
returns-clause-nodes g t c =
    on_ok c.rows_over.result (λ front. lowest_behind c.args.rows.now.items c.push.new.self.items c.rows_over.new.rows.items c.args.row c.in_ok-push.ensures.items front) c.rows_over.ensures.front

pub returns-clause-holds : goal.returns-clause-holds
returns-clause-holds g t c =
    on_all c.rows_over.result (λ front nodes holds.
    holds_behind g.H.TreeHash.of c.args.start c.args.rows.now.items c.push.new.self.items c.rows_over.new.rows.items c.args.row c.in_ok-push.ensures.items front
    (nodes ∙ c.in_ok-above.ensures ∙ ap (pairs g.H.TreeHash.of) (nodes_from (λ d. d.0) c.nodes.result.now c.args.row.nodes (c.args.start % 2) c.nodes.ensures)) holds)
    c.rows_over.ensures.front c.rows_over.ensures.nodes c.rows_over.ensures.holds

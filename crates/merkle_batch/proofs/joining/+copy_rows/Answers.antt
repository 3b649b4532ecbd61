use Rattle.std.proofs.Common.{arith, rules, ◌≤◌, ◌+◌, ◌-◌, ◌/◌, ◌%◌, take, drop, ap, sym, ◌∙◌}
use Rattle.merkle_batch.specs.Rows.{first_of}
use Rattle.tree_model.specs.RootFrom.{other_peaks}
use Rattle.tree_model.proofs.PeakHalves.{length-other_peaks}
use Rattle.merkle_batch.proofs.Climbing.{on_ok, nodes_here, nodes_above, no_nodes}
use Rattle.merkle_batch.proofs.Peaking.{in_front}
use Rattle.merkle_batch.proofs.Over.{over_here, over_above}
use Rattle.merkle_batch.proofs.Stretching.{lowest_first}
use Rattle.merkle_batch.proofs.Copying.{on_all, copied_none, copied_nodes, copied_pairs, holds_end, holds_behind, lowest_behind}
use Rattle.merkle_batch.proofs.joining.+copy_rows.Goals as goal

pub returns-then-from-to-clause-nodes : goal.returns-then-from-to-clause-nodes
returns-then-from-to-clause-nodes t c = copied_none c.args.p c.args.from c.args.to c.args.rows.now c.args.copies.now.items c.if-from-to.true

pub returns-then-from-to-clause-holds : goal.returns-then-from-to-clause-holds
returns-then-from-to-clause-holds t c hash q ps xs ones le keeps = holds_end hash c.args.from c.args.copies.now.items

pub unreachable-requires : goal.unreachable-requires
unreachable-requires t c = omega (arith, no_nodes c.args.p c.args.to c.args.rows.now c.in-empty.len_below c.requires.there, c.if-from-to.false)

pub copy-requires-clause-within : goal.copy-requires-clause-within
copy-requires-clause-within t c = omega (arith, nodes_here c.args.rows.now c.row-item.result c.in-len1-up.len_at_least c.row-item.is c.args.p c.args.to c.requires.there)

pub copy_rows-requires : goal.copy_rows-requires
copy_rows-requires t c =
    let above = nodes_above c.args.rows.now c.row-item.result c.in-len1-up.len_at_least c.row-item.is c.args.p c.args.to c.requires.there in
    let low : c.args.p / 2 ≤ c.args.from / 2 + c.args.from % 2 = omega (arith, c.requires.floor) in
    search (above, low, rules)

pub returns-clause-front : goal.returns-clause-front
returns-clause-front t c =
    on_ok c.copy_rows.result (λ front. in_front c.args.copies.now.items c.push.new.self.items c.copy_rows.new.copies.items c.in_ok-copied-in-len1-up.copied c.in_ok-push-in-len1-up.ensures.items front) c.copy_rows.ensures.front

pub returns-clause-nodes : goal.returns-clause-nodes
returns-clause-nodes t c =
    on_ok c.copy_rows.result (λ front.
    lowest_behind c.args.copies.now.items c.push.new.self.items c.copy_rows.new.copies.items c.in_ok-copied-in-len1-up.copied c.in_ok-push-in-len1-up.ensures.items front
    ∙ copied_nodes c.args.p c.args.from c.args.to c.row-item.result.nodes c.in_ok-copied-in-len1-up.copied.nodes c.requires.floor c.in_ok-copied-in-len1-up.ensures
    ∙ ap (λ ns. take (c.args.to - c.args.from) (drop (c.args.from - first_of c.args.p) ns)) (sym (lowest_first c.args.rows.now c.row-item.result c.in-len1-up.len_at_least c.row-item.is))) c.copy_rows.ensures.front

pub returns-clause-holds : goal.returns-clause-holds
returns-clause-holds t c =
    on_all c.copy_rows.result (λ front nodes holds hash q ps xs ones le keeps.
    let here = over_here c.args.rows.now c.row-item.result c.in-len1-up.len_at_least c.row-item.is hash q c.args.p ps xs keeps in
    let up = over_above c.args.rows.now c.row-item.result c.in-len1-up.len_at_least c.row-item.is hash q c.args.p ps xs keeps in
    let copied = copied_nodes c.args.p c.args.from c.args.to c.row-item.result.nodes c.in_ok-copied-in-len1-up.copied.nodes c.requires.floor c.in_ok-copied-in-len1-up.ensures in
    holds_behind hash c.args.from c.args.copies.now.items c.push.new.self.items c.copy_rows.new.copies.items c.in_ok-copied-in-len1-up.copied c.in_ok-push-in-len1-up.ensures.items front
    (copied_pairs hash q c.args.p ps xs ones le c.args.from c.args.to c.requires.floor c.if-from-to.false c.row-item.result _ c.in_ok-copied-in-len1-up.copied.nodes _ copied nodes here up)
    (holds hash (q / 2) (other_peaks q ps) _ (length-other_peaks ps q ones) (omega (arith, le)) up))
    c.copy_rows.ensures.front c.copy_rows.ensures.nodes c.copy_rows.ensures.holds

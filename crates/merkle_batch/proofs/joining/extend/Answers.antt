use Rattle.std.proofs.Common.{map, take, drop, length, ◌-◌, option_map}
use Rattle.tree_model.specs.Halves.{edge}
use Rattle.merkle_batch.proofs.Stretching.{edge_few, none_mapped, head_rest, extend_even, extend_none, extend_odd}
use Rattle.merkle_batch.proofs.joining.extend.Goals as goal

pub returns-then-start-eq0-clause-above : goal.returns-then-start-eq0-clause-above
returns-then-start-eq0-clause-above g c =
    extend_even g.H.TreeHash.of c.args.row.now.nodes c.push_seam-joined.new.row.nodes (edge (option_map (λ d. d.0) c.args.seam)) (edge (option_map (λ d. d.0) c.push_seam-joined.result)) (map (λ d. d.0) c.args.nodes.now) c.args.start
    c.push_seam-joined.ensures.nodes c.push_seam-joined.ensures.above c.requires.place c.push_all.new.self.nodes c.push_all.ensures.nodes c.if-start-eq0.true

pub returns-in-empty-clause-above : goal.returns-in-empty-clause-above
returns-in-empty-clause-above g c =
    extend_none g.H.TreeHash.of c.args.row.now.nodes c.push_seam-joined.new.row.nodes (edge (option_map (λ d. d.0) c.args.seam)) (edge (option_map (λ d. d.0) c.push_seam-joined.result)) (map (λ d. d.0) c.args.nodes.now) c.args.start
    c.push_seam-joined.ensures.nodes c.push_seam-joined.ensures.above c.requires.place c.if-start-eq0.false (edge_few (option_map (λ d. d.0) c.args.seam)) (none_mapped (λ d. d.0) c.args.nodes.now c.in-empty.len_below)

pub returns-in-len1-up-clause-above : goal.returns-in-len1-up-clause-above
returns-in-len1-up-clause-above g c =
    extend_odd g.H.TreeHash.of c.args.row.now.nodes c.push_seam-joined.new.row.nodes (edge (option_map (λ d. d.0) c.args.seam)) (edge (option_map (λ d. d.0) c.push_seam-joined.result)) (map (λ d. d.0) c.args.nodes.now) c.args.start
    c.push_seam-joined.ensures.nodes c.push_seam-joined.ensures.above c.requires.place c.if-start-eq0.false (edge_few (option_map (λ d. d.0) c.args.seam))
    c.push-joined.new.row.nodes c.push_all-in-len1-up.new.self.nodes (map (λ d. d.0) (take (length c.args.nodes.now - 1) (drop 1 c.args.nodes.now))) (edge (option_map (λ d. d.0) c.push-joined.result)) _
    c.push-joined.ensures.nodes c.push-joined.ensures.above c.push_all-in-len1-up.ensures.nodes (head_rest (λ d. d.0) c.args.nodes.now _ c.in-len1-up.len_at_least)
